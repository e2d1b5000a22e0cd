-- What each call on a session's words answers and leaves.
use Rattle.std.specs.Prelude.{ℕ, ◌+◌, ◌-◌, min, Bool, cond, ◌&&◌, List, [], ◌∷◌, ◌++◌, length, take, is_some, is_ok, Some, None, Ok, Err, Option, Result, ◌==◌, nat_le, nat_lt, slice_set}
use Rattle.refusals.specs.declared.Refusal.{Refusal}
use Rattle.refusals.specs.declared.Refusal.TheVariants.{OtherGrammar, UnknownWord, SessionFull, NoPlace}
use Rattle.session.specs.State.{State, Over, holding}

-- whether the session is one of this grammar
abbrev pub fits : Over → State → Bool
fits o s = s.number == o.number

-- put: the new count, or why not
abbrev pub putting : Over → State → ℕ → Result ℕ Refusal
putting o s w =
    cond (fits o s) (cond (nat_lt w o.grammar.vocabulary) (cond (nat_lt (length s.held) 40) (Ok (length s.held + 1)) (Err SessionFull)) (Err UnknownWord)) (Err OtherGrammar)

abbrev pub put : Over → State → ℕ → State
put o s w = cond (is_ok (putting o s w)) (holding s (s.held ++ (w ∷ []))) s

-- take back: the new count, or why not
abbrev pub taking : Over → State → ℕ → Result ℕ Refusal
taking o s k = cond (fits o s) (cond (nat_le k (length s.held)) (Ok (length s.held - k)) (Err NoPlace)) (Err OtherGrammar)

abbrev pub taken : Over → State → ℕ → State
taken o s k = cond (is_ok (taking o s k)) (holding s (take (length s.held - k) s.held)) s

-- a trial of a word at a place, counted from 1: why it would be refused, if so
abbrev pub refusing : Over → State → ℕ → ℕ → Option Refusal
refusing o s place w =
    cond (fits o s) (cond (nat_lt w o.grammar.vocabulary) (cond (nat_le 1 place && nat_le place (length s.held)) None (Some NoPlace)) (Some UnknownWord)) (Some OtherGrammar)

-- the words with another one at a place
abbrev pub replaced : List ℕ → ℕ → ℕ → List ℕ
replaced ws place w = slice_set ws (place - 1) w

-- while the trial stands
abbrev pub tried : Over → State → ℕ → ℕ → State
tried o s place w = cond (is_some (refusing o s place w)) s (holding s (replaced s.held place w))

-- once a trial ends that was not kept: the earlier word stands again, unless the trial was refused
abbrev pub back : Result ℕ Refusal → State → ℕ → State
back (Err why) s place = s
back (Ok earlier) s place = cond (nat_le 1 place && nat_le place (length s.held)) (holding s (replaced s.held place earlier)) s

-- one tree more was handed out; the tally stays at its largest
abbrev pub counted : State → State
counted s = record { held = s.held; tally = min (s.tally + 1) 4294967295; number = s.number }
