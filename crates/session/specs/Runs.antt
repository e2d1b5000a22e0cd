-- Lists of calls on a session over one grammar, the words held after them, and the sessions that they lead to.
use Rattle.std.specs.Prelude.{◌≡◌, ℕ, suc, ◌-◌, cond, ◌&&◌, ◌⊎◌, List, [], ◌∷◌, ◌++◌, length, take, Some, None, nat_le, nat_lt}
use Rattle.refusals.specs.declared.Refusal.{Refusal}
use Rattle.session.specs.State.{State, Over, opened, holding}
use Rattle.session.specs.Calls.{put, taken, refusing, tried, replaced, counted}

-- how a trial ends
pub data End : Type 0 where
  kept : End
  dropped : End
  undecided : End

-- a trial is one entry: its place, its word, the requests while it stands and its end; a refused one is place and word alone
pub data Call : Type 0 where
  put_word : (word : ℕ) → Call
  take_back : (count : ℕ) → Call
  trial : (place word requests : ℕ) → End → Call
  refused_trial : (place word : ℕ) → Call
  request : Call

-- the words after one call, by its arguments alone; a call that is refused changes nothing
abbrev pub after : Over → List ℕ → Call → List ℕ
after o ws (put_word w) = cond (nat_lt w o.grammar.vocabulary && nat_lt (length ws) 40) (ws ++ (w ∷ [])) ws
after o ws (take_back k) = cond (nat_le k (length ws)) (take (length ws - k) ws) ws
after o ws (trial place w n kept) = cond (nat_lt w o.grammar.vocabulary && (nat_le 1 place && nat_le place (length ws))) (replaced ws place w) ws
after o ws (trial place w n dropped) = ws
after o ws (trial place w n undecided) = ws
after o ws (refused_trial place w) = ws
after o ws request = ws

-- the words that a session holds after a list of calls
abbrev pub held_from : Over → List ℕ → List Call → List ℕ
held_from o ws [] = ws
held_from o ws (c ∷ calls) = held_from o (after o ws c) calls

abbrev pub held : Over → List Call → List ℕ
held o calls = held_from o [] calls

-- a tree request changes nothing, or counts one tree more
abbrev pub Requested : State → State → Type 0
Requested s t = (t ≡ s) ⊎ (t ≡ counted s)

-- so many requests in turn
pub data Requests : ℕ → State → State → Type 0 where
  none : {s : State} → Requests 0 s s
  more : {n : ℕ} {s t u : State} → Requests n s t → Requested t u → Requests (suc n) s u

-- what a trial leaves of the session t that stands at its end, begun on the session s
abbrev pub ended : Over → State → State → End → State
ended o s t kept = t
ended o s t dropped = holding t s.held
ended o s t undecided = holding t s.held

-- one call leads from s to t, as the contract of the call has it
pub data Step (o : Over) (s : State) : Call → State → Type 0 where
  putting : (w : ℕ) → Step o s (put_word w) (put o s w)
  taking : (k : ℕ) → Step o s (take_back k) (taken o s k)
  trying : (place w n : ℕ) (end : End) (t : State) → refusing o s place w ≡ None → Requests n (tried o s place w) t → Step o s (trial place w n end) (ended o s t end)
  refused : (place w : ℕ) (why : Refusal) → refusing o s place w ≡ Some why → Step o s (refused_trial place w) s
  asking : (t : State) → Requested s t → Step o s request t

-- the calls lead from a session just opened to the session s
pub data Leads (o : Over) : List Call → State → Type 0 where
  start : Leads o [] (opened o)
  next : {calls : List Call} {s t : State} {c : Call} → Leads o calls s → Step o s c t → Leads o (calls ++ (c ∷ [])) t

-- the calls lead to a session on which a trial of w at a place was then begun, and s is what stands after some requests in it
pub record Stands (o : Over) (calls : List Call) (place w : ℕ) (s : State) : Type 0 where
  pub before : State
  pub requests : ℕ
  pub leads : Leads o calls before
  pub begun : refusing o before place w ≡ None
  pub since : Requests requests (tried o before place w) s
