-- The words of a sentence that is heard are known, and at most 20.
use Rattle.std.proofs.Common.{◌≡◌, ℕ, ◌<◌, ◌≤◌, Bool, true, false, cond, ltb, List, [], ◌∷◌, ◌++◌, length, Some, None, Ok, Err, Option, Result, refl, subst, arith, length-append}
use Rattle.std.proofs.lemmas.Bool.{ltb-true}
use Rattle.std.proofs.lemmas.List.Quantifiers.{position-Some}
use Rattle.std.specs.Str.{bytes_eq}
use Rattle.refusals.specs.declared.Refusal.{Refusal}
use Rattle.refusals.specs.declared.Refusal.TheVariants.{SessionFull}
use Rattle.lines.specs.declared.reader.Span.{Span}
use Rattle.lines.specs.Run.{on_ok, run}
use Rattle.lines.specs.Tokens.{bytes_at}
use Rattle.grammar.specs.Listed.{lookup}
use Rattle.sentences.specs.Sentence.{one_more, heard}
use Rattle.sentences.proofs.Reaching.{Known, known_more}

pub record Fine (v : ℕ) (ws : List ℕ) : Type 0 where
  pub known : Known v ws
  pub few : length ws ≤ 20

looked_up : (names : List (List ℕ)) (name : List ℕ) (w : ℕ) → lookup names name ≡ Some w → w < length names
looked_up names name w is = (position-Some (λ other. bytes_eq other name) names w [] is).0

module _ (v : ℕ) (ws : List ℕ) (rest : List ℕ → Result (List ℕ) Refusal) (others : (held : List ℕ) → Fine v held → rest held ≡ Ok ws → Fine v ws) where
  short : (held : List ℕ) (w : ℕ) (b : Bool) → ltb (length held) 20 ≡ b → Fine v held → w < v → on_ok (cond b (Ok (held ++ w ∷ [])) (Err SessionFull)) rest ≡ Ok ws → Fine v ws
  short held w true less fine known is = let few = ltb-true (length held) 20 less in others (held ++ w ∷ []) (record { known = known_more v held w fine.known known; few = omega (arith, length-append held (w ∷ [])) }) is
  short held w false less fine known is = cc

  one : (held : List ℕ) (look : Option ℕ) → Fine v held → ((w : ℕ) → look ≡ Some w → w < v) → on_ok (one_more held look) rest ≡ Ok ws → Fine v ws
  one held None fine known is = cc
  one held (Some w) fine known is = short held w (ltb (length held) 20) refl fine (known w refl) is

run_fine : (names : List (List ℕ)) (line : List ℕ) (ws : List ℕ) (words : List Span) (held : List ℕ) → Fine (length names) held → run (λ us word. one_more us (lookup names (bytes_at line word))) held words ≡ Ok ws → Fine (length names) ws
run_fine names line ws [] held fine is = let e : held ≡ ws = cc in subst (λ us. Fine (length names) us) e fine
run_fine names line ws (word ∷ words) held fine is = one (length names) ws (λ us. run (λ us word. one_more us (lookup names (bytes_at line word))) us words) (λ us f e. run_fine names line ws words us f e) held (lookup names (bytes_at line word)) fine (looked_up names (bytes_at line word)) is

pub heard_fine : (names : List (List ℕ)) (line : List ℕ) (words : List Span) (ws : List ℕ) → heard names line words ≡ Ok ws → Fine (length names) ws
heard_fine names line words ws is = run_fine names line ws words [] (record { known = tt; few = omega arith }) is
