-- Words put and taken back where nothing is in the way.
use Rattle.std.proofs.Common.{◌≡◌, ℕ, ◌+◌, ◌<◌, List, [], ◌∷◌, ◌++◌, length, Some, Ok, Err, Option, Result, MatchResult, arith}
use Rattle.std.proofs.lemmas.Bool.Decides.{nat_tests}
use Rattle.refusals.specs.declared.Refusal.{Refusal}
use Rattle.session.specs.State.{State, Over, holding}
use Rattle.session.specs.Calls.{putting, put, taking, taken}
use Rattle.sentences.specs.Sentence.{one_more}

pub puts : (o : Over) (s : State) (w : ℕ) → s.number ≡ o.number → w < o.grammar.vocabulary → length s.held < 40 → (putting o s w ≡ Ok (length s.held + 1)) × (put o s w ≡ holding s (s.held ++ w ∷ []))
puts o s w fits known few = (grind (arith, nat_tests), grind (arith, nat_tests))

more : (held : List ℕ) (w : ℕ) → length held < 20 → one_more held (Some w) ≡ Ok (held ++ w ∷ [])
more held w few = grind (arith, nat_tests)

-- t and r are what a put of a known word leaves and answers
pub puts_more : (o : Over) (s t : State) (w : ℕ) (look : Option ℕ) (r : Result ℕ Refusal) → s.number ≡ o.number → w < o.grammar.vocabulary → length s.held < 20 → Some w ≡ look → r ≡ putting o s w → t ≡ put o s w → MatchResult r (λ _. one_more s.held look ≡ Ok t.held) (λ e. one_more s.held look ≡ Err e)
puts_more o s t w look r fits known few is answer after =
    let free = puts o s w fits known (omega arith) in
    rw (answer, free.0, ← is, after, free.1) (more s.held w few)

pub clears : (o : Over) (s : State) → s.number ≡ o.number → (taking o s (length s.held) ≡ Ok 0) × (taken o s (length s.held) ≡ holding s [])
clears o s fits = (grind (arith, nat_tests), grind (arith, nat_tests))
