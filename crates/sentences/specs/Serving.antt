-- What a request for the tree of a sentence gives.
use Rattle.std.specs.Prelude.{◌≡◌, List, ℕ, Some, None, Ok, Err, Option, Result, MatchResult}
use Rattle.refusals.specs.declared.Refusal.{Refusal}
use Rattle.refusals.specs.declared.Refusal.TheVariants.{NoDerivation}
use Rattle.derivation.specs.Scale.{Scale}
use Rattle.bound.specs.Floor.{floor_entry}
use Rattle.tree.specs.declared.node.Node.{Node}
use Rattle.search.specs.declared.best.Tree.{Tree}
use Rattle.session.specs.Cheapest.{Whole, Handed}
use Rattle.sentences.specs.Sentence.{Language, hindrance}

module _ {Cost : Type 0} (s : Scale Cost) (l : Language) (ladder : List Cost) (held : List ℕ) (nodes : List Node) where
  -- the words of the sentence are held, and the nodes are those of a cheapest tree of them; or there is none
  abbrev pub Asked : Option Refusal → List ℕ → Result (Tree Cost) Refusal → Type 0
  Asked (Some r) words answer = answer ≡ Err r
  Asked None words answer = MatchResult answer (λ tree. (held ≡ words) × Handed s l.grammar (λ _. floor_entry s) ladder words nodes tree) (λ r. (r ≡ NoDerivation) × (Whole l.grammar words → ⊥))

  abbrev pub Found : Result (List ℕ) Refusal → Result (Tree Cost) Refusal → Type 0
  Found (Ok words) answer = Asked (hindrance s ladder words) words answer
  Found (Err r) answer = answer ≡ Err r
