-- The least cost of a derivation by its length, and of a surrounding by the words beside its gap.
use Rattle.std.specs.Prelude.{◌≡◌, ℕ, ◌+◌, ◌<◌, ◌≤◌, List, Some, None, Option}
use Rattle.derivation.specs.Scale.{Scale, Within}
use Rattle.derivation.specs.Grammar.{Grammar}
use Rattle.derivation.specs.Derivation.{Derivation, cost}
use Rattle.derivation.specs.Surrounding.{Surrounding, rest}
use Rattle.derivation.specs.Bounds.{Entries}

-- the least cost of all that there is: one has it, and it is above none; or there is nothing
abbrev pub Least : {Cost X : Type 0} → Scale Cost → (X → Cost) → Option Cost → Type 0
Least {X = X} s costs None = X → ⊥
Least {X = X} s costs (Some x) = ((d : X) × (costs d ≡ x)) × ((f : X) → Within s x (costs f))

-- a derivation of A over n words, whichever they are
pub record Over (g : Grammar) (A n : ℕ) : Type 0 where
  pub text : List ℕ
  pub first : ℕ
  pub last : ℕ
  pub long : n + first ≡ last + 1
  pub made : Derivation g text A first last

-- the least cost of a derivation of A over n words
abbrev pub LeastInside : {Cost : Type 0} → Scale Cost → Grammar → ℕ → ℕ → Option Cost → Type 0
LeastInside s g A n o = Least {X = Over g A n} s (λ d. cost s d.made) o

-- the least cost of a surrounding of A with l words to the left and r to the right
abbrev pub LeastOutside : {Cost : Type 0} → Scale Cost → Grammar → ℕ → ℕ → ℕ → Option Cost → Type 0
LeastOutside s g A l r o = Least {X = Surrounding g A l r} s (λ a. rest s a) o

-- a summary of the grammar: exactly the least costs by length, up to the span, and of the surroundings in the span
pub record Exact {Cost : Type 0} (s : Scale Cost) (g : Grammar) (span : ℕ) (inside : ℕ → ℕ → Option Cost) (entry : Entries Cost) : Type 0 where
  pub inner : (A n : ℕ) → 1 ≤ n → n ≤ span → LeastInside s g A n (inside A n)
  pub outer : (A l r : ℕ) → l + r < span → LeastOutside s g A l r (entry A l r)
