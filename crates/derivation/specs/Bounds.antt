-- A bound: an entry for each category and numbers of words around it, never above what can stand around.
use Rattle.std.specs.Prelude.{ℕ, ◌+◌, ◌<◌, Some, None, Option}
use Rattle.derivation.specs.Grammar.{Grammar}
use Rattle.derivation.specs.Scale.{Scale, Within}
use Rattle.derivation.specs.Surrounding.{Surrounding, rest}

-- for a category with l words to its left and r to its right: a cost, or none
abbrev pub Entries : Type 0 → Type 0
Entries Cost = ℕ → ℕ → ℕ → Option Cost

-- there is a cost, and it satisfies P
abbrev pub Filled : {Cost : Type 0} → Option Cost → (Cost → Type 0) → Type 0
Filled None P = ⊥
Filled (Some x) P = P x

-- wherever a surrounding exists in the span, the entry is a cost not above that of the surrounding
pub record Bounds {Cost : Type 0} (s : Scale Cost) (g : Grammar) (span : ℕ) (entry : Entries Cost) : Type 0 where
  pub low : (A l r : ℕ) (around : Surrounding g A l r) → l + r < span → Filled (entry A l r) (λ x. Within s x (rest s around))
