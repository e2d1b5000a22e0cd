-- What is offered, and the column that a list of costs is.
use Rattle.std.specs.Prelude.{◌≡◌, ℕ, ◌<◌, List, Some, None, Option, slice_index_or}
use Rattle.derivation.specs.Scale.{Scale}
use Rattle.derivation.specs.Named.{At}

-- the cost at a place, none past the end
abbrev pub cell : {Cost : Type 0} → List (Option Cost) → ℕ → Option Cost
cell row A = slice_index_or row A None

-- one cost to one category, and no other
abbrev pub Only : {Cost : Type 0} → ℕ → Cost → ℕ → Cost → Type 0
Only at cost A x = (at ≡ A) × (x ≡ cost)

-- x is offered to A by one of the first j things in the list
pub record By {Cost X : Type 0} (xs : List X) (j : ℕ) (offers : X → ℕ → Cost → Type 0) (A : ℕ) (x : Cost) : Type 0 where
  pub place : ℕ
  pub one : X
  pub under : place < j
  pub at : At xs place one
  pub offered : offers one A x

-- what a rule of a weight makes of two costs
abbrev pub joined : {Cost : Type 0} → Scale Cost → ℕ → Option Cost → Option Cost → Option Cost
joined s weight (Some y) (Some z) = Some (s.join (s.price weight) (s.join y z))
joined s weight (Some y) None = None
joined s weight None o = None
