-- What the chain rules make of a column, upward or downward, where `ok` says which costs may enter.
use Rattle.std.specs.Prelude.{◌≡◌, ℕ, ◌<◌, Bool, false, cond, List, get_or, Some, None, Option, slice_index_or}
use Rattle.derivation.specs.declared.rules.ChainRule.{ChainRule}
use Rattle.derivation.specs.Named.{At}
use Rattle.derivation.specs.Scale.{Scale, Within}
use Rattle.derivation.specs.Bounds.{Filled}
use Rattle.settle.specs.declared.direction.Direction.{Direction}
use Rattle.settle.specs.declared.direction.Direction.TheVariants.{Up, Down}
use Rattle.settle.specs.Column.{Column, cheaper}

-- the category that a rule leads from, and the one that it leads to
abbrev pub source : Direction → ChainRule → ℕ
source Up r = r.part
source Down r = r.category

abbrev pub target : Direction → ChainRule → ℕ
target Up r = r.category
target Down r = r.part

-- a column that no rule makes cheaper
pub record Closed {Cost : Type 0} (s : Scale Cost) (ok : ℕ → Cost → Type 0) (direction : Direction) (chains : List ChainRule) (row : Column Cost) : Type 0 where
  pub by : (k : ℕ) (r : ChainRule) (x : Cost) → At chains k r → row (source direction r) ≡ Some x → ok (target direction r) (s.join (s.price r.weight) x) → Filled (row (target direction r)) (λ y. Within s y (s.join (s.price r.weight) x))

-- x is a cost of the column, or one with rules joined to it that lead to A
pub data Chained {Cost : Type 0} (s : Scale Cost) (ok : ℕ → Cost → Type 0) (direction : Direction) (chains : List ChainRule) (row : Column Cost) : ℕ → Cost → Type 0 where
  here : {A : ℕ} {x : Cost} → row A ≡ Some x → Chained s ok direction chains row A x
  further : {k : ℕ} {y : Cost} (r : ChainRule) → At chains k r → Chained s ok direction chains row (source direction r) y → ok (target direction r) (s.join (s.price r.weight) y) → Chained s ok direction chains row (target direction r) (s.join (s.price r.weight) y)

-- the column `before`, closed under the rules: each cost is the least to which rules lead
pub record Settled {Cost : Type 0} (s : Scale Cost) (ok : ℕ → Cost → Type 0) (direction : Direction) (chains : List ChainRule) (before after : Column Cost) : Type 0 where
  pub closed : Closed s ok direction chains after
  pub lower : (A : ℕ) (y : Cost) → before A ≡ Some y → Filled (after A) (λ x. Within s x y)
  pub origin : (A : ℕ) (x : Cost) → after A ≡ Some x → Chained s ok direction chains before A x

-- a cost makes the cost of another category, or none there, cheaper by a rule of this weight
abbrev pub lowered : {Cost : Type 0} → Scale Cost → ℕ → Option Cost → Option Cost → Bool
lowered s weight None o = false
lowered s weight (Some x) o = cheaper s o (s.join (s.price weight) x)

-- what a rule offers where the category `from` costs `cost`, unless the other is settled
pub record Steps {Cost : Type 0} (s : Scale Cost) (direction : Direction) (settled : List Bool) (from : ℕ) (cost : Cost) (r : ChainRule) (A : ℕ) (x : Cost) : Type 0 where
  pub begins : source direction r ≡ from
  pub ends : target direction r ≡ A
  pub unsettled : get_or settled A false ≡ false
  pub is : x ≡ s.join (s.price r.weight) cost

-- the least cost among the first n categories that are not settled, with its category
abbrev pub Picked : {Cost : Type 0} → Scale Cost → Column Cost → List Bool → ℕ → Option (ℕ × Cost) → Type 0
Picked s row settled n None = (k : ℕ) → k < n → slice_index_or settled k false ≡ false → row k ≡ None
Picked s row settled n (Some p) = (p.0 < n) × (slice_index_or settled p.0 false ≡ false) × (row p.0 ≡ Some p.1) × ((k : ℕ) (y : _) → k < n → slice_index_or settled k false ≡ false → row k ≡ Some y → Within s p.1 y)

-- the cheaper of the two, the first where neither is above the other
abbrev pub chosen : {Cost : Type 0} → Scale Cost → Option (ℕ × Cost) → ℕ → Cost → Option (ℕ × Cost)
chosen s None at cost = Some (at, cost)
chosen s (Some p) at cost = cond (s.above p.1 cost) (Some (at, cost)) (Some p)
