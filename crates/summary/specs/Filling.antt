-- What is offered to a row of the memory, and which rows stand while the summary is made.
use Rattle.std.specs.Prelude.{◌≡◌, ℕ, ◌+◌, ◌-◌, ◌<◌, ◌≤◌, ◌⊎◌, List, length, Some, Option}
use Rattle.derivation.specs.declared.rules.WordRule.{WordRule}
use Rattle.derivation.specs.declared.rules.BinaryRule.{BinaryRule}
use Rattle.derivation.specs.Grammar.{Grammar}
use Rattle.derivation.specs.Scale.{Scale}
use Rattle.settle.specs.Column.{Column}
use Rattle.settle.specs.Offers.{cell, By, joined}
use Rattle.summary.specs.declared.step.Side.{Side}
use Rattle.summary.specs.declared.step.Side.TheVariants.{Left, Right}
use Rattle.summary.specs.declared.step.Sought.{Sought}
use Rattle.summary.specs.declared.step.Sought.TheVariants.{Whole, Gap}
use Rattle.summary.specs.declared.step.Step.{Step}
use Rattle.summary.specs.Least.{LeastInside, LeastOutside}
use Rattle.summary.specs.Memory.{place, inner, outer}

-- which category a binary rule gives a cost to, and from which two
abbrev pub step : Sought → BinaryRule → Step
step Whole r = record { into = r.category; first = r.left; second = r.right }
step (Gap Left) r = record { into = r.left; first = r.category; second = r.right }
step (Gap Right) r = record { into = r.right; first = r.category; second = r.left }

-- what stands beside the row at a base is the same
pub record Beside {Cost : Type 0} (size base : ℕ) (before after : List (Option Cost)) : Type 0 where
  pub ahead : (k : ℕ) → k < base → cell after k ≡ cell before k
  pub past : (k : ℕ) → base + size ≤ k → cell after k ≡ cell before k

-- what a word rule offers
abbrev pub Words : {Cost : Type 0} → Scale Cost → WordRule → ℕ → Cost → Type 0
Words s r A x = (r.category ≡ A) × (x ≡ s.price r.weight)

-- what a binary rule offers, from two rows
pub record Joined {Cost : Type 0} (s : Scale Cost) (sought : Sought) (first second : Column Cost) (r : BinaryRule) (A : ℕ) (x : Cost) : Type 0 where
  pub goes : (step sought r).into ≡ A
  pub is : joined s r.weight (first (step sought r).first) (second (step sought r).second) ≡ Some x

-- what all of the binary rules offer
abbrev pub Joins : {Cost : Type 0} → Scale Cost → Sought → List BinaryRule → Column Cost → Column Cost → ℕ → Cost → Type 0
Joins s sought rules first second = By rules (length rules) (Joined s sought first second)

-- what is offered at some m from 1 below j
pub record Pile {Cost : Type 0} (j : ℕ) (offers : ℕ → ℕ → Cost → Type 0) (A : ℕ) (x : Cost) : Type 0 where
  pub m : ℕ
  pub some : 1 ≤ m
  pub under : m < j
  pub offered : offers m A x

-- the sibling of a gap on one side stands on the other: how many words are there, and the row without m of them
abbrev pub across : Side → ℕ → ℕ → ℕ
across Left l r = r
across Right l r = l

abbrev pub shorter : Side → ℕ → ℕ → ℕ → ℕ → ℕ
shorter Left span l r m = place span l (r - m)
shorter Right span l r m = place span (l - m) r

-- the rows of a and b words that come before that of l words to the left among n
abbrev pub Earlier : ℕ → ℕ → ℕ → ℕ → Type 0
Earlier n l a b = (a + b < n) ⊎ ((a + b ≡ n) × (a < l))

-- each length up to n is exact
abbrev pub Insides : {Cost : Type 0} → Scale Cost → Grammar → ℕ → ℕ → List (Option Cost) → Type 0
Insides s g size n cells = (A m : ℕ) → 1 ≤ m → m ≤ n → LeastInside s g A m (inner size cells A m)

-- each row before that of l words to the left among n is exact
abbrev pub Outsides : {Cost : Type 0} → Scale Cost → Grammar → ℕ → ℕ → ℕ → ℕ → List (Option Cost) → Type 0
Outsides s g size span n l cells = (A a b : ℕ) → Earlier n l a b → LeastOutside s g A a b (outer size span cells A a b)
