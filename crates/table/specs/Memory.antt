-- A chart with a row of costs beside it, as a table of costs; and what the steps of a search do to it.
use Rattle.std.specs.Prelude.{◌≡◌, ℕ, ◌+◌, ◌*◌, ◌<◌, ◌≤◌, true, cond, ◌⊎◌, List, Some, None, ◌≢◌, slice_index_or}
use Rattle.derivation.specs.Table.{Table}
use Rattle.chart.specs.Meaning.{Seen, Inside}
use Rattle.chart.specs.Triangle.{tri, cell}
use Rattle.settle.specs.Column.{Column}

-- the place of the cost of A over b to e, where there are g categories
abbrev pub slot : ℕ → ℕ → ℕ → ℕ → ℕ
slot g b e A = cell b e * g + A

-- the cost at its place where the chart holds the constituent, else none
unfoldable pub view : {Cost : Type 0} → Cost → ℕ → Seen → List Cost → Table Cost
view d g chart costs A b e = cond (chart.holds b e A) (Some (slice_index_or costs (slot g b e A) d)) None

-- the column of the words b to e
abbrev pub column : {Cost : Type 0} → Cost → ℕ → ℕ → ℕ → Seen → List Cost → Column Cost
column d g b e chart costs A = view d g chart costs A b e

-- constituents are only added, and a cost changes only where its constituent is held then
pub record Moved {Cost : Type 0} (d : Cost) (n g : ℕ) (before : Seen) (costs : List Cost) (after : Seen) (costs' : List Cost) : Type 0 where
  pub grows : (b e A : ℕ) → before.holds b e A ≡ true → after.holds b e A ≡ true
  pub same : (k : ℕ) → (slice_index_or costs' k d ≡ slice_index_or costs k d) ⊎ ((b e A : ℕ) × Inside n g b e A × (k ≡ slot g b e A) × (after.holds b e A ≡ true))

-- the chart was started for the same numbers of words and categories
pub record Alike (before after : Seen) : Type 0 where
  pub room : after.room ≡ before.room
  pub words : after.words ≡ before.words
  pub categories : after.categories ≡ before.categories

-- A over b to e has the cost, and all else is as before
pub record Stored {Cost : Type 0} (d : Cost) (g b e A : ℕ) (cost : Cost) (before : Seen) (costs : List Cost) (after : Seen) (costs' : List Cost) : Type 0 where
  pub alike : Alike before after
  pub here : view d g after costs' A b e ≡ Some cost
  pub elsewhere : (B x y : ℕ) → (B ≡ A → x ≡ b → y ≢ e) → view d g after costs' B x y ≡ view d g before costs B x y
  pub moved : Moved d before.words g before costs after costs'

-- a chart started for g categories, beside a row of costs that is long enough for it
pub record Ready (g : ℕ) (chart : Seen) (long : ℕ) : Type 0 where
  pub same : chart.categories ≡ g
  pub fits : tri chart.words * g ≤ long

-- the same, with a stretch b to e of its words
pub record Placed (g b e : ℕ) (chart : Seen) (long : ℕ) : Type 0 where
  pub ready : Ready g chart long
  pub first : 1 ≤ b
  pub order : b ≤ e
  pub last : e ≤ chart.words

-- nothing has changed but the cell of b to e
pub record Framed {Cost : Type 0} (d : Cost) (g b e : ℕ) (before : Seen) (costs : List Cost) (after : Seen) (costs' : List Cost) : Type 0 where
  pub alike : Alike before after
  pub elsewhere : (B x y : ℕ) → (x ≡ b → y ≢ e) → view d g after costs' B x y ≡ view d g before costs B x y
  pub moved : Moved d before.words g before costs after costs'

-- the first costs are d, and the others as before
pub record Cleared {Cost : Type 0} (d : Cost) (end : ℕ) (costs costs' : List Cost) : Type 0 where
  pub first : (k : ℕ) → k < end → slice_index_or costs' k d ≡ d
  pub rest : (k : ℕ) → end ≤ k → slice_index_or costs' k d ≡ slice_index_or costs k d
