-- What a round leaves: exactly the kept constituents, each at its kept cost.
use Rattle.std.specs.Prelude.{◌≡◌, ℕ, ◌*◌, ◌≤◌, true, false, List, length, Option, slice_index_or}
use Rattle.derivation.specs.Grammar.{Grammar}
use Rattle.derivation.specs.Scale.{Scale}
use Rattle.derivation.specs.Derivation.{Derivation}
use Rattle.derivation.specs.Bounds.{Entries}
use Rattle.derivation.specs.Passing.{Passes}
use Rattle.derivation.specs.Kept.{Kept}
use Rattle.chart.specs.Meaning.{Seen, Inside}
use Rattle.chart.specs.Triangle.{tri}
use Rattle.table.specs.Memory.{slot}

pub record Round {Cost : Type 0} (s : Scale Cost) (g : Grammar) (entry : Entries Cost) (ceiling : Option Cost) (ws : List ℕ) (before : List Cost) (chart : Seen) (after : List Cost) : Type 0 where
  pub words : chart.words ≡ length ws
  pub categories : chart.categories ≡ g.categories
  -- a constituent with a derivation that passes is held
  pub passing : (A b e : ℕ) (d : Derivation g ws A b e) → Passes s entry ceiling (length ws) d → chart.holds b e A ≡ true
  -- and one that is held is kept, at the cost that stands in its place
  pub kept : (A b e : ℕ) → chart.holds b e A ≡ true → Kept s g entry ceiling ws A b e (slice_index_or after (slot g.categories b e A) s.neutral)
  -- the neutral cost stands in the places of the others, and the rest of the memory is as before
  pub blank : (A b e : ℕ) → Inside (length ws) g.categories b e A → chart.holds b e A ≡ false → slice_index_or after (slot g.categories b e A) s.neutral ≡ s.neutral
  pub rest : (k : ℕ) → tri (length ws) * g.categories ≤ k → slice_index_or after k s.neutral ≡ slice_index_or before k s.neutral
