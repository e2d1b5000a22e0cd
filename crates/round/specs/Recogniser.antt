-- What a round without a ceiling leaves: the recogniser's constituents, each at its Viterbi cost.
use Rattle.std.specs.Prelude.{◌≡◌, ℕ, true, List, slice_index_or}
use Rattle.derivation.specs.Grammar.{Grammar}
use Rattle.derivation.specs.Scale.{Scale}
use Rattle.derivation.specs.Recogniser.{Recognised, Viterbi}
use Rattle.chart.specs.Meaning.{Seen}
use Rattle.table.specs.Memory.{slot}

-- the chart holds the recogniser's constituents and no others, and the Viterbi cost of each stands in its place
pub record RecogniserChart {Cost : Type 0} (s : Scale Cost) (g : Grammar) (ws : List ℕ) (chart : Seen) (costs : List Cost) : Type 0 where
  pub recognised : Recognised g ws chart.holds
  pub viterbi : (A b e : ℕ) → chart.holds b e A ≡ true → Viterbi s g ws A b e (slice_index_or costs (slot g.categories b e A) s.neutral)
