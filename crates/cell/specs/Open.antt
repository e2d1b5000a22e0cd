-- A cell as its own contracts see it: the costs, which of them may stay in it, and what offers leave as it was.
use Rattle.std.specs.Prelude.{◌≡◌, ℕ, ◌-◌, List, length, vec_items}
use Rattle.derivation.specs.declared.rules.WordRule.{WordRule}
use Rattle.derivation.specs.declared.rules.ChainRule.{ChainRule}
use Rattle.derivation.specs.declared.rules.BinaryRule.{BinaryRule}
use Rattle.derivation.specs.Scale.{Scale}
use Rattle.derivation.specs.Bounds.{Entries}
use Rattle.derivation.specs.Table.{Table}
use Rattle.chart.specs.Meaning.{Holds}
use Rattle.chart.specs.declared.meaning.Chart as chart
use Rattle.scale.specs.declared.Scale as scale
use Rattle.bound.specs.Gate.{Open}
use Rattle.settle.specs.Column.{Column}
use Rattle.table.specs.Memory.{view, column, Framed}
use Rattle.cell.specs.declared.task.Task.{Task}
use Rattle.cell.specs.declared.cell.Cell.{Cell}

-- which costs may stay over the words b to e, where the bound has these entries
abbrev pub open_over : {Cost B : Type 0} → Scale Cost → (B → Entries Cost) → Task Cost B → ℕ → ℕ → ℕ → Cost → Type 0
open_over s limit task b e = Open s task.ceiling (limit task.bound.now) (b - 1) (length task.text.now - e)

module _ {S C B Cost : Type 0} {met : scale.Ghosts S Cost} {over : chart.Ghosts C} where
  -- all costs by now, and those in the cell
  abbrev pub costs_in : Cell S C B Cost met over → Table Cost
  costs_in cell = view met.scale.neutral cell.task.now.rules.now.categories (over.seen cell.chart.now) cell.costs.now

  abbrev pub column_of : Cell S C B Cost met over → Column Cost
  column_of cell = column met.scale.neutral cell.task.now.rules.now.categories cell.b cell.e (over.seen cell.chart.now) cell.costs.now

  abbrev pub held_in : Cell S C B Cost met over → Holds
  held_in cell = (over.seen cell.chart.now).holds

  -- the rules and the text
  abbrev pub lexical_of : Cell S C B Cost met over → List WordRule
  lexical_of cell = vec_items cell.task.now.rules.now.lexical

  abbrev pub chains_of : Cell S C B Cost met over → List ChainRule
  chains_of cell = vec_items cell.task.now.rules.now.chains

  abbrev pub binaries_of : Cell S C B Cost met over → List BinaryRule
  binaries_of cell = vec_items cell.task.now.rules.now.binaries

  abbrev pub text_of : Cell S C B Cost met over → List ℕ
  text_of cell = cell.task.now.text.now

  -- which costs may stay in the cell
  abbrev pub open_to : (B → Entries Cost) → Cell S C B Cost met over → ℕ → Cost → Type 0
  open_to limit cell = open_over met.scale limit cell.task.now cell.b cell.e

  -- the same cell of the same table, with nothing changed but its costs
  pub record Beside (before after : Cell S C B Cost met over) : Type 0 where
    pub task : after.task ≡ before.task
    pub first : after.b ≡ before.b
    pub last : after.e ≡ before.e
    pub chart : after.chart.ghost_name ≡ before.chart.ghost_name
    pub costs : after.costs.ghost_name ≡ before.costs.ghost_name
    pub framed : Framed met.scale.neutral before.task.now.rules.now.categories before.b before.e (over.seen before.chart.now) before.costs.now (over.seen after.chart.now) after.costs.now
