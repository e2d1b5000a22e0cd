-- A table as the contracts of its readers see it.
use Rattle.derivation.specs.Table.{Table as Costs}
use Rattle.chart.specs.Meaning.{Holds}
use Rattle.chart.specs.declared.meaning.Chart as chart
use Rattle.scale.specs.declared.Scale as scale
use Rattle.table.specs.declared.Table.{Table}
use Rattle.table.specs.Memory.{view}

module _ {S C Cost : Type 0} {met : scale.Ghosts S Cost} {over : chart.Ghosts C} where
  -- the costs in it
  abbrev pub entries : Table S C Cost met over → Costs Cost
  entries t = view met.scale.neutral t.kinds (over.seen t.chart.now) t.costs.now

  -- the constituents in it
  abbrev pub holds : Table S C Cost met over → Holds
  holds t = (over.seen t.chart.now).holds
