use Rattle.std.proofs.Common.{◌≡◌, ◌-◌}
use Rattle.derivation.specs.Grammar.{grammar}
use Rattle.table.specs.Memory.{view}
use Rattle.round.specs.Filling.{Spread, Sofar}
use Rattle.round.specs.Counting.{ending}
use Rattle.round.proofs.fill_ending.Given as goal

abbrev pub invariant-loop-b : goal.invariant-loop-b
invariant-loop-b g l =
    let s = g.S.Scale.scale in
    let seen = g.C.Chart.seen in
    let rules = l.task.rules.now in
    let back = l.e - l.b in
    record {
      spread : Spread s.neutral rules.categories l.e (seen l.initial.chart) l.initial.costs (seen l.chart) l.costs;
      sofar : Sofar s (grammar rules) (g.B.Bound.limit l.task.bound.now) l.task.ceiling l.task.text.now (view s.neutral rules.categories (seen l.chart) l.costs) l.e back;
      number : l.held ≡ ending (seen l.chart).holds rules.categories l.e back;
    }
