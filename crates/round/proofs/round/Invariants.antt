use Rattle.std.proofs.Common.{◌+◌, ◌≤◌, length}
use Rattle.derivation.specs.Grammar.{grammar}
use Rattle.round.proofs.Columns.{Columns}
use Rattle.round.proofs.round.Given as goal

abbrev pub invariant-loop-e : goal.invariant-loop-e
invariant-loop-e g l =
    let seen = g.C.Chart.seen in
    let task = l.task in
    record {
      columns : Columns g.S.Scale.scale (grammar task.rules.now) (g.B.Bound.limit task.bound.now) task.ceiling task.text.now (seen l.initial.chart) l.initial.costs (seen l.chart) l.costs l.e l.held;
      within : l.e ≤ length task.text.now + 1;
    }
