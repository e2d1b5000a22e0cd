use Rattle.settle.specs.Column.{Grown}
use Rattle.cell.specs.Cell.{Pair}
use Rattle.cell.specs.Open.{costs_in, column_of, open_to, binaries_of, Beside}
use Rattle.cell.proofs.cell.Cell.pairs.Given as goal

abbrev pub invariant-loop-rule : goal.invariant-loop-rule
invariant-loop-rule g l =
    let first = l.initial.self in
    record {
      beside : Beside first l.self;
      grown : Grown g.S.Scale.scale (open_to g.B.Bound.limit first) (Pair g.S.Scale.scale (binaries_of first) (costs_in first) first.b first.e l.rule-index) (column_of first) (column_of l.self);
    }
