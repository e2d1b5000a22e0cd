use Rattle.settle.specs.Column.{Grown}
use Rattle.cell.specs.Cell.{Meet}
use Rattle.cell.specs.Open.{costs_in, column_of, open_to, Beside}
use Rattle.cell.proofs.cell.Cell.meets.Given as goal

abbrev pub invariant-loop-m : goal.invariant-loop-m
invariant-loop-m g l =
    let first = l.initial.self in
    record {
      beside : Beside first l.self;
      grown : Grown g.S.Scale.scale (open_to g.B.Bound.limit first) (Meet g.S.Scale.scale l.rule (costs_in first) first.b first.e l.m) (column_of first) (column_of l.self);
    }
