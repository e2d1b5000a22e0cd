use Rattle.std.proofs.Common.{◌+◌, ◌-◌, ◌*◌, ◌≤◌}
use Rattle.settle.specs.Column.{Grown}
use Rattle.summary.specs.declared.step.Sought.TheVariants.{Gap}
use Rattle.summary.specs.Memory.{view}
use Rattle.summary.specs.Filling.{Joins, Pile, shorter}
use Rattle.summary.proofs.pairs.gaps.Given as goal

abbrev pub invariant-loop-m : goal.invariant-loop-m
invariant-loop-m g l =
    record {
      under : l.m ≤ l.m-end + 1;
      beside : g.R.Row.beside l.initial.row l.row;
      grown : Grown g.S.Scale.scale (g.R.Row.enters l.initial.row) (Pile l.m (λ m. Joins g.S.Scale.scale (Gap l.side) l.binaries (view l.size l.before (shorter l.side l.pair.span l.pair.left l.pair.right m * l.size)) (view l.size l.before ((m - 1) * l.size)))) (g.R.Row.costs l.initial.row) (g.R.Row.costs l.row);
    }
