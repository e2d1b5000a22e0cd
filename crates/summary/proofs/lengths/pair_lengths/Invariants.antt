use Rattle.std.proofs.Common.{◌-◌, ◌*◌}
use Rattle.settle.specs.Column.{Grown}
use Rattle.summary.specs.declared.step.Sought.TheVariants.{Whole}
use Rattle.summary.specs.Memory.{view}
use Rattle.summary.specs.Filling.{Joins, Pile}
use Rattle.summary.proofs.lengths.pair_lengths.Given as goal

abbrev pub invariant-loop-m : goal.invariant-loop-m
invariant-loop-m g l =
    record {
      beside : g.R.Row.beside l.initial.row l.row;
      grown : Grown g.S.Scale.scale (g.R.Row.enters l.initial.row) (Pile l.m (λ m. Joins g.S.Scale.scale Whole l.binaries (view l.size l.shorter ((m - 1) * l.size)) (view l.size l.shorter ((l.n - m - 1) * l.size)))) (g.R.Row.costs l.initial.row) (g.R.Row.costs l.row);
    }
