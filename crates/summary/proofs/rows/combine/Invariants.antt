use Rattle.settle.specs.Column.{Grown}
use Rattle.settle.specs.Offers.{cell, By}
use Rattle.summary.specs.Filling.{Joined}
use Rattle.summary.proofs.rows.combine.Given as goal

abbrev pub invariant-loop-rule : goal.invariant-loop-rule
invariant-loop-rule g l =
    record {
      beside : g.R.Row.beside l.initial.row l.row;
      grown : Grown g.S.Scale.scale (g.R.Row.enters l.initial.row) (By l.binaries l.rule-index (Joined g.S.Scale.scale l.sought (cell l.first) (cell l.second))) (g.R.Row.costs l.initial.row) (g.R.Row.costs l.row);
    }
