use Rattle.settle.specs.Column.{Grown}
use Rattle.settle.specs.Offers.{By}
use Rattle.summary.specs.Filling.{Words}
use Rattle.summary.proofs.lengths.seed.Given as goal

abbrev pub invariant-loop-rule : goal.invariant-loop-rule
invariant-loop-rule g l =
    record {
      beside : g.R.Row.beside l.initial.row l.row;
      grown : Grown g.S.Scale.scale (g.R.Row.enters l.initial.row) (By l.words l.rule-index (Words g.S.Scale.scale)) (g.R.Row.costs l.initial.row) (g.R.Row.costs l.row);
    }
