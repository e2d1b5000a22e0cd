use Rattle.settle.specs.Column.{Grown}
use Rattle.settle.specs.Offers.{By}
use Rattle.settle.specs.Chains.{Steps}
use Rattle.settle.proofs.relax.Given as goal

abbrev pub invariant-loop-rule : goal.invariant-loop-rule
invariant-loop-rule g l =
    record {
      beside : g.R.Row.beside l.initial.row l.row;
      grown : Grown g.S.Scale.scale (g.R.Row.enters l.initial.row) (By l.chains l.rule-index (Steps g.S.Scale.scale l.direction l.settled l.category l.cost)) (g.R.Row.costs l.initial.row) (g.R.Row.costs l.row);
    }
