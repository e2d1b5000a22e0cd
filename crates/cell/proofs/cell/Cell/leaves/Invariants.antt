use Rattle.settle.specs.Column.{Grown}
use Rattle.cell.specs.Rules.{Leaf}
use Rattle.cell.specs.Open.{column_of, open_to, lexical_of, Beside}
use Rattle.cell.proofs.cell.Cell.leaves.Given as goal

abbrev pub invariant-loop-rule : goal.invariant-loop-rule
invariant-loop-rule g l =
    let first = l.initial.self in
    record {
      beside : Beside first l.self;
      grown : Grown g.S.Scale.scale (open_to g.B.Bound.limit first) (Leaf g.S.Scale.scale (lexical_of first) l.word l.rule-index) (column_of first) (column_of l.self);
    }
