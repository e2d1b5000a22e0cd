use Rattle.std.proofs.Common.{length, get_or, subst}
use Rattle.settle.specs.Column.{Grown}
use Rattle.settle.proofs.Growing.{grown_same}
use Rattle.cell.specs.Rules.{Leaf}
use Rattle.cell.specs.Open.{column_of, open_to, lexical_of, text_of}
use Rattle.cell.proofs.cell.Cell.single.Goals as goal

pub returns-then-self-clause-grown : goal.returns-then-self-clause-grown
returns-then-self-clause-grown g c =
    let s = g.S.Scale.scale in
    let cell = c.args.self.now in
    let rules = lexical_of cell in
    grown_same g.met.S.Scale.lawful
    (subst (λ k. Grown s (open_to g.B.Bound.limit cell) (Leaf s rules (get_or (text_of cell) k 0) (length rules)) (column_of cell) (column_of c.leaves.new.self)) cell.before c.leaves.ensures.grown)
    (λ A x leaf. record { alone = c.if-self.true; leaf = leaf })
    (λ A x h. h.leaf)
