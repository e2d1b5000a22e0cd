use Rattle.std.proofs.Common.{sym, arith}
use Rattle.tree.proofs.Held.{placed}
use Rattle.tree.proofs.Steps.{no_way, first_binary, chain_last}
use Rattle.tree.proofs.reader.Reader.way.Goals as goal
use Rattle.tree.proofs.reader.Reader.way.Goals.{then-span+in_default, else-span+in_default-first_pair}

pub bounds-self-span : goal.bounds-self-span
bounds-self-span g c = let p = placed c.args.self.now.table.now g.C.Chart.sound _ _ _ (sym c.in_ok-cost.ensures) in omega (arith, p.first, p.last, c.args.self.now.whole)

pub returns-in_err-rule-clause-found : goal.returns-in_err-rule-clause-found
returns-in_err-rule-clause-found g c =
    rw c.from_residual-in_err-rule.ensures (no_way c.in_ok-cost.cost (sym c.in_ok-cost.ensures)
    (λ k one by. elim c.if-span.branch [
      | then-span+in_default w ↦ w.in_default.ensures k by
      | else-span+in_default-first_pair w ↦ w.if-span.false one
    ])
    (λ k m by. elim c.if-span.branch [
      | then-span+in_default w ↦ let first = by.2.first in let last = by.2.last in omega (arith, w.if-span.true)
      | else-span+in_default-first_pair w ↦ w.in_default-first_pair.ensures k m by
    ])
    c.in_err-rule.ensures)

pub returns-in-Some-first_pair-clause-first : goal.returns-in-Some-first_pair-clause-first
returns-in-Some-first_pair-clause-first g c =
    let first = c.in-Some-first_pair.ensures in
    first_binary c.in_ok-cost.cost _ _ (sym c.in_ok-cost.ensures) c.if-span.false first.1 first.2

pub returns-clause-first : goal.returns-clause-first
returns-clause-first g c =
    chain_last c.in_ok-cost.cost _ (sym c.in_ok-cost.ensures)
    (λ k one by. elim c.if-span.branch [
      | then-span+in_default w ↦ w.in_default.ensures k by
      | else-span+in_default-first_pair w ↦ w.if-span.false one
    ])
    (λ k m by. elim c.if-span.branch [
      | then-span+in_default w ↦ let first = by.2.first in let last = by.2.last in omega (arith, w.if-span.true)
      | else-span+in_default-first_pair w ↦ w.in_default-first_pair.ensures k m by
    ])
    c.in_ok-rule.ensures.1
