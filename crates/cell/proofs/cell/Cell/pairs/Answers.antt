use Rattle.std.proofs.Common.{◌≡◌, ◌<◌, ◌≤◌, length, get_or, sym, ap, subst, arith}
use Rattle.derivation.specs.declared.rules.BinaryRule.{BinaryRule}
use Rattle.chart.specs.Meaning.{Splits}
use Rattle.settle.specs.Column.{Grown}
use Rattle.settle.proofs.Growing.{grown_same, grown_open, by_more, by_skip}
use Rattle.cell.specs.Cell.{Meet}
use Rattle.cell.specs.Open.{costs_in, held_in, column_of, open_to, binaries_of}
use Rattle.cell.specs.Laws.{cell_laws}
use Rattle.cell.proofs.Meets.{meet_splits, meet_then, meet_back}
use Rattle.cell.proofs.cell.Cell.pairs.Goals as goal
use Rattle.cell.proofs.cell.Cell.pairs.Goals.{in-Some, in_default}

pub loop-rule-preserved : goal.loop-rule-preserved
loop-rule-preserved g c =
    let s = g.S.Scale.scale in
    let lawful = g.met.S.Scale.lawful in
    let laws = cell_laws g.B.Bound.limit in
    let none : BinaryRule = record { category = 0; left = 0; right = 0; weight = 0 } in
    let first = c.args.self.now in
    let cell = c.loop-rule.self in
    let kept = c.loop-rule.invariant in
    let beside = kept.beside in
    let j = c.loop-rule.rule-index in
    let same = c.deref-rule-items.ensures.value in
    let inside : j < length (binaries_of first) = subst (λ rules. j < length rules) same c.loop-rule-test.true in
    let rule = get_or (binaries_of first) j none in
    let rule_is : get_or c.deref-rule-items.result.now j none ≡ rule = ap (λ rules. get_or rules j none) same in
    elim c.match-lowest.branch [
      | in-Some w ↦
          let did = w.meets.ensures in
          let met : Grown s (open_to g.B.Bound.limit first) (Meet s rule (costs_in first) first.b first.e first.e) (column_of cell) (column_of w.meets.new.self) =
          grown_same lawful
          (grown_open lawful (laws.opened first cell beside) (laws.opens first cell beside)
          (subst (λ (r : BinaryRule). Grown s (open_to g.B.Bound.limit cell) (Meet s r (costs_in cell) cell.b cell.e cell.e) (column_of cell) (column_of w.meets.new.self)) rule_is did.grown))
          (meet_back rule first cell beside) (meet_then rule first cell beside) in
          rw w.self-is (record {
            beside = laws.then _ _ _ beside did.beside;
            grown = by_more lawful none inside kept.grown met;
          })
      | in_default w ↦
          rw w.self-is (record {
            beside = beside;
            grown = by_skip lawful none inside kept.grown (λ A x h.
                let last : cell.e ≤ cell.e = omega arith in
                let t = meet_then rule first cell beside A x h in
                let splits = meet_splits s.neutral cell.task.now.rules.now.categories (g.C.Chart.seen cell.chart.now) cell.costs.now last t in
                w.in_default.ensures t.middle (subst (λ (r : BinaryRule). Splits (held_in cell) r.left r.right cell.b cell.e t.middle) (sym rule_is) splits));
          })
    ]
