use Rattle.std.proofs.Common.{◌≡◌, ◌<◌, length, get_or, sym, ap, ◌∙◌, subst}
use Rattle.derivation.specs.declared.rules.WordRule.{WordRule}
use Rattle.settle.specs.Column.{Grown}
use Rattle.settle.proofs.Growing.{offered_as, grown_one, grown_same, by_more, by_skip}
use Rattle.cell.specs.Rules.{Gives}
use Rattle.cell.specs.Open.{column_of, open_to, lexical_of}
use Rattle.cell.specs.Laws.{cell_laws}
use Rattle.cell.proofs.cell.Cell.leaves.Goals as goal
use Rattle.cell.proofs.cell.Cell.leaves.Goals.{then-rule-word, else-rule-word}

pub loop-rule-preserved : goal.loop-rule-preserved
loop-rule-preserved g c =
    let s = g.S.Scale.scale in
    let lawful = g.met.S.Scale.lawful in
    let limit = g.B.Bound.limit in
    let laws = cell_laws limit in
    let none : WordRule = record { category = 0; word = 0; weight = 0 } in
    let first = c.args.self.now in
    let cell = c.loop-rule.self in
    let kept = c.loop-rule.invariant in
    let j = c.loop-rule.rule-index in
    let read = c.deref-rule-items.result.now in
    let same = c.deref-rule-items.ensures.value in
    let inside : j < length (lexical_of first) = subst (λ rules. j < length rules) same c.loop-rule-test.true in
    let rule = get_or (lexical_of first) j none in
    let rule_is : get_or read j none ≡ rule = ap (λ rules. get_or rules j none) same in
    elim c.if-rule-word.branch [
      | then-rule-word w ↦
          let offered = offered_as lawful (laws.opened first cell kept.beside) (laws.opens first cell kept.beside) w.offer.ensures.offered in
          let given : Grown s (open_to limit first) (Gives s c.args.word rule) (column_of cell) (column_of w.offer.new.self) =
          grown_same lawful (grown_one lawful offered)
          (λ A x only. record { word = ap (λ (r : WordRule). r.word) (sym rule_is) ∙ w.if-rule-word.true; makes = ap (λ (r : WordRule). r.category) (sym rule_is) ∙ sym w.from.ensures ∙ only.0; costs = only.1 ∙ w.price.ensures ∙ ap (λ (r : WordRule). s.price r.weight) rule_is })
          (λ A x gives. (w.from.ensures ∙ ap (λ (r : WordRule). r.category) rule_is ∙ gives.makes, gives.costs ∙ ap (λ (r : WordRule). s.price r.weight) (sym rule_is) ∙ sym w.price.ensures)) in
          rw w.self-is (record {
            beside = laws.then _ _ _ kept.beside w.offer.ensures.beside;
            grown = by_more lawful none inside kept.grown given;
          })
      | else-rule-word w ↦
          rw w.self-is (record {
            beside = kept.beside;
            grown = by_skip lawful none inside kept.grown (λ A x gives. w.if-rule-word.false (ap (λ (r : WordRule). r.word) rule_is ∙ gives.word));
          })
    ]
