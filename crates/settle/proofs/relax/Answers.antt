use Rattle.std.proofs.Common.{◌≡◌, ℕ, false, get_or, sym, ap, ◌∙◌, subst}
use Rattle.derivation.specs.declared.rules.ChainRule.{ChainRule}
use Rattle.derivation.proofs.Laws.{not_both}
use Rattle.settle.specs.Column.{Grown}
use Rattle.settle.specs.Chains.{target, Steps}
use Rattle.settle.proofs.Growing.{grown_same, by_more, by_skip}
use Rattle.settle.proofs.Rows.{offered_since}
use Rattle.settle.proofs.relax.Goals as goal
use Rattle.settle.proofs.relax.Goals.{then-from-category+then-not-settled-to, else-from-category, else-from-category-via-then-from-category+else-not-settled-to, else-from-category-via-else-from-category}

zero_rule : ChainRule
zero_rule = record { category = 0; part = 0; weight = 0 }

pub loop-rule-preserved : goal.loop-rule-preserved
unfolding zero_rule
loop-rule-preserved g c =
    let s = g.S.Scale.scale in
    let lawful = g.met.S.Scale.lawful in
    let laws = g.met.R.Row.laws in
    let m = g.R.Row in
    let settled = c.args.settled.now in
    let cost = c.args.cost in
    let first = c.args.row.now in
    let row = c.loop-rule.row in
    let inside = c.loop-rule-test.true in
    let rule = get_or c.args.chains.now c.loop-rule.rule-index zero_rule in
    let before = c.loop-rule.invariant in
    let to_is : c.ends-from.result.1 ≡ target c.args.direction rule = c.ends-from.ensures.to in
    elim c.if-from-category.branch [
      | then-from-category+then-not-settled-to w ↦
          let price : w.join.result ≡ s.join (s.price rule.weight) cost = w.join.ensures ∙ ap (λ p. s.join p cost) w.price.ensures in
          let unsettled : get_or settled (target c.args.direction rule) false ≡ false = subst (λ (n : ℕ). get_or settled n false ≡ false) to_is w.if-not-settled-to.true in
          let stepped : Grown s (m.enters first) (Steps s c.args.direction settled c.args.category cost rule) (m.costs row) (m.costs w.offer.new.self) =
          grown_same lawful (offered_since lawful laws before.beside w.offer.ensures.offered)
          (λ A x only. record { begins = sym c.ends-from.ensures.from ∙ w.if-from-category.true; ends = sym to_is ∙ only.0; unsettled = subst (λ (n : ℕ). get_or settled n false ≡ false) (sym to_is ∙ only.0) unsettled; is = only.1 ∙ price })
          (λ A x step. (to_is ∙ step.ends, step.is ∙ sym price)) in
          rw w.row-is (record {
            beside = laws.then _ _ _ before.beside w.offer.ensures.beside;
            grown = by_more lawful zero_rule inside before.grown stepped;
          })
      | else-from-category w ↦
          rw w.row-is (record {
            beside = before.beside;
            grown = by_skip lawful zero_rule inside before.grown (λ A x step. elim w.else-from-category.branch [
              | else-from-category-via-then-from-category+else-not-settled-to v ↦ not_both v.if-not-settled-to.false (subst (λ (n : ℕ). get_or settled n false ≡ false) (sym (to_is ∙ step.ends)) step.unsettled)
              | else-from-category-via-else-from-category v ↦ v.if-from-category.false (c.ends-from.ensures.from ∙ step.begins)
            ]);
          })
    ]
