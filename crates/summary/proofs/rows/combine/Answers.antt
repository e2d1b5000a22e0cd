use Rattle.std.proofs.Common.{◌≡◌, ◌<◌, length, get_or, Some, sym, ap, ◌∙◌, ap₂, arith}
use Rattle.derivation.specs.declared.rules.BinaryRule.{BinaryRule}
use Rattle.settle.specs.Column.{Grown}
use Rattle.settle.specs.Offers.{cell, joined}
use Rattle.derivation.proofs.Reading.{none_some, some_same, at_read}
use Rattle.settle.proofs.Growing.{grown_same, by_more, by_skip, by_all}
use Rattle.settle.proofs.Rows.{offered_since}
use Rattle.summary.specs.declared.step.Step.{Step}
use Rattle.summary.specs.Filling.{step, Joined}
use Rattle.summary.proofs.Placing.{step_small, cell_read}
use Rattle.summary.proofs.rows.combine.Goals as goal
use Rattle.summary.proofs.rows.combine.Goals.{in-Some, in_default}

zero_rule : BinaryRule
zero_rule = record { category = 0; left = 0; right = 0; weight = 0 }

pub loop-rule-preserved : goal.loop-rule-preserved
unfolding zero_rule
loop-rule-preserved g c =
    let s = g.S.Scale.scale in
    let lawful = g.met.S.Scale.lawful in
    let laws = g.met.R.Row.laws in
    let m = g.R.Row in
    let start = c.args.row.now in
    let row = c.loop-rule.row in
    let first = c.args.first.now in
    let second = c.args.second.now in
    let rule = get_or c.args.binaries.now c.loop-rule.rule-index zero_rule in
    let inside = c.loop-rule-test.true in
    let before = c.loop-rule.invariant in
    let small = step_small c.args.sought rule (m.size start) (c.requires.named c.loop-rule.rule-index rule (at_read c.args.binaries.now c.loop-rule.rule-index zero_rule inside)) in
    let step_is : c.step-step.result ≡ step c.args.sought rule = c.step-step.ensures in
    let one : c.step-step.result.first < length first = omega (arith, c.requires.first, small.1, ap (λ (q : Step). q.first) step_is) in
    let two : c.step-step.result.second < length second = omega (arith, c.requires.second, small.2, ap (λ (q : Step). q.second) step_is) in
    let value : joined s rule.weight (cell first (step c.args.sought rule).first) (cell second (step c.args.sought rule).second) ≡ c.joined.result =
    ap (λ (q : Step). joined s rule.weight (cell first q.first) (cell second q.second)) (sym step_is) ∙ ap₂ (joined s rule.weight) (cell_read first _ _ one c.index-first-step.is) (cell_read second _ _ two c.index-second-step.is) ∙ sym c.joined.ensures in
    elim c.match-joined.branch [
      | in-Some w ↦
          let is : joined s rule.weight (cell first (step c.args.sought rule).first) (cell second (step c.args.sought rule).second) ≡ Some w.in-Some.cost = value ∙ w.in-Some.is in
          let into_is : c.step-step.result.into ≡ (step c.args.sought rule).into = ap (λ (q : Step). q.into) step_is in
          let offered : Grown s (m.enters start) (Joined s c.args.sought (cell first) (cell second) rule) (m.costs row) (m.costs w.offer.new.self) =
          grown_same lawful (offered_since lawful laws before.beside w.offer.ensures.offered)
          (λ A x only. record { goes = sym into_is ∙ only.0; is = is ∙ ap Some (sym only.1) })
          (λ A x one. (into_is ∙ one.goes, some_same one.is is)) in
          rw w.row-is (record {
            beside = laws.then _ _ _ before.beside w.offer.ensures.beside;
            grown = by_more lawful zero_rule inside before.grown offered;
          })
      | in_default w ↦
          rw w.row-is (record {
            beside = before.beside;
            grown = by_skip lawful zero_rule inside before.grown (λ A x one. none_some (value ∙ w.in_default.is) one.is);
          })
    ]

pub returns-clause-grown : goal.returns-clause-grown
returns-clause-grown g c = by_all g.met.S.Scale.lawful (omega arith) c.loop-rule.invariant.grown
