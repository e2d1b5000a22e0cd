use Rattle.std.proofs.Common.{ℕ, subst₂, arith}
use Rattle.derivation.specs.declared.rules.WordRule.{WordRule}
use Rattle.settle.specs.Column.{Grown}
use Rattle.settle.specs.Offers.{Only}
use Rattle.settle.proofs.Growing.{by_more, by_all, grown_same}
use Rattle.settle.proofs.Rows.{offered_since}
use Rattle.summary.proofs.lengths.seed.Goals as goal

zero_rule : WordRule
zero_rule = record { category = 0; word = 0; weight = 0 }

pub loop-rule-preserved : goal.loop-rule-preserved
unfolding zero_rule
loop-rule-preserved g c =
    let lawful = g.met.S.Scale.lawful in
    let laws = g.met.R.Row.laws in
    let m = g.R.Row in
    let before = c.loop-rule.invariant in
    let offered = subst₂ (λ (at : ℕ) (x : g.row.S-Cost.Denot). Grown g.S.Scale.scale (m.enters c.args.row.now) (Only at x) (m.costs c.loop-rule.row) (m.costs c.offer.new.self)) c.from.ensures c.price.ensures (offered_since lawful laws before.beside c.offer.ensures.offered) in
    record {
      beside = laws.then _ _ _ before.beside c.offer.ensures.beside;
      grown = by_more lawful zero_rule c.loop-rule-test.true before.grown offered;
    }

pub returns-clause-grown : goal.returns-clause-grown
returns-clause-grown g c =
    grown_same g.met.S.Scale.lawful (by_all g.met.S.Scale.lawful (omega arith) c.loop-rule.invariant.grown)
    (λ A x by. (omega arith, by))
    (λ A x by. by.1)
