use Rattle.std.proofs.Common.{◌≡◌, ◌<◌, true, false, length, get_or, Some, None, sym, ap, ◌∙◌, arith, get_or-set_other}
use native.Mathlib.Decide.{ℕ_discrete}
use Rattle.derivation.specs.declared.rules.ChainRule.{ChainRule}
use Rattle.derivation.proofs.Laws.{not_both}
use Rattle.settle.specs.Column.{AllOpen, cheaper}
use Rattle.settle.specs.Chains.{source, target, Closed}
use Rattle.settle.proofs.Closing.{lowering, lowered_none, lowered_some, closed_more, closed_stop}
use Rattle.settle.proofs.Going.{fresh}
use Rattle.settle.proofs.first_lowering.Goals as goal
use Rattle.settle.proofs.first_lowering.Goals.{then-not-bare-from+in-None, then-not-bare-from+in-Some+else-wanted, else-not-bare-from}

zero_rule : ChainRule
zero_rule = record { category = 0; part = 0; weight = 0 }

pub loop-place-init : goal.loop-place-init
loop-place-init g c = record {
  bare = λ a h. absurd (not_both h (fresh 64 a));
  closed = record { by = λ k r x below at is. absurd (omega arith) };
}

pub returns-then-wanted-clause-open : goal.returns-then-wanted-clause-open
unfolding zero_rule
returns-then-wanted-clause-open g c =
    let s = g.S.Scale.scale in
    let chains = c.args.chains.now in
    let row = g.R.Row.costs c.args.row.now in
    let j = c.loop-place.place in
    let rule = get_or chains j zero_rule in
    let from = row (source c.args.direction rule) in
    let to = row (target c.args.direction rule) in
    let is : from ≡ Some c.in-Some.cost = cc in
    let cheap : cheaper s to (s.join (s.price rule.weight) c.in-Some.cost) ≡ true = cc in
    let active : lowering s c.args.direction chains row rule ≡ true = lowered_some s rule.weight from to c.in-Some.cost true is cheap in
    let inside : j < length chains = c.loop-place-test.true in
    let stop : Closed s AllOpen c.args.direction chains row → ⊥ = closed_stop s c.args.direction chains row j zero_rule inside active in
    search (inside, stop)

pub loop-place-preserved : goal.loop-place-preserved
unfolding zero_rule
loop-place-preserved g c =
    let s = g.S.Scale.scale in
    let direction = c.args.direction in
    let chains = c.args.chains.now in
    let row = g.R.Row.costs c.args.row.now in
    let j = c.loop-place.place in
    let rule = get_or chains j zero_rule in
    let from = row (source direction rule) in
    let to = row (target direction rule) in
    let more = closed_more s direction chains row j zero_rule in
    let before = c.loop-place.invariant in
    elim c.if-not-bare-from.branch [
      | then-not-bare-from+in-None w ↦
          let none : from ≡ None = cc in
          rw w.bare-is (record {
            bare = λ a h. elim (ℕ_discrete a c.ends-from.result.0) [
              | yes e ↦ ap row {y = source direction rule} (e ∙ c.ends-from.ensures.from) ∙ none
              | no ne ↦ before.bare a (sym (get_or-set_other c.loop-place.bare c.ends-from.result.0 a true false ne) ∙ h)
            ];
            closed = more (lowered_none s rule.weight from to none) before.closed;
          })
      | then-not-bare-from+in-Some+else-wanted w ↦
          let is : from ≡ Some w.in-Some.cost = cc in
          let dear : cheaper s to (s.join (s.price rule.weight) w.in-Some.cost) ≡ false = cc in
          rw w.bare-is (record {
            bare = before.bare;
            closed = more (lowered_some s rule.weight from to w.in-Some.cost false is dear) before.closed;
          })
      | else-not-bare-from w ↦
          let none : from ≡ None = ap row (sym c.ends-from.ensures.from) ∙ before.bare c.ends-from.result.0 w.if-not-bare-from.false in
          rw w.bare-is (record {
            bare = before.bare;
            closed = more (lowered_none s rule.weight from to none) before.closed;
          })
    ]
