use Rattle.std.proofs.Common.{◌≡◌, ℕ, ◌+◌, ◌-◌, ◌≤◌, sym, ap, ◌∙◌, subst, ap₂, arith}
use Rattle.derivation.specs.Grammar.{grammar}
use Rattle.derivation.specs.Table.{Table}
use Rattle.table.specs.Memory.{view}
use Rattle.table.proofs.Views.{held_same}
use Rattle.cell.specs.Cell.{Closes}
use Rattle.round.specs.Counting.{tally, ending}
use Rattle.round.specs.Filling.{Sofar}
use Rattle.round.proofs.Counts.{tally_most, ending_most, ending_more, ending_same}
use Rattle.round.proofs.Ends.{spread_cell}
use Rattle.round.proofs.Spans.{sofar_step}
use Rattle.round.proofs.fill_ending.Goals as goal

pub overflow_add-held : goal.overflow_add-held
overflow_add-held g c =
    let m = g.C.Chart in
    let rules = c.args.task.now.rules.now in
    let kinds = rules.categories in
    let e = c.args.e in
    let b = c.loop-b.b in
    let few : kinds ≤ 64 = rules.few in
    let text = c.requires.fitted.text in
    let within = m.sound.within c.args.chart.now in
    let most = m.sound.most c.args.chart.now in
    let last = c.requires.last in
    let low = c.loop-b.auto.b in
    let less = c.loop-b-test.true in
    let so_far = ending_most (m.seen c.loop-b.chart).holds kinds e (e - b) few in
    let here = tally_most (m.seen c.fill.new.chart).holds b e kinds in
    let inv = c.loop-b.invariant.number in
    let is = c.count-held.ensures in
    omega arith

pub loop-b-preserved : goal.loop-b-preserved
loop-b-preserved g c =
    let s = g.S.Scale.scale in
    let d = s.neutral in
    let kinds = c.args.task.now.rules.now.categories in
    let e = c.args.e in
    let b = c.loop-b.b in
    let back = e - b in
    let low = c.loop-b.auto.b in
    let less = c.loop-b-test.true in
    let at : b ≡ e - back = omega arith in
    let next : back + 1 ≡ e - (b - 1) = omega arith in
    let old = g.C.Chart.seen c.loop-b.chart in
    let new = g.C.Chart.seen c.fill.new.chart in
    let v : Table g.row.S-Cost.Denot = view d kinds old c.loop-b.costs in
    let v' : Table g.row.S-Cost.Denot = view d kinds new c.fill.new.costs in
    let inv = c.loop-b.invariant in
    let task = c.args.task.now in
    let rules = grammar task.rules.now in
    let entry = g.B.Bound.limit task.bound.now in
    let framed = c.fill.ensures.framed in
    let kept = ending_same old.holds new.holds kinds e back (λ x A p. held_same d kinds old new c.loop-b.costs c.fill.new.costs A x e (framed.elsewhere A x e (λ q _. omega arith))) (omega arith) in
    let closes = subst (λ (b : ℕ). Closes s rules entry task.ceiling task.text.now v v' b e) at c.fill.ensures.closes in
    let here : c.count-held.result ≡ tally new.holds (e - back) e kinds = c.count-held.ensures ∙ ap (λ (b : ℕ). tally new.holds b e kinds) at in
    let sofar = sofar_step v v' e back (omega arith) inv.sofar closes in
    record {
      spread = spread_cell d kinds inv.spread framed;
      sofar = subst (λ (k : ℕ). Sofar s rules entry task.ceiling task.text.now v' e k) next sofar;
      number = ap₂ (λ (x y : ℕ). x + y) (inv.number ∙ sym kept) here ∙ sym (ending_more new.holds kinds e back) ∙ ap (λ (k : ℕ). ending new.holds kinds e k) next;
    }
