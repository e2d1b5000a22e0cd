use Rattle.std.proofs.Common.{◌≡◌, ℕ, ◌+◌, ◌≤◌, Some, sym, ◌∙◌, subst, inl, inr, ⊎_elim, arith}
use Rattle.derivation.specs.Table.{Table}
use Rattle.settle.specs.Column.{Grown}
use Rattle.derivation.proofs.Reading.{none_some, some_same}
use Rattle.settle.proofs.Growing.{offered_as, grown_none, grown_same, grown_offer}
use Rattle.settle.specs.Offers.{joined}
use Rattle.cell.specs.Cell.{Meet}
use Rattle.cell.specs.Open.{costs_in, column_of, open_to}
use Rattle.cell.specs.Laws.{cell_laws}
use Rattle.cell.proofs.Meets.{meet_up, meet_here, meet_cases, meet_splits, joined_kept}
use Rattle.cell.proofs.cell.Cell.meets.Goals as goal
use Rattle.cell.proofs.cell.Cell.meets.Goals.{in-Some, in_default}

pub loop-m-init : goal.loop-m-init
loop-m-init g c =
    let high = c.requires.high in
    let cell = c.args.self.now in
    record {
      beside = (cell_laws g.B.Bound.limit).same cell;
      grown = grown_none g.met.S.Scale.lawful _ (λ A x h. c.requires.lowest h.middle h.high (meet_splits g.S.Scale.scale.neutral cell.task.now.rules.now.categories (g.C.Chart.seen cell.chart.now) cell.costs.now (omega arith) h));
    }

pub loop-m-preserved : goal.loop-m-preserved
loop-m-preserved g c =
    let s = g.S.Scale.scale in
    let lawful = g.met.S.Scale.lawful in
    let laws = cell_laws g.B.Bound.limit in
    let first = c.args.self.now in
    let cell = c.loop-m.self in
    let kept = c.loop-m.invariant in
    let beside = kept.beside in
    let old : Table g.row.S-Cost.Denot = costs_in first in
    let b = first.b in
    let e = first.e in
    let m = c.loop-m.m in
    let r = c.args.rule in
    let from = c.requires.low in
    let low = c.loop-m.auto.m in
    let high = c.loop-m-test.true in
    let here : b ≤ m = omega arith in
    elim c.match-paired.branch [
      | in-Some w ↦
          let is : joined s r.weight (old r.left b m) (old r.right (m + 1) e) ≡ Some w.in-Some.cost = sym (joined_kept r m first cell beside here high) ∙ sym w.in-Some.ensures in
          let offered = offered_as lawful (laws.opened first cell beside) (laws.opens first cell beside) w.offer.ensures.offered in
          rw w.self-is (record {
            beside = laws.then _ _ _ beside w.offer.ensures.beside;
            grown = grown_offer lawful kept.grown offered (meet_up m) (subst (λ k. Meet s r old b e (m + 1) k w.in-Some.cost) (sym w.from.ensures) (meet_here m w.in-Some.cost here is))
                (λ A x h. ⊎_elim inl (λ (q : (A ≡ r.category) × (joined s r.weight (old r.left b m) (old r.right (m + 1) e) ≡ Some x)). inr (q.0 ∙ sym w.from.ensures, some_same q.1 is)) (meet_cases m A x h));
          })
      | in_default w ↦
          rw w.self-is (record {
            beside = beside;
            grown = grown_same lawful kept.grown (meet_up m)
                (λ A x h. ⊎_elim (λ k. k) (λ (q : (A ≡ r.category) × (joined s r.weight (old r.left b m) (old r.right (m + 1) e) ≡ Some x)). absurd (none_some (sym (joined_kept r m first cell beside here high) ∙ sym w.in_default.ensures) q.1)) (meet_cases m A x h));
          })
    ]

pub returns-clause-grown : goal.returns-clause-grown
returns-clause-grown g c =
    let s = g.S.Scale.scale in
    let first = c.args.self.now in
    let high = c.requires.high in
    let all : c.loop-m.m ≡ first.e = omega (arith, c.loop-m.auto.m-end (omega arith)) in
    subst (λ (n : ℕ). Grown s (open_to g.B.Bound.limit first) (Meet s c.args.rule (costs_in first) first.b first.e n) (column_of first) (column_of c.loop-m.self)) all c.loop-m.invariant.grown
