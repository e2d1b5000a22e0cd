-- What a cost in the table tells of the chart.
use Rattle.std.proofs.Common.{◌≡◌, ℕ, ◌<◌, ◌≤◌, Some, arith}
use Rattle.derivation.specs.declared.rules.BinaryRule.{BinaryRule}
use Rattle.chart.specs.Meaning.{Sound, Splits}
use Rattle.chart.specs.declared.meaning.Chart as chart
use Rattle.scale.specs.declared.Scale as scale
use Rattle.table.specs.declared.Table.{Table}
use Rattle.table.specs.Tables.{entries, holds}
use Rattle.table.proofs.Views.{view_held, held_inside}
use Rattle.tree.specs.Ways.{OfParts}

-- a over b to e lies within n words and `kinds` categories, and these are few
pub record Placed (n kinds b e a : ℕ) : Type 0 where
  pub first : 1 ≤ b
  pub order : b ≤ e
  pub last : e ≤ n
  pub kind : a < kinds
  pub words : n ≤ 40
  pub few : kinds ≤ 64

module _ {S C Cost : Type 0} {met : scale.Ghosts S Cost} {over : chart.Ghosts C} (t : Table S C Cost met over) where
  pub placed : Sound over.seen → (b e a : ℕ) {x : Cost} → entries t a b e ≡ Some x → Placed (over.seen t.chart.now).words t.kinds b e a
  placed sound b e a {x} is =
      let chart = t.chart.now in
      let i = held_inside t.ready (sound.bounded chart b e a (view_held _ t.kinds (over.seen chart) t.costs.now a b e x is).0) in
      record { first = i.first; order = i.order; last = i.last; kind = i.kind; words = omega (arith, sound.most chart, sound.within chart); few = omega (arith, sound.kinds chart, t.ready.same) }

  -- both parts that a rule stands above are in the chart
  pub splits_of : {b e : ℕ} {x : Cost} {rule : BinaryRule} {m : ℕ} → OfParts met.scale (entries t) b e x rule m → Splits (holds t) rule.left rule.right b e m
  splits_of of =
      let chart = over.seen t.chart.now in
      (of.first, of.last, (view_held _ t.kinds chart t.costs.now _ _ _ of.left of.has_left).0, (view_held _ t.kinds chart t.costs.now _ _ _ of.right of.has_right).0)
