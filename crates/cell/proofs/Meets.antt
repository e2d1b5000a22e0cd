-- One split more, and one rule more: what the binary rules offer.
use Rattle.std.proofs.Common.{◌≡◌, ℕ, ◌+◌, ◌<◌, ◌≤◌, ◌⊎◌, List, Some, None, Option, sym, refl, ap, ◌∙◌, subst, inl, inr, arith}
use Rattle.std.specs.Borrow.{Bor}
use native.Mathlib.Decide.{ℕ_discrete}
use Rattle.derivation.specs.declared.rules.BinaryRule.{BinaryRule}
use Rattle.derivation.specs.Scale.{Scale}
use Rattle.derivation.specs.Table.{Table}
use Rattle.chart.specs.declared.meaning.Chart as chart
use Rattle.scale.specs.declared.Scale as scale
use Rattle.chart.specs.Meaning.{Seen, Splits}
use Rattle.table.specs.Memory.{view}
use Rattle.derivation.proofs.Reading.{none_some, some_same}
use Rattle.table.proofs.Views.{view_held}
use Rattle.cell.specs.declared.task.Task.{Task}
use Rattle.cell.specs.declared.cell.Cell.{Cell}
use Rattle.settle.specs.Offers.{joined}
use Rattle.settle.proofs.Growing.{parts}
use Rattle.cell.specs.Cell.{Meet}
use Rattle.cell.specs.Open.{costs_in, Beside}

module _ {Cost : Type 0} {s : Scale Cost} {rule : BinaryRule} {v : Table Cost} {b e : ℕ} where
  pub meet_up : (m A : ℕ) (c : Cost) → Meet s rule v b e m A c → Meet s rule v b e (m + 1) A c
  meet_up m A c h = let k = h.high in record { middle = h.middle; low = h.low; high = omega arith; makes = h.makes; costs = h.costs }

  pub meet_here : (m : ℕ) (c : Cost) → b ≤ m → joined s rule.weight (v rule.left b m) (v rule.right (m + 1) e) ≡ Some c → Meet s rule v b e (m + 1) rule.category c
  meet_here m c low is = record { middle = m; low = low; high = omega arith; makes = refl; costs = is }

  pub meet_cases : (m A : ℕ) (c : Cost) → Meet s rule v b e (m + 1) A c → Meet s rule v b e m A c ⊎ ((A ≡ rule.category) × (joined s rule.weight (v rule.left b m) (v rule.right (m + 1) e) ≡ Some c))
  meet_cases m A c h =
      let k = h.high in
      elim (ℕ_discrete h.middle m) [
        | yes q ↦ inr (sym h.makes, subst (λ n. joined s rule.weight (v rule.left b n) (v rule.right (n + 1) e) ≡ Some c) q h.costs)
        | no ne ↦ inl (record { middle = h.middle; low = h.low; high = omega arith; makes = h.makes; costs = h.costs })
      ]

-- where a rule's parts are in the table they meet in the chart
pub meet_splits : {Cost : Type 0} {s : Scale Cost} {rule : BinaryRule} {b e k A : ℕ} {c : Cost} (d : Cost) (g : ℕ) (chart : Seen) (costs : List Cost) → k ≤ e → (h : Meet s rule (view d g chart costs) b e k A c) → Splits chart.holds rule.left rule.right b e h.middle
meet_splits {s = s} {rule} {b} {e} {c = c} d g chart costs most h =
    let m = h.middle in
    let high = h.high in
    let (x, y, at_x, at_y, _) = parts s rule.weight (view d g chart costs rule.left b m) (view d g chart costs rule.right (m + 1) e) c h.costs in
    (h.low, omega arith, (view_held d g chart costs rule.left b m x at_x).0, (view_held d g chart costs rule.right (m + 1) e y at_y).0)

module _ {S C B Cost : Type 0} {met : scale.Ghosts S Cost} {over : chart.Ghosts C} where
  -- offers to a cell change no other
  pub costs_kept : (before after : Cell S C B Cost met over) → Beside before after → (A x y : ℕ) → (x ≡ before.b → y ≡ before.e → ⊥) → costs_in after A x y ≡ costs_in before A x y
  costs_kept before after kept A x y other =
      ap (λ (task : Bor (Task Cost B)). view met.scale.neutral task.now.rules.now.categories (over.seen after.chart.now) after.costs.now A x y) kept.task ∙ kept.framed.elsewhere A x y other

  pub joined_kept : (rule : BinaryRule) (m : ℕ) (before after : Cell S C B Cost met over) → Beside before after → before.b ≤ m → m < before.e → joined met.scale rule.weight (costs_in after rule.left after.b m) (costs_in after rule.right (m + 1) after.e) ≡ joined met.scale rule.weight (costs_in before rule.left before.b m) (costs_in before rule.right (m + 1) before.e)
  joined_kept rule m before after kept low high =
      let first : costs_in after rule.left after.b m ≡ costs_in before rule.left before.b m = ap (λ b. costs_in after rule.left b m) kept.first ∙ costs_kept before after kept rule.left before.b m (λ _ q. omega arith) in
      let second : costs_in after rule.right (m + 1) after.e ≡ costs_in before rule.right (m + 1) before.e = ap (λ e. costs_in after rule.right (m + 1) e) kept.last ∙ costs_kept before after kept rule.right (m + 1) before.e (λ q _. omega arith) in
      ap (λ o. joined met.scale rule.weight o (costs_in after rule.right (m + 1) after.e)) first ∙ ap (λ o. joined met.scale rule.weight (costs_in before rule.left before.b m) o) second

  module _ (rule : BinaryRule) (before after : Cell S C B Cost met over) (kept : Beside before after) where
    pub meet_then : (A : ℕ) (c : Cost) → Meet met.scale rule (costs_in before) before.b before.e before.e A c → Meet met.scale rule (costs_in after) after.b after.e after.e A c
    meet_then A c h =
        let k = h.high in
        let low : after.b ≤ h.middle = rw kept.first h.low in
        let high : h.middle < after.e = rw kept.last h.high in
        record { middle = h.middle; low = low; high = high; makes = h.makes; costs = joined_kept rule h.middle before after kept h.low h.high ∙ h.costs }

    pub meet_back : (A : ℕ) (c : Cost) → Meet met.scale rule (costs_in after) after.b after.e after.e A c → Meet met.scale rule (costs_in before) before.b before.e before.e A c
    meet_back A c h =
        let low : before.b ≤ h.middle = rw (sym kept.first) h.low in
        let high : h.middle < before.e = rw (sym kept.last) h.high in
        record { middle = h.middle; low = low; high = high; makes = h.makes; costs = sym (joined_kept rule h.middle before after kept low high) ∙ h.costs }
