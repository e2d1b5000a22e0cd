use Rattle.std.proofs.Common.{rules, ℕ, zero, suc, ◌+◌, ◌/◌, ◌<◌, ◌≤◌, Some, None, Option, MatchOption, sym, subst, add-one, arith}
use native.Mathlib.Decide.{dec_lt}
use Rattle.std.specs.Option.{unwrap_or}
use Rattle.std.proofs.lemmas.Iterator.{first_from_Range}
use Rattle.summary.specs.Memory.{tri, entries_for, Widest}
use Rattle.summary.proofs.Order.{entries_is, rows_grow, room_fits, room_lacks}
use Rattle.summary.proofs.widest.Goals as goal

module _ (size room : ℕ) (some : 1 ≤ size) where
  -- so many words fit where their rows do, and no more where the rows of one more don't
  fits : (n : ℕ) → n + tri n ≤ room / size → entries_for size n ≤ room
  fits n h = subst (λ (k : ℕ). k ≤ room) (sym (entries_is size n)) (room_fits (n + tri n) room size h)

  most : (i : ℕ) → room / size < i + 1 + tri (i + 1) → (k : ℕ) → entries_for size k ≤ room → k ≤ i
  most i h k inside = elim (dec_lt i k) [
    | yes more ↦ absurd (room_lacks (k + tri k) room size some (omega (arith, rows_grow (i + 1) k (omega arith))) (subst (λ (n : ℕ). n ≤ room) (entries_is size k) inside))
    | no less ↦ omega arith
  ]

  before : (i : ℕ) → ((k : ℕ) → 0 ≤ k → k < i → k + 1 + tri (k + 1) ≤ room / size) → i + tri i ≤ room / size
  before zero h = omega arith
  before (suc i) h = subst (λ (n : ℕ). n + tri n ≤ room / size) (add-one i) (h i (omega arith) (omega arith))

  widest : (o : Option ℕ) → MatchOption o ((k : ℕ) → 0 ≤ k → k < 40 → k + 1 + tri (k + 1) ≤ room / size) (λ i. (0 ≤ i) × (i < 40) × (room / size < i + 1 + tri (i + 1)) × ((k : ℕ) → 0 ≤ k → k < i → k + 1 + tri (k + 1) ≤ room / size)) → Widest size room (unwrap_or o 40)
  widest None h = record { few = omega arith; fits = fits 40 (before 40 h); most = λ k few _. few }
  widest (Some i) h = record { few = omega (arith, h.1); fits = fits i (before i h.3); most = λ k few. most i h.2 k }

pub returns : goal.returns
returns c =
    let rows = c.args.room / c.args.categories in
    let found = first_from_Range _ _ _ c.find.result (λ k. rows < k + 1 + tri (k + 1)) (λ k. k + 1 + tri (k + 1) ≤ rows) c.find.ensures.ran
    (λ k q h. search rules)
    (λ k q h. search rules) in
    rw c.unwrap_or.ensures (widest c.args.categories c.args.room c.requires c.find.result found)
