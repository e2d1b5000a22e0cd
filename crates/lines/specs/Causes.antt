-- The causes of a line's faults, in plain words, and that each fault is answered exactly where its cause stands.
use Rattle.std.specs.Prelude.{◌≡◌, ℕ, ◌+◌, ◌<◌, true, false, ◌⊎◌, List, length, take, Err, count_by, nat_eq, slice_index}
use Rattle.refusals.specs.declared.Refusal.TheVariants.{ForeignByte, TooLong, Unpaired}
use Rattle.lines.specs.declared.shape.Allowed.{Allowed}
use Rattle.lines.specs.Bytes.{own, letter}
use Rattle.lines.specs.Form.{fault_at, line_form}

-- P holds at k, and at no place before it
pub record First (P : ℕ → Type 0) (k : ℕ) : Type 0 where
  pub here : P k
  pub earlier : (j : ℕ) → j < k → P j → ⊥

-- P holds at no place
abbrev pub Nowhere : (ℕ → Type 0) → Type 0
Nowhere P = (k : ℕ) → P k → ⊥

-- the byte at k may not stand in a line
pub record ForeignAt (line : List ℕ) (k : ℕ) : Type 0 where
  pub inside : k < length line
  pub foreign : own (slice_index line k) ≡ false

-- 17 letters in a row start at k
abbrev pub RowAt : List ℕ → ℕ → Type 0
RowAt line k = (j : ℕ) → j < 17 → letter (slice_index line (k + j)) ≡ true

-- something too long is at k: 17 letters in a row, or the 1,025th byte
abbrev pub LongAt : List ℕ → ℕ → Type 0
LongAt line k = RowAt line k ⊎ ((k ≡ 1024) × (1024 < length line))

-- how many brackets of each kind stand among some bytes
abbrev pub opened : List ℕ → ℕ
opened bs = count_by (λ b. nat_eq b 40) bs

abbrev pub closed : List ℕ → ℕ
closed bs = count_by (λ b. nat_eq b 41) bs

-- a bracket does not pair at k: up to there more are closed than opened, or k is the end and one is still open
abbrev pub UnpairedAt : List ℕ → ℕ → Type 0
UnpairedAt line k = (opened (take (k + 1) line) < closed (take (k + 1) line)) ⊎ ((k ≡ length line) × (closed line < opened line))

-- a fault of a cause is answered at k exactly where the cause stands at k first and no cause before it in the order stands anywhere
pub record Causes (allowed : Allowed) (line : List ℕ) (k : ℕ) : Type 0 where
  pub foreign : line_form allowed line ≡ Err (fault_at ForeignByte k) → First (ForeignAt line) k
  pub foreign_told : First (ForeignAt line) k → line_form allowed line ≡ Err (fault_at ForeignByte k)
  pub long : line_form allowed line ≡ Err (fault_at TooLong k) → Nowhere (ForeignAt line) × First (LongAt line) k
  pub long_told : Nowhere (ForeignAt line) → First (LongAt line) k → line_form allowed line ≡ Err (fault_at TooLong k)
  pub unpaired : line_form allowed line ≡ Err (fault_at Unpaired k) → Nowhere (ForeignAt line) × Nowhere (LongAt line) × First (UnpairedAt line) k
  pub unpaired_told : Nowhere (ForeignAt line) → Nowhere (LongAt line) → First (UnpairedAt line) k → line_form allowed line ≡ Err (fault_at Unpaired k)

abbrev pub FaultsHaveCauses : Type 0
FaultsHaveCauses = (allowed : Allowed) (line : List ℕ) (k : ℕ) → Causes allowed line k
