-- The order of the rows, and how many there are.
use Rattle.std.proofs.Common.{◌≡◌, ℕ, zero, suc, ◌+◌, ◌-◌, ◌*◌, ◌/◌, ◌<◌, ◌≤◌, sym, refl, ap, ◌∙◌, subst, inl, inr, mul-le-mul_right, add-mul, mul-add, div-mul-le_self, add-one, arith}
use native.Mathlib.Nat.{lt-div-mul-add}
use native.Mathlib.Decide.{ℕ_discrete}
use Rattle.summary.specs.declared.step.Side.{Side}
use Rattle.summary.specs.declared.step.Side.TheVariants.{Left, Right}
use Rattle.summary.specs.Memory.{tri, place, entries_for}
use Rattle.summary.specs.Filling.{Earlier, across, shorter}
use Rattle.summary.proofs.Placing.{row_before}

pub tri_grows : (m n : ℕ) → m < n → tri m + m < tri n
tri_grows m zero h = absurd (omega arith)
tri_grows m (suc n) h = elim (ℕ_discrete m n) [
  | yes e ↦ subst (λ k. tri k + k < tri n + suc n) (sym e) (omega arith)
  | no ne ↦ omega (arith, tri_grows m n (omega arith))
]

pub tri_double : (n : ℕ) → tri n + tri n ≡ n * (n + 1)
tri_double zero = refl
tri_double (suc n) =
    let same : suc n * (suc n + 1) ≡ (n + 1) * (n + 1 + 1) = ap (λ k. k * (k + 1)) (sym (add-one n)) in
    omega (arith, tri_double n, same, add-mul n 1 (n + 1 + 1), mul-add n (n + 1) 1)

-- the rows of the pairs stand in the order of the pairs
pub place_before : (span n l r a b : ℕ) → l + r ≡ n → Earlier n l a b → place span a b < place span l r
place_before span n l r a b sum (inl h) = omega (arith, tri_grows (a + b) (l + r) (omega arith))
place_before span n l r a b sum (inr h) =
    let same : a + b ≡ l + r = h.0 ∙ sym sum in
    omega (arith, ap tri same, h.1)

pub earlier_sum : (n l a b : ℕ) → Earlier n l a b → a + b ≤ n
earlier_sum n l a b (inl h) = omega arith
earlier_sum n l a b (inr h) = omega (arith, h.0)

-- the last row that there is
pub place_fits : (size span n l r : ℕ) → l + r ≡ n → n < span → place span l r * size + size ≤ (span + tri span) * size
place_fits size span n l r sum h = row_before size (place span l r) (span + tri span) (omega (arith, tri_grows (l + r) span (omega arith)))

-- a pair without some words across from the gap stands before it
pub shorter_before : (side : Side) (span l r m : ℕ) → 1 ≤ m → m ≤ across side l r → shorter side span l r m < place span l r
shorter_before Left span l r m one h = place_before span (l + r) l r l (r - m) refl (inl (omega arith))
shorter_before Right span l r m one h = place_before span (l + r) l r (l - m) r refl (inl (omega arith))

pub across_few : (side : Side) (l r : ℕ) → across side l r ≤ l + r
across_few Left l r = omega arith
across_few Right l r = omega arith

-- the rows of a span
pub rows_is : (n : ℕ) → n * (n + 3) / 2 ≡ n + tri n
rows_is n =
    let three : n + 3 ≡ n + 1 + 2 = omega arith in
    omega (arith, tri_double n, mul-add n (n + 1) 2, ap (λ k. n * k) three)

pub entries_is : (size n : ℕ) → entries_for size n ≡ (n + tri n) * size
entries_is size n = ap (λ k. k * size) (rows_is n)

pub rows_grow : (m n : ℕ) → m ≤ n → m + tri m ≤ n + tri n
rows_grow m n h = elim (ℕ_discrete m n) [ yes e ↦ subst (λ k. m + tri m ≤ k + tri k) e (omega arith) | no ne ↦ omega (arith, tri_grows m n (omega arith)) ]

pub room_fits : (rows cells size : ℕ) → rows ≤ cells / size → rows * size ≤ cells
room_fits rows cells size h = omega (arith, mul-le-mul_right size h, div-mul-le_self cells size)

pub room_lacks : (rows cells size : ℕ) → 1 ≤ size → cells / size < rows → rows * size ≤ cells → ⊥
room_lacks rows cells size some h fits =
    let past : cells < cells / size * size + size = lt-div-mul-add (omega arith) in
    omega (arith, row_before size (cells / size) rows h)

-- the rows of the lengths stand before those of the pairs
pub lengths_first : (size span l r : ℕ) → span * size ≤ place span l r * size
lengths_first size span l r = mul-le-mul_right size (omega arith)

pub lengths_all : (size span : ℕ) → span * size ≤ (span + tri span) * size
lengths_all size span = mul-le-mul_right size (omega arith)
