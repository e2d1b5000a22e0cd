-- The triangle's cells are apart, and those of n columns come before those of the next.
use Rattle.std.proofs.Common.{◌≡◌, ℕ, zero, suc, ◌+◌, ◌-◌, ◌*◌, ◌/◌, ◌<◌, ◌≤◌, sym, refl, ap, ◌∙◌, inl, inr, add-zero, add-suc, suc-mul, mul-one, mul-add, mul-div_cancel, add-one, arith}
use Rattle.std.proofs.lemmas.Bool.{cases_order}
use Rattle.chart.specs.Triangle.{tri, cell}

pub tri_suc : (n : ℕ) → tri (suc n) ≡ tri n + suc n
unfolding tri
tri_suc n = refl

pub tri_up : (n k : ℕ) → tri n ≤ tri (n + k)
tri_up n zero = rw add-zero (omega arith)
tri_up n (suc k) = rw add-suc (omega (arith, tri_up n k, tri_suc (n + k)))

pub tri_mono : (m n : ℕ) → m ≤ n → tri m ≤ tri n
tri_mono m n h = let e : m + (n - m) ≡ n = omega arith in rw e at (tri_up m (n - m))

-- the first n columns, at a column that is counted from 1
pub tri_before : (e : ℕ) → 1 ≤ e → tri e ≡ tri (e - 1) + e
tri_before e h = let q : suc (e - 1) ≡ e = omega arith in rw q at (tri_suc (e - 1))

pub tri_most : (n : ℕ) → n ≤ 40 → tri n ≤ 820
unfolding tri
tri_most n h = tri_mono n 40 h

pub cell_below : (b e n : ℕ) → 1 ≤ b → b ≤ e → e ≤ n → cell b e < tri n
cell_below b e n p q r =
    let one : 1 ≤ e = omega arith in
    omega (arith, tri_before e one, tri_mono e n r)

-- cells of two columns are apart
later : (b e x y : ℕ) → 1 ≤ b → b ≤ e → e < y → cell b e ≡ cell x y → ⊥
later b e x y p q r s =
    let l : e ≤ y - 1 = omega arith in
    omega (arith, cell_below b e (y - 1) p q l)

pub cell_apart : (b e x y : ℕ) → 1 ≤ b → b ≤ e → 1 ≤ x → x ≤ y → cell b e ≡ cell x y → (b ≡ x) × (e ≡ y)
cell_apart b e x y p q r s h =
    elim (cases_order e y) [
      | inl eq ↦ let t : tri (e - 1) ≡ tri (y - 1) = ap (λ n. tri (n - 1)) eq in (omega arith, eq)
      | inr (inl lt) ↦ absurd (later b e x y p q lt h)
      | inr (inr gt) ↦ absurd (later x y b e r s gt (sym h))
    ]

-- the sum in closed form
tri_double : (n : ℕ) → tri n * 2 ≡ n * (n + 1)
unfolding tri
tri_double zero = refl
tri_double (suc n) =
    let ih = tri_double n in
    let s = suc-mul n (suc n + 1) in
    let d = mul-add n (n + 1) 1 in
    let o = mul-one n in
    let e : n * (suc n + 1) ≡ n * ((n + 1) + 1) = ap (λ k. n * (k + 1)) (sym (add-one n)) in
    omega arith

pub tri_closed : (n : ℕ) → tri n ≡ n * (n + 1) / 2
tri_closed n = sym (ap (λ k. k / 2) (sym (tri_double n)) ∙ mul-div_cancel (tri n) (omega arith))
