-- The laws of a binary digit: of `|`, `&`, `>>`, `1 << j` and `trailing_zeros`, at any width.
use Rattle.std.proofs.Common.{◌≡◌, ℕ, zero, suc, ◌+◌, ◌-◌, ◌/◌, ◌%◌, ◌^◌, ◌<◌, true, false, ◌&&◌, ◌||◌, eqb, sym, refl, ap, ◌∙◌, inl, inr, le_of_suc-le-suc, not-suc-le-zero, mod-lt, pow-suc, div-one, one-add, arith, pow_pos, pow-add, shr-shr}
use native.Mathlib.Nat.{div_self, div-eq_of_lt, mul-mod_left, zero-div, zero-mod}
use lib.Arith.{digits_mod}
use lib.Bits.{bit_and, bit_or, and_step, or_step, and_shr, or_shr}
use lib.Pow.{pow-lt, shl-shr}
use lib.Count.{count_trailing_zeros, under}
use Rattle.std.proofs.lemmas.Nat.{and_mask}
use Rattle.std.proofs.lemmas.Bool.Decides.{nat_tests}
use Rattle.std.proofs.lemmas.Bool.{cases_order, eq-eqb, ne_eqb}
use Rattle.vectors.specs.Bit.{bit}

pub bit-none : (k : ℕ) → bit k 0 ≡ false
unfolding bit
bit-none k = ap (λ x. eqb (x % 2) 1) (zero-div (2 ^ k)) ∙ ap (λ x. eqb x 1) (zero-mod 2)

-- `(n >> k) & 1 == 1`
pub bit-read : (k n : ℕ) → eqb (bit_and (n / 2 ^ k) 1) 1 ≡ bit k n
unfolding bit
bit-read k n = ap (λ x. eqb x 1) (and_mask (n / 2 ^ k) 1)

bit-first : (n : ℕ) → bit 0 n ≡ eqb (n % 2) 1
unfolding bit
bit-first n = ap (λ x. eqb (x % 2) 1) (div-one n)

-- `n >> s`
pub bit-shr : (s k n : ℕ) → bit k (n / 2 ^ s) ≡ bit (s + k) n
unfolding bit
bit-shr s k n = ap (λ x. eqb (x % 2) 1) (shr-shr n s k)

bit-suc : (k n : ℕ) → bit (suc k) n ≡ bit k (n / 2)
bit-suc k n = ap (λ x. bit x n) (sym (one-add k)) ∙ sym (bit-shr 1 k n)

or_low : (a b : ℕ) → eqb (bit_or a b % 2) 1 ≡ (eqb (a % 2) 1 || eqb (b % 2) 1)
or_low a b =
    let p = mod-lt a {m = 2} (omega arith) in
    let q = mod-lt b {m = 2} (omega arith) in
    ap (λ x. eqb (x % 2) 1) (or_step a b) ∙ ap (λ x. eqb x 1) (digits_mod (bit_or (a / 2) (b / 2)) (omega arith)) ∙ grind (arith, nat_tests)

and_low : (a b : ℕ) → eqb (bit_and a b % 2) 1 ≡ (eqb (a % 2) 1 && eqb (b % 2) 1)
and_low a b =
    let p = mod-lt a {m = 2} (omega arith) in
    let q = mod-lt b {m = 2} (omega arith) in
    ap (λ x. eqb (x % 2) 1) (and_step a b) ∙ ap (λ x. eqb x 1) (digits_mod (bit_and (a / 2) (b / 2)) (omega arith)) ∙ grind (arith, nat_tests)

pub bit-or : (k a b : ℕ) → bit k (bit_or a b) ≡ (bit k a || bit k b)
unfolding bit
bit-or k a b = ap (λ x. eqb (x % 2) 1) (or_shr a b k) ∙ or_low (a / 2 ^ k) (b / 2 ^ k)

pub bit-and : (k a b : ℕ) → bit k (bit_and a b) ≡ (bit k a && bit k b)
unfolding bit
bit-and k a b = ap (λ x. eqb (x % 2) 1) (and_shr a b k) ∙ and_low (a / 2 ^ k) (b / 2 ^ k)

-- the only bit of 2 ^ j is j
same : (j : ℕ) → bit j (2 ^ j) ≡ true
unfolding bit
same j = ap (λ x. eqb (x % 2) 1) (div_self (pow_pos j))

above : (d k : ℕ) → bit k (2 ^ (suc d + k)) ≡ false
unfolding bit
above d k =
    ap (λ x. eqb (x / 2 ^ k % 2) 1) (pow-add 2 (suc d) k) ∙ ap (λ x. eqb (x % 2) 1) (shl-shr (2 ^ suc d) k)
    ∙ ap (λ x. eqb (x % 2) 1) (pow-suc 2 d) ∙ ap (λ x. eqb x 1) (mul-mod_left (2 ^ d) 2)

below : (j k : ℕ) → j < k → bit k (2 ^ j) ≡ false
unfolding bit
below j k h = ap (λ x. eqb (x % 2) 1) (div-eq_of_lt (pow-lt h))

pub bit-power : (j k : ℕ) → bit k (2 ^ j) ≡ eqb k j
bit-power j k =
    elim (cases_order k j) [
      | inl e ↦ ap (λ x. bit k (2 ^ x)) (sym e) ∙ same k ∙ sym (eq-eqb k j e)
      | inr (inl lt) ↦
          let e : suc (j - suc k) + k ≡ j = omega arith in
          ap (λ x. bit k (2 ^ x)) (sym e) ∙ above (j - suc k) k ∙ sym (ne_eqb k j (omega arith))
      | inr (inr gt) ↦ below j k gt ∙ sym (ne_eqb k j (omega arith))
    ]

-- below the trailing zeros of w bits no bit is set
low_step : (d t n j : ℕ) → d ≡ n % 2 → ((i : ℕ) → i < t → bit i (n / 2) ≡ false) → j < under d t → bit j n ≡ false
low_step zero t n zero e rest h = bit-first n ∙ ap (λ x. eqb x 1) (sym e)
low_step zero t n (suc j) e rest h = bit-suc j n ∙ rest j (le_of_suc-le-suc h)
low_step (suc d) t n j e rest h = absurd (not-suc-le-zero h)

pub trailing_low : (w n j : ℕ) → j < count_trailing_zeros w n → bit j n ≡ false
unfolding count_trailing_zeros
trailing_low zero n j h = absurd (not-suc-le-zero h)
trailing_low (suc w) n j h = low_step (n % 2) (count_trailing_zeros w (n / 2)) n j refl (trailing_low w (n / 2)) h

-- and the bit right above them is, unless they are all w
at_step : (d t w n : ℕ) → d ≡ n % 2 → (t < w → bit t (n / 2) ≡ true) → under d t < suc w → bit (under d t) n ≡ true
at_step zero t w n e rest h = bit-suc t n ∙ rest (le_of_suc-le-suc h)
at_step (suc d) t w n e rest h =
    let small = mod-lt n {m = 2} (omega arith) in
    bit-first n ∙ eq-eqb (n % 2) 1 (omega arith)

pub trailing_at : (w n : ℕ) → count_trailing_zeros w n < w → bit (count_trailing_zeros w n) n ≡ true
unfolding count_trailing_zeros
trailing_at zero n h = absurd (not-suc-le-zero h)
trailing_at (suc w) n h = at_step (n % 2) (count_trailing_zeros w (n / 2)) w n refl (trailing_at w (n / 2)) h

-- `x & (y >> 1)`: a bit is set where x has it and y has the next
abbrev pub common : ℕ → ℕ → ℕ
common x y = bit_and x (y / 2 ^ 1)

pub bit-common : (x y k : ℕ) → bit k (common x y) ≡ (bit k x && bit (k + 1) y)
bit-common x y k =
    let next : 1 + k ≡ k + 1 = omega arith in
    bit-and k x (y / 2 ^ 1) ∙ ap (λ t. bit k x && t) (bit-shr 1 k y ∙ ap (λ i. bit i y) next)
