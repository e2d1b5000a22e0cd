-- How many numbers below n pass a test.
use Rattle.std.proofs.Common.{◌≡◌, ℕ, ◌+◌, ◌<◌, ◌≤◌, Bool, true, false, cond, length, get_or, take, drop, refl, ◌∙◌, zero-add, inl, inr, arith}
use Rattle.std.specs.List.{count_by, range_with_len}
use Rattle.std.proofs.lemmas.Bool.{cases_Bool}
use Rattle.std.proofs.lemmas.List.FromFn.{length-range_with_len, get_or-range_with_len}
use Rattle.std.proofs.lemmas.List.Sums.{count_by-le-length, sum_by-take-drop, sum_by-drop_more, sum_by-le-sum_by}

abbrev pub many : (ℕ → Bool) → ℕ → ℕ
many p n = count_by p (range_with_len 0 n)

pub many_most : (p : ℕ → Bool) (n : ℕ) → many p n ≤ n
many_most p n = omega (arith, count_by-le-length p (range_with_len 0 n), length-range_with_len 0 n)

-- what passes p passes q, and j passes q alone
pub many_less : (p q : ℕ → Bool) (n : ℕ) → ((k : ℕ) → p k ≡ true → q k ≡ true) → (j : ℕ) → j < n → p j ≡ false → q j ≡ true → many p n < many q n
many_less p q n passes j small no-p yes-q =
    let xs = range_with_len 0 n in
    let f : ℕ → ℕ = λ k. cond (p k) 1 0 in
    let g : ℕ → ℕ = λ k. cond (q k) 1 0 in
    let less : (k : ℕ) → f k ≤ g k = λ k. elim (cases_Bool (p k)) [ inl t ↦ let u = passes k t in rw (t, u) (omega arith) | inr n ↦ rw n (omega arith) ] in
    let inside : j < length xs = omega (arith, length-range_with_len 0 n) in
    let here : get_or xs j 0 ≡ j = get_or-range_with_len 0 n j 0 small ∙ zero-add j in
    let f-j : f (get_or xs j 0) ≡ 0 = rw (here, no-p) refl in
    let g-j : g (get_or xs j 0) ≡ 1 = rw (here, yes-q) refl in
    omega (arith, f-j, g-j, sum_by-take-drop f xs j, sum_by-take-drop g xs j, sum_by-drop_more f xs j 0 inside, sum_by-drop_more g xs j 0 inside, sum_by-le-sum_by f g (take j xs) less, sum_by-le-sum_by f g (drop (j + 1) xs) less)
