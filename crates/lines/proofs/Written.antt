-- What is read as a number is what the number's decimal writes.
use Rattle.std.proofs.Common.{◌≡◌, ℕ, ◌^◌, ◌<◌, Bool, true, false, cond, ◌&&◌, ltb, List, [], ◌∷◌, length, get_or, Some, None, decimal, sym, refl, ap, ◌∙◌, ⊎_elim, arith, rules}
use Rattle.std.proofs.lemmas.Bool.{lt-ltb, ltb-true, eqb-false, ne_eqb, and_from, and_parts, cond-true, cond-false, cases_lt}
use Rattle.std.proofs.lemmas.Str.Parse.{IsNumeralModel, numerals_by_fold}
use Rattle.std.proofs.lemmas.Fmt.{decimal-digits_value, digits_decimal, digits_value-decimal, decimal_nonempty, first_decimal, decimal_digit}
use Rattle.lines.specs.Decimal.{all_digits, read_on, padded, number_of, ReadsDecimal}

own : IsNumeralModel (λ ds. all_digits ds ≡ true) (read_on 0)
own = numerals_by_fold _ (search rules) read_on (search rules)

-- what `number_of` found, where it found a number
found : (p q : Bool) (m n : ℕ) → cond p None (cond q (Some m) None) ≡ Some n → (p ≡ false) × (q ≡ true) × (m ≡ n)
found true q m n e = absurd (let z : ◌≡◌ {A = ℕ} 0 1 = cc in omega arith)
found false true m n e = (refl, refl, cc)
found false false m n e = absurd (let z : ◌≡◌ {A = ℕ} 0 1 = cc in omega arith)

some : (ds : List ℕ) → padded ds ≡ false → 0 < length ds
some [] e = absurd (let z : ◌≡◌ {A = ℕ} 0 1 = grind arith in omega arith)
some (d ∷ ds) e = omega arith

lone : (ds : List ℕ) → padded ds ≡ false → get_or ds 0 0 ≡ 48 → length ds ≡ 1
lone [] e z = absurd (omega arith)
lone (d ∷ []) e z = refl
lone (d ∷ e ∷ ds) p z = absurd (eqb-false d 48 p z)

unpadded : (ds : List ℕ) → 0 < length ds → (get_or ds 0 0 ≡ 48 → length ds ≡ 1) → padded ds ≡ false
unpadded [] s h = absurd (omega arith)
unpadded (d ∷ []) s h = refl
unpadded (d ∷ e ∷ ds) s h = ne_eqb d 48 (λ z. let k = h z in omega arith)

reads : (n : ℕ) (ds : List ℕ) → number_of ds ≡ Some n → (ds ≡ decimal n) × (n < 65536)
reads n ds e =
    let f = found (padded ds) (all_digits ds && ltb (read_on 0 ds) 65536) (read_on 0 ds) n e in
    let b = and_parts (all_digits ds) (ltb (read_on 0 ds) 65536) f.1 in
    let small = ltb-true (read_on 0 ds) 65536 b.1 in
    (sym (decimal-digits_value own ds b.0 (some ds f.0) (lone ds f.0) (omega arith)) ∙ ap decimal f.2, omega (arith, f.2))

first_zero : (n : ℕ) → n < 65536 → get_or (decimal n) 0 0 ≡ 48 → length (decimal n) ≡ 1
first_zero n h z =
    ⊎_elim
    (λ some. absurd (omega (arith, first_decimal n some (omega arith))))
    (λ none. ap length (decimal_digit n (omega arith)))
    (cases_lt 0 n)

writes : (n : ℕ) → n < 65536 → number_of (decimal n) ≡ Some n
writes n h =
    let big : n < 2 ^ 64 = omega arith in
    let v = digits_value-decimal own n big in
    let p = unpadded (decimal n) (decimal_nonempty n big) (first_zero n h) in
    let q = and_from (all_digits (decimal n)) (ltb (read_on 0 (decimal n)) 65536) (digits_decimal own n big) (lt-ltb _ _ (omega (arith, v))) in
    cond-false _ _ _ p ∙ cond-true _ _ _ q ∙ ap Some v

pub reads_decimal_lem : ReadsDecimal
reads_decimal_lem = (reads, writes)
