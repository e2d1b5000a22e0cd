-- What a row of vectors marks: after one constituent is marked twice, after all are cleared, and at the lowest split.
use Rattle.std.proofs.Common.{◌≡◌, ℕ, ◌+◌, ◌*◌, ◌%◌, ◌^◌, ◌<◌, ◌≤◌, Bool, true, false, ◌&&◌, ◌||◌, eqb, List, length, get_or, set, sym, refl, ap, ◌∙◌, ap₂, inl, inr, arith, length-set, get_or-set_other, get_or-set_same}
use Rattle.std.proofs.Math.Bool.{or-false, and_assoc, and_comm}
use lib.Bits.{bit_or}
use lib.Count.{count_trailing_zeros}
use Rattle.std.proofs.lemmas.Nat.{one_shl}
use Rattle.std.proofs.lemmas.Bool.{cases_eq, eq-eqb, ne_eqb, and_parts, and_from, or_right, both_ways}
use Rattle.std.proofs.lemmas.Bool.Decides.{nat_tests}
use Rattle.chart.specs.Limits.{most_categories}
use Rattle.chart.specs.Meaning.{Inside, same, Adds, Empty, Splits}
use Rattle.chart.proofs.Within.{same_from, limited_bounded, limited_empty, limited_adds}
use Rattle.vectors.specs.Bit.{bit}
use Rattle.vectors.specs.Vectors.{vectors_for, vector, by_start, by_end, held, Spot, Starts, Ends}
use Rattle.vectors.proofs.Digits.{bit-none, bit-or, bit-power, common, bit-common, trailing_low, trailing_at}

-- two vectors are the same only where row and category are
apart : (r a s z : ℕ) → 1 ≤ r → 1 ≤ s → a < most_categories → z < most_categories → eqb (vector s z) (vector r a) ≡ (eqb s r && eqb z a)
apart r a s z p q k l = grind (arith, nat_tests)

-- `vectors[i] |= 1 << e`, in vectors of w bits
abbrev pub mark : ℕ → List ℕ → ℕ → ℕ → List ℕ
mark w vectors i e = set vectors i (bit_or (get_or vectors i 0) ((1 * 2 ^ e) % 2 ^ w))

-- sets that bit and no other
mark_at : (w : ℕ) (vectors : List ℕ) (i e j y : ℕ) → e < w → i < length vectors
    → bit y (get_or (mark w vectors i e) j 0) ≡ (bit y (get_or vectors j 0) || (eqb j i && eqb y e))
mark_at w vectors i e j y wide h =
    let x = get_or vectors i 0 in
    let new = bit_or x ((1 * 2 ^ e) % 2 ^ w) in
    elim (cases_eq j i) [
      | inl p ↦
          ap (λ k. bit y (get_or (mark w vectors i e) k 0)) p ∙ ap (bit y) (get_or-set_same vectors i new 0 h)
          ∙ bit-or y x ((1 * 2 ^ e) % 2 ^ w) ∙ ap (λ t. bit y x || bit y t) (one_shl e w wide) ∙ ap (λ t. bit y x || t) (bit-power e y)
          ∙ ap₂ (λ k t. bit y (get_or vectors k 0) || (t && eqb y e)) (sym p) (sym (eq-eqb j i p))
      | inr n ↦
          ap (bit y) (get_or-set_other vectors i j new 0 n)
          ∙ sym (or-false (bit y (get_or vectors j 0))) ∙ ap (λ t. bit y (get_or vectors j 0) || (t && eqb y e)) (sym (ne_eqb j i n))
    ]

regroup : (p q r : Bool) → ((p && q) && r) ≡ (p && (r && q))
regroup p q r = and_assoc p q r ∙ ap (λ t. p && t) (and_comm q r)

-- (b, e, a) marked twice in vectors of w bits, in the vector j by its start and in k by its end
module _ (w : ℕ) (vectors : List ℕ) (n g b e a j k : ℕ) (wide : n < w) (small : g ≤ most_categories) (fits : vectors_for n ≤ length vectors)
    (i : Inside n g b e a) (j-is : j ≡ vector b a) (k-is : k ≡ vector (n + e) a) where
  abbrev pub marks : List ℕ
  marks = mark w (mark w vectors j e) k b

  start_fits : j < length vectors
  start_fits = omega (arith, i.first, i.order, i.last, i.kind)

  end_fits : k < length (mark w vectors j e)
  end_fits = simp length-set (omega (arith, i.last, i.kind))

  e_small : e < w
  e_small = omega (arith, i.last)

  b_small : b < w
  b_small = omega (arith, i.order, i.last)

  starts_at : (s : Spot n g) → by_start marks s.word s.other s.kind ≡ (by_start vectors s.word s.other s.kind || same b e a s.word s.other s.kind)
  starts_at s =
      let v = s.word in
      let y = s.other in
      let z = s.kind in
      let old = by_start vectors v y z in
      let here : eqb (vector v z) j ≡ (eqb v b && eqb z a) = ap (eqb (vector v z)) j-is ∙ apart b a v z i.first s.first (omega (arith, i.kind)) (omega (arith, s.known)) in
      let elsewhere : eqb (vector v z) k ≡ false = ne_eqb (vector v z) k (omega (arith, i.first, i.order, s.last, s.known)) in
      mark_at w (mark w vectors j e) k b (vector v z) y b_small end_fits
      ∙ ap (λ t. by_start (mark w vectors j e) v y z || (t && eqb y b)) elsewhere ∙ or-false (by_start (mark w vectors j e) v y z)
      ∙ mark_at w vectors j e (vector v z) y e_small start_fits ∙ ap (λ t. old || (t && eqb y e)) here
      ∙ ap (λ t. old || t) (regroup (eqb v b) (eqb z a) (eqb y e))

  ends_at : (s : Spot n g) → by_end marks n s.other s.word s.kind ≡ (by_end vectors n s.other s.word s.kind || same b e a s.other s.word s.kind)
  ends_at s =
      let v = s.word in
      let x = s.other in
      let z = s.kind in
      let old = by_end vectors n x v z in
      let shift : eqb (n + v) (n + e) ≡ eqb v e = grind (arith, nat_tests) in
      let here : eqb (vector (n + v) z) k ≡ (eqb v e && eqb z a) =
      ap (eqb (vector (n + v) z)) k-is
      ∙ apart (n + e) a (n + v) z (omega (arith, i.first, i.order)) (omega (arith, s.first)) (omega (arith, i.kind)) (omega (arith, s.known))
      ∙ ap (λ t. t && eqb z a) shift in
      let elsewhere : eqb (vector (n + v) z) j ≡ false = ne_eqb (vector (n + v) z) j (omega (arith, i.order, i.last, i.kind, s.first)) in
      mark_at w (mark w vectors j e) k b (vector (n + v) z) x b_small end_fits
      ∙ ap₂ (λ t u. t || (u && eqb x b))
      (mark_at w vectors j e (vector (n + v) z) x e_small start_fits ∙ ap (λ t. old || (t && eqb x e)) elsewhere ∙ or-false old)
      here
      ∙ ap (λ t. old || t) (and_comm (eqb v e && eqb z a) (eqb x b))

  spot : (x y z : ℕ) → Inside n g x y z → Spot n g
  spot x y z at = record { word = x; other = y; kind = z; first = at.first; last = omega (arith, at.order, at.last); known = at.kind }

  pub marks_adds : Adds (held vectors n g) (held marks n g) true b e a
  unfolding spot
  marks_adds =
      limited_adds n g (by_start vectors) (by_start marks) b e a
      (λ _. (starts_at (spot b e a i) ∙ or_right (by_start vectors b e a) (same b e a b e a) (same_from b e a b e a refl refl refl)))
      (λ x y z at s. starts_at (spot x y z at) ∙ ap (λ t. by_start vectors x y z || t) s ∙ or-false (by_start vectors x y z))
      i

  pub marks_starts : Starts vectors n g → Starts marks n g
  marks_starts old s = starts_at s ∙ ap (λ t. t || same b e a s.word s.other s.kind) (old s) ∙ sym (marks_adds s.word s.other s.kind)

  pub marks_ends : Ends vectors n g → Ends marks n g
  marks_ends old s = ends_at s ∙ ap (λ t. t || same b e a s.other s.word s.kind) (old s) ∙ sym (marks_adds s.other s.word s.kind)

-- in a chart of no words nothing need agree
pub no_starts : (vectors : List ℕ) (n g : ℕ) → n ≡ 0 → Starts vectors n g
no_starts vectors n g z s = absurd (omega (arith, s.first, s.last))

pub no_ends : (vectors : List ℕ) (n g : ℕ) → n ≡ 0 → Ends vectors n g
no_ends vectors n g z s = absurd (omega (arith, s.first, s.last))

-- all vectors cleared
module _ (vectors : List ℕ) (n g : ℕ) (small : g ≤ most_categories) (none : (k : ℕ) → k < vectors_for n → get_or vectors k 0 ≡ 0) where
  clear : (row y a : ℕ) → 1 ≤ row → row ≤ 2 * n → a < g → bit y (get_or vectors (vector row a) 0) ≡ false
  clear row y a p q k = ap (bit y) (none (vector row a) (omega arith)) ∙ bit-none y

  pub cleared_empty : Empty (held vectors n g)
  cleared_empty = limited_empty n g (by_start vectors) (λ b e a i. clear b e a i.first (omega (arith, i.order, i.last)) i.kind)

  pub cleared_starts : Starts vectors n g
  cleared_starts s = clear s.word s.other s.kind s.first (omega (arith, s.last)) s.known ∙ sym (cleared_empty s.word s.other s.kind)

  pub cleared_ends : Ends vectors n g
  cleared_ends s = clear (n + s.word) s.other s.kind (omega (arith, s.first)) (omega (arith, s.last)) s.known ∙ sym (cleared_empty s.other s.word s.kind)

-- only constituents inside are split
pub split_inside : (vectors : List ℕ) (n g p q b e k : ℕ) → Splits (held vectors n g) p q b e k → Inside n g b e p × (q < g)
split_inside vectors n g p q b e k s =
    let l = limited_bounded n g (by_start vectors) b k p s.2 in
    let r = limited_bounded n g (by_start vectors) (k + 1) e q s.3 in
    (record { first = l.first; order = omega (arith, s.0, s.1); last = r.last; kind = l.kind }, r.kind)

-- the "and" of the vector j of b and p by start and of the vector k of e and q by end has the splits as its bits
module _ (vectors : List ℕ) (n g p q b e j k : ℕ) (starts : Starts vectors n g) (ends : Ends vectors n g)
    (i : Inside n g b e p) (known : q < g) (j-is : j ≡ vector b p) (k-is : k ≡ vector (n + e) q) where
  abbrev shared : ℕ
  shared = common (get_or vectors j 0) (get_or vectors k 0)

  left : (m : ℕ) → bit m (get_or vectors j 0) ≡ held vectors n g b m p
  left m = ap (λ v. bit m (get_or vectors v 0)) j-is ∙ starts (record { word = b; other = m; kind = p; first = i.first; last = omega (arith, i.order, i.last); known = i.kind })

  right : (m : ℕ) → bit (m + 1) (get_or vectors k 0) ≡ held vectors n g (m + 1) e q
  right m = ap (λ v. bit (m + 1) (get_or vectors v 0)) k-is ∙ ends (record { word = e; other = m + 1; kind = q; first = omega (arith, i.first, i.order); last = i.last; known = known })

  shared_at : (m : ℕ) → bit m shared ≡ (held vectors n g b m p && held vectors n g (m + 1) e q)
  shared_at m = bit-common (get_or vectors j 0) (get_or vectors k 0) m ∙ ap₂ ◌&&◌ (left m) (right m)

  bit-split : (m : ℕ) → bit m shared ≡ true → Splits (held vectors n g) p q b e m
  bit-split m h =
      let t = and_parts (held vectors n g b m p) (held vectors n g (m + 1) e q) (sym (shared_at m) ∙ h) in
      let l = limited_bounded n g (by_start vectors) b m p t.0 in
      let r = limited_bounded n g (by_start vectors) (m + 1) e q t.1 in
      (l.order, omega (arith, r.order), t.0, t.1)

  -- its trailing zeros, of w bits, are the lowest of them, or all w bits if there is none
  pub shared_lowest : (w : ℕ) → count_trailing_zeros w shared < w → Splits (held vectors n g) p q b e (count_trailing_zeros w shared)
  shared_lowest w h = bit-split (count_trailing_zeros w shared) (trailing_at w shared h)

  pub shared_before : (w m : ℕ) → m < count_trailing_zeros w shared → Splits (held vectors n g) p q b e m → ⊥
  shared_before w m h s =
      both_ways (bit m shared) (trailing_low w shared m h)
      (shared_at m ∙ and_from (held vectors n g b m p) (held vectors n g (m + 1) e q) s.2 s.3)
