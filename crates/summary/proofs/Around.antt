-- The row of a pair is exact, from the rows of the lengths and of the pairs before it.
use Rattle.std.proofs.Common.{◌≡◌, ℕ, ◌+◌, ◌-◌, ◌*◌, ◌<◌, ◌≤◌, cond, ltb, List, Some, None, Option, sym, refl, ap, ◌∙◌, subst, ap₂, subst₂, inl, inr, ⊎_elim, arith, lt-ltb}
use native.Mathlib.Decide.{ℕ_discrete}
use Rattle.derivation.specs.Grammar.{Grammar}
use Rattle.derivation.specs.Scale.{Scale, Lawful, Within}
use Rattle.derivation.specs.Derivation.{Derivation, cost}
use Rattle.derivation.specs.Surrounding.{Surrounding, rest}
use Rattle.derivation.specs.Bounds.{Filled}
use Rattle.derivation.proofs.Pruning.{spans, mono}
use Rattle.settle.specs.declared.direction.Direction.TheVariants.{Down}
use Rattle.settle.specs.Column.{Column, AllOpen, Grown}
use Rattle.settle.specs.Offers.{cell, Only, joined}
use Rattle.settle.specs.Chains.{Settled}
use Rattle.derivation.proofs.Reading.{none_some}
use Rattle.settle.proofs.Growing.{found, parts, lower_than, sinks}
use Rattle.summary.specs.declared.step.Side.TheVariants.{Left, Right}
use Rattle.summary.specs.declared.step.Sought.TheVariants.{Gap}
use Rattle.summary.specs.Memory.{place, view, inner, outer}
use Rattle.summary.specs.Least.{Over, LeastOutside}
use Rattle.summary.specs.Filling.{Joins, Pile, Earlier, Insides, Outsides, across, shorter}
use Rattle.summary.proofs.Placing.{row_before, view_same}
use Rattle.summary.proofs.Order.{place_before, earlier_sum}
use Rattle.summary.proofs.Least.{mono₂, least_of, least_reached, least_low}
use Rattle.summary.proofs.Longer.{chained_all}

module _ {Cost : Type 0} (size span : ℕ) (cells : List (Option Cost)) (A l r : ℕ) where
  pub outer_at : l + r < span → outer size span cells A l r ≡ view size cells (place span l r * size) A
  outer_at h = ap (λ b. cond b (view size cells (place span l r * size) A) None) (lt-ltb (l + r) span h)

-- pairs stay exact where their rows are the same
pub outsides_same : {Cost : Type 0} (s : Scale Cost) (g : Grammar) (size span l r : ℕ) (before after : List (Option Cost)) → ((k : ℕ) → k < place span l r * size → cell after k ≡ cell before k) → Outsides s g size span (l + r) l before → Outsides s g size span (l + r) l after
outsides_same s g size span l r before after same outs A a b early =
    let low = row_before size (place span a b) (place span l r) (place_before span (l + r) l r a b refl early) in
    subst (λ o. LeastOutside s g A a b o) (ap (λ o. cond (ltb (a + b) span) o None) (sym (view_same size after before (place span a b * size) A (λ k from to. same k (omega arith))))) (outs A a b early)

-- and one row more
pub outsides_more : {Cost : Type 0} (s : Scale Cost) (g : Grammar) (size span l r : ℕ) (after : List (Option Cost)) → l + r < span → ((A : ℕ) → LeastOutside s g A l r (view size after (place span l r * size) A)) → Outsides s g size span (l + r) l after → Outsides s g size span (l + r) (l + 1) after
outsides_more s g size span l r after short here outs A a b (inl h) = outs A a b (inl h)
outsides_more s g size span l r after short here outs A a b (inr h) = elim (ℕ_discrete a l) [
  | yes e ↦
      let b-is : r ≡ b = omega (arith, h.0) in
      subst₂ (λ (i j : ℕ). LeastOutside s g A i j (outer size span after A i j)) (sym e) b-is (subst (λ o. LeastOutside s g A l r o) (sym (outer_at size span after A l r short)) (here A))
  | no ne ↦ outs A a b (inr (h.0, omega (arith, h.1)))
]

module _ {Cost : Type 0} {s : Scale Cost} (lawful : Lawful s) (g : Grammar) (size span l r : ℕ) (short : l + r < span) (before : List (Option Cost)) {row₀ row₁ row₂ row₃ row₄ : Column Cost}
    (ins : Insides s g size span before)
    (outs : Outsides s g size span (l + r) l before)
    (blank : (A : ℕ) → row₀ A ≡ None)
    (rooted : Grown s AllOpen (λ A x. (l + r ≡ 0) × Only g.top s.neutral A x) row₀ row₁)
    (lefts : Grown s AllOpen (Pile (across Left l r + 1) (λ m. Joins s (Gap Left) g.binaries (view size before (shorter Left span l r m * size)) (view size before ((m - 1) * size)))) row₁ row₂)
    (rights : Grown s AllOpen (Pile (across Right l r + 1) (λ m. Joins s (Gap Right) g.binaries (view size before (shorter Right span l r m * size)) (view size before ((m - 1) * size)))) row₂ row₃)
    (settled : Settled s AllOpen Down g.chains row₃ row₄) where
  -- what the rows before say
  outer_is : (A a b : ℕ) → Earlier (l + r) l a b → view size before (place span a b * size) A ≡ outer size span before A a b
  outer_is A a b early = sym (outer_at size span before A a b (omega (arith, earlier_sum (l + r) l a b early)))

  beside_reached : (A m : ℕ) (z : Cost) → 1 ≤ m → m ≤ span → inner size before A m ≡ Some z → (d : Over g A m) × (cost s d.made ≡ z)
  beside_reached A m z one h is = least_reached s (λ (d : Over g A m). cost s d.made) (inner size before A m) (ins A m one h) z is

  around_reached : (A a b : ℕ) (y : Cost) → Earlier (l + r) l a b → view size before (place span a b * size) A ≡ Some y → (a' : Surrounding g A a b) × (rest s a' ≡ y)
  around_reached A a b y early is = least_reached s (λ (a' : Surrounding g A a b). rest s a') (outer size span before A a b) (outs A a b early) y (sym (outer_is A a b early) ∙ is)

  beside_low : {vs : List ℕ} {A b e : ℕ} (d : Derivation g vs A b e) (m : ℕ) → m + b ≡ e + 1 → m ≤ span → (z : Cost) × (inner size before A m ≡ Some z) × Within s z (cost s d)
  beside_low {vs} {A} {b} {e} d m long h =
      let here = spans d in
      let over : Over g A m = record { text = vs; first = b; last = e; long = long; made = d } in
      found (inner size before A m) (least_low s (λ (d : Over g A m). cost s d.made) (inner size before A m) (ins A m (omega arith) h) over)

  around_low : {A a b : ℕ} (a' : Surrounding g A a b) → Earlier (l + r) l a b → (y : Cost) × (view size before (place span a b * size) A ≡ Some y) × Within s y (rest s a')
  around_low {A} {a} {b} a' early =
      let (y, is, le) = found (outer size span before A a b) (least_low s (λ (a' : Surrounding g A a b). rest s a') (outer size span before A a b) (outs A a b early) a') in
      (y, outer_is A a b early ∙ is, le)

  made_left : (A : ℕ) (x : Cost) → Pile (across Left l r + 1) (λ m. Joins s (Gap Left) g.binaries (view size before (shorter Left span l r m * size)) (view size before ((m - 1) * size))) A x → (a : Surrounding g A l r) × (rest s a ≡ x)
  made_left A x pile =
      let m = pile.m in
      let by = pile.offered in
      let c = by.one in
      let one = pile.some in
      let below : m < r + 1 = pile.under in
      let (y, z, first, second, x-is) = parts s c.weight (view size before (place span l (r - m) * size) c.category) (inner size before c.right m) x by.offered.is in
      let (a, a-is) = around_reached c.category l (r - m) y (inl (omega arith)) first in
      let (d, d-is) = beside_reached c.right m z one (omega arith) second in
      let sum : r - m + (d.last + 1 - d.first) ≡ r = omega (arith, d.long) in
      subst₂ (λ (i B : ℕ). (a : Surrounding g B l i) × (rest s a ≡ x)) sum by.offered.goes (Surrounding.left c by.at a d.made, ap₂ (λ y z. s.join (s.price c.weight) (s.join y z)) a-is d-is ∙ sym x-is)

  made_right : (A : ℕ) (x : Cost) → Pile (across Right l r + 1) (λ m. Joins s (Gap Right) g.binaries (view size before (shorter Right span l r m * size)) (view size before ((m - 1) * size))) A x → (a : Surrounding g A l r) × (rest s a ≡ x)
  made_right A x pile =
      let m = pile.m in
      let by = pile.offered in
      let c = by.one in
      let one = pile.some in
      let below : m < l + 1 = pile.under in
      let (y, z, first, second, x-is) = parts s c.weight (view size before (place span (l - m) r * size) c.category) (inner size before c.left m) x by.offered.is in
      let (a, a-is) = around_reached c.category (l - m) r y (inl (omega arith)) first in
      let (d, d-is) = beside_reached c.left m z one (omega arith) second in
      let sum : l - m + (d.last + 1 - d.first) ≡ l = omega (arith, d.long) in
      subst₂ (λ (i B : ℕ). (a : Surrounding g B i r) × (rest s a ≡ x)) sum by.offered.goes (Surrounding.right c by.at a d.made, ap₂ (λ y z. s.join (s.price c.weight) (s.join y z)) a-is d-is ∙ sym x-is)

  root : (A : ℕ) (x : Cost) → (l + r ≡ 0) × Only g.top s.neutral A x → (a : Surrounding g A l r) × (rest s a ≡ x)
  root A x (none, only) =
      let l-is : 0 ≡ l = omega arith in
      let r-is : 0 ≡ r = omega arith in
      subst (λ B. (a : Surrounding g B l r) × (rest s a ≡ x)) only.0 (subst₂ (λ (i j : ℕ). (a : Surrounding g g.top i j) × (rest s a ≡ x)) l-is r-is (Surrounding.whole, sym only.1))

  sound : (A : ℕ) (x : Cost) → row₃ A ≡ Some x → (a : Surrounding g A l r) × (rest s a ≡ x)
  sound A x is = ⊎_elim
      (λ was. ⊎_elim
      (λ old. ⊎_elim (λ none. absurd (none_some (blank A) none)) (λ new. root A x new.0) (rooted.origin A x old))
      (λ new. made_left A x new.0)
      (lefts.origin A x was))
      (λ new. made_right A x new.0)
      (rights.origin A x is)

  reached : (A : ℕ) (x : Cost) → row₄ A ≡ Some x → (a : Surrounding g A l r) × (rest s a ≡ x)
  reached A x is = chained_all (λ B y. (a : Surrounding g B l r) × (rest s a ≡ y)) sound (λ k c y at (a, a-is). (Surrounding.chain c at a, ap (s.join (s.price c.weight)) a-is)) (settled.origin A x is)

  closed : (A : ℕ) (v : Cost) → Filled (row₃ A) (λ x. Within s x v) → Filled (row₄ A) (λ x. Within s x v)
  closed A v h =
      let (x, is, le) = found (row₃ A) h in
      lower_than lawful (row₄ A) x v le (settled.lower A x is)

  low : {A a b : ℕ} (around : Surrounding g A a b) → a ≡ l → b ≡ r → Filled (row₄ A) (λ x. Within s x (rest s around))
  low Surrounding.whole l-is r-is =
      closed g.top _ (sinks lawful rights g.top _ (sinks lawful lefts g.top _ (rooted.made g.top s.neutral (omega arith, (refl, refl)) tt)))
  low {A} (Surrounding.chain {k = k} c at around) l-is r-is =
      let (y, is, le) = found (row₄ c.category) (low around l-is r-is) in
      lower_than lawful (row₄ A) _ _ (mono lawful (s.price c.weight) y (rest s around) le) (settled.closed.by k c y at is tt)
  low {A} (Surrounding.left {k = k} {l = a} {r = o} {b = b} {e = e} c at around beside) l-is r-is =
      let here = spans beside in
      let m = e + 1 - b in
      let o_is : o ≡ r - m = omega arith in
      let (y, first, le) = around_low around (inl (omega arith)) in
      let (z, second, le') = beside_low beside m (omega arith) (omega arith) in
      let le'' = mono lawful (s.price c.weight) (s.join y z) (s.join (rest s around) (cost s beside)) (mono₂ lawful y (rest s around) z (cost s beside) le le') in
      let pile : Pile (across Left l r + 1) (λ m. Joins s (Gap Left) g.binaries (view size before (shorter Left span l r m * size)) (view size before ((m - 1) * size))) c.left (s.join (s.price c.weight) (s.join y z)) = record {
        m = m;
        some = omega arith;
        under = omega arith;
        offered = record {
          place = k;
          one = c;
          under = at.inside;
          at = at;
          offered = record { goes = refl; is = ap₂ (joined s c.weight) (subst₂ (λ (i j : ℕ). view size before (place span i j * size) c.category ≡ Some y) l-is o_is first) second };
        };
      } in
      closed c.left _ (sinks lawful rights c.left _ (lower_than lawful (row₂ c.left) _ _ le'' (lefts.made c.left _ pile tt)))
  low {A} (Surrounding.right {k = k} {l = o} {r = a} {b = b} {e = e} c at around beside) l-is r-is =
      let here = spans beside in
      let m = e + 1 - b in
      let o_is : o ≡ l - m = omega arith in
      let (y, first, le) = around_low around (inl (omega arith)) in
      let (z, second, le') = beside_low beside m (omega arith) (omega arith) in
      let le'' = mono lawful (s.price c.weight) (s.join y z) (s.join (rest s around) (cost s beside)) (mono₂ lawful y (rest s around) z (cost s beside) le le') in
      let pile : Pile (across Right l r + 1) (λ m. Joins s (Gap Right) g.binaries (view size before (shorter Right span l r m * size)) (view size before ((m - 1) * size))) c.right (s.join (s.price c.weight) (s.join y z)) = record {
        m = m;
        some = omega arith;
        under = omega arith;
        offered = record {
          place = k;
          one = c;
          under = at.inside;
          at = at;
          offered = record { goes = refl; is = ap₂ (joined s c.weight) (subst₂ (λ (i j : ℕ). view size before (place span i j * size) c.category ≡ Some y) o_is r-is first) second };
        };
      } in
      closed c.right _ (lower_than lawful (row₃ c.right) _ _ le'' (rights.made c.right _ pile tt))

  pub around_exact : (A : ℕ) → LeastOutside s g A l r (row₄ A)
  around_exact A = least_of s (λ (a : Surrounding g A l r). rest s a) (row₄ A) (reached A) (λ a. low a refl refl)
