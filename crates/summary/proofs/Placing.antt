-- Rows of the memory: where they stand, and what is offered to a row.
use Rattle.std.proofs.Common.{◌≡◌, ℕ, ◌+◌, ◌-◌, ◌*◌, ◌<◌, ◌≤◌, cond, List, ◌++◌, length, get_or, take, drop, None, Option, sym, refl, ap, ◌∙◌, subst, subst₂, inl, inr, mul-le-mul_right, add-mul, arith, le-ltb, lt-ltb}
use mathlib.Core.Path.{fun_ext}
use native.Mathlib.Decide.{ℕ_discrete, dec_lt}
use borrow.Rule.Slice.PartMut.{put_mid}
use Rattle.std.proofs.lemmas.List.{get_or-take, get_or-drop, get_or_past, get_or_read, length-take, length-drop, length-append}
use Rattle.std.proofs.lemmas.Slice.{take-put_mid_below, drop-put_mid, between-put_mid}
use Rattle.derivation.specs.declared.rules.BinaryRule.{BinaryRule}
use Rattle.derivation.specs.Scale.{Scale, Lawful}
use Rattle.settle.specs.Column.{Column, Grown}
use Rattle.settle.specs.Offers.{cell}
use Rattle.settle.specs.Rows.{RowLaws}
use Rattle.settle.proofs.Growing.{grown_then}
use Rattle.settle.proofs.Rows.{grown_since}
use Rattle.summary.specs.declared.step.Side.TheVariants.{Left, Right}
use Rattle.summary.specs.declared.step.Sought.{Sought}
use Rattle.summary.specs.declared.step.Sought.TheVariants.{Whole, Gap}
use Rattle.summary.specs.Memory.{view}
use Rattle.summary.specs.Filling.{step, Beside, Joins, Pile}

-- a row that comes before another ends before it begins
pub row_before : (size i j : ℕ) → i < j → i * size + size ≤ j * size
row_before size i j h =
    let up : (i + 1) * size ≤ j * size = mul-le-mul_right size (omega arith) in
    omega (arith, up, add-mul i 1 size)

-- a place of a row, as the memory has it
module _ {Cost : Type 0} (size : ℕ) (cells : List (Option Cost)) (base A : ℕ) where
  pub view_at : A < size → view size cells base A ≡ cell cells (base + A)
  view_at h = ap (λ b. cond b (cell cells (base + A)) None) (lt-ltb A size h)

  pub view_past : size ≤ A → view size cells base A ≡ None
  view_past h = ap (λ b. cond b (cell cells (base + A)) None) (le-ltb A size h)

  view_row : cell (take size (drop base cells)) A ≡ view size cells base A
  view_row = elim (dec_lt A size) [
    | yes h ↦ get_or-take size (drop base cells) A None h ∙ get_or-drop base cells A None ∙ sym (view_at h)
    | no h ↦ get_or_past (take size (drop base cells)) A None (omega (arith, length-take size (drop base cells))) ∙ sym (view_past (omega arith))
  ]

-- the row, cut out
pub row_is : {Cost : Type 0} (size : ℕ) (cells : List (Option Cost)) (base : ℕ) → cell (take size (drop base cells)) ≡ view size cells base
row_is size cells base = fun_ext (λ A. view_row size cells base A)

-- two memories with the same places in a row
pub view_same : {Cost : Type 0} (size : ℕ) (cells other : List (Option Cost)) (base A : ℕ) → ((k : ℕ) → base ≤ k → k < base + size → cell cells k ≡ cell other k) → view size cells base A ≡ view size other base A
view_same size cells other base A same = elim (dec_lt A size) [
  | yes h ↦ view_at size cells base A h ∙ same (base + A) (omega arith) (omega arith) ∙ sym (view_at size other base A h)
  | no h ↦ view_past size cells base A (omega arith) ∙ sym (view_past size other base A (omega arith))
]

pub step_small : (sought : Sought) (r : BinaryRule) (n : ℕ) → (r.category < n) × (r.left < n) × (r.right < n) → ((step sought r).into < n) × ((step sought r).first < n) × ((step sought r).second < n)
step_small Whole r n h = h
step_small (Gap Left) r n h = (h.1, h.0, h.2)
step_small (Gap Right) r n h = (h.2, h.0, h.1)

-- what is offered at one m more
pub grown_pile : {Cost : Type 0} {s : Scale Cost} (lawful : Lawful s) {ok : ℕ → Cost → Type 0} {j : ℕ} {P : ℕ → ℕ → Cost → Type 0} {before now after : Column Cost} → 1 ≤ j → Grown s ok (Pile j P) before now → Grown s ok (P j) now after → Grown s ok (Pile (j + 1) P) before after
grown_pile lawful {j = j} {P = P} some one two = grown_then lawful one two
    (λ A x p. record { m = p.m; some = p.some; under = omega (arith, p.under); offered = p.offered })
    (λ A x q. record { m = j; some = some; under = omega arith; offered = q })
    (λ A x p. elim (ℕ_discrete p.m j) [
      | yes e ↦ inr (subst (λ i. P i A x) e p.offered)
      | no ne ↦ inl (record { m = p.m; some = p.some; under = omega (arith, p.under); offered = p.offered })
    ])

-- what is read at a place stands there
pub cell_read : {Cost : Type 0} (row : List (Option Cost)) (at : ℕ) (r : Option Cost) → at < length row → r ≡ get_or row at r → cell row at ≡ r
cell_read row at r inside is = sym (get_or_read row at r inside is None)

-- what two rows offer to a row, by what the two are
module _ {Cost Row : Type 0} {s : Scale Cost} (lawful : Lawful s) {size : Row → ℕ} {enters : Row → ℕ → Cost → Type 0} {beside : Row → Row → Type 0} (laws : RowLaws size enters beside) {start row : Row} (kept : beside start row) where
  pub combined : {sought : Sought} {rules : List BinaryRule} {one two one' two' now after : Column Cost} → one ≡ one' → two ≡ two' → Grown s (enters row) (Joins s sought rules one two) now after → Grown s (enters start) (Joins s sought rules one' two') now after
  combined {sought} {rules} {now = now} {after = after} one two grown = subst₂ (λ (a b : Column Cost). Grown s (enters start) (Joins s sought rules a b) now after) one two (grown_since lawful laws kept grown)

-- the places before a cut
pub front_same : {Cost : Type 0} (base : ℕ) (cells front : List (Option Cost)) → front ≡ take base cells → (k : ℕ) → k < base → cell front k ≡ cell cells k
front_same base cells front one k h = ap (λ xs. get_or xs k None) one ∙ get_or-take base cells k None h

-- a memory cut in two at a base, with the row there made anew
module _ {Cost : Type 0} (size base : ℕ) (cells front back row : List (Option Cost)) (one : front ≡ take base cells) (two : back ≡ drop base cells) (room : base + size ≤ length cells) (long : length row ≡ size) where
  put_is : put_mid base size cells row ≡ front ++ (row ++ drop size back)
  put_is = rw (one, two) refl

  pub put_beside : Beside size base cells (front ++ (row ++ drop size back))
  put_beside = subst (λ after. Beside size base cells after) put_is (
      let after = put_mid base size cells row in
      record {
        ahead = λ k h. sym (get_or-take base after k None h) ∙ ap (λ xs. get_or xs k None) (take-put_mid_below base size cells row base (omega arith) (omega arith)) ∙ get_or-take base cells k None h;
        past = λ k h.
            let whole : base + size + (k - (base + size)) ≡ k = omega arith in
            subst (λ (i : ℕ). cell after i ≡ cell cells i) whole
            (sym (get_or-drop (base + size) after (k - (base + size)) None) ∙ ap (λ xs. get_or xs (k - (base + size)) None) (drop-put_mid base size cells row (base + size) (omega arith) (omega arith) long) ∙ get_or-drop (base + size) cells (k - (base + size)) None);
      })

  pub put_view : cell row ≡ view size (front ++ (row ++ drop size back)) base
  put_view = subst (λ after. cell row ≡ view size after base) put_is (
      let wide : base + size - base ≡ size = omega arith in
      let cut : take size (drop base (put_mid base size cells row)) ≡ row = subst (λ (n : ℕ). take n (drop base (put_mid base size cells row)) ≡ row) wide (between-put_mid base size cells row (base + size) (omega arith) (omega arith)) in
      ap cell (sym cut) ∙ row_is size (put_mid base size cells row) base)

  pub put_long : length (front ++ (row ++ drop size back)) ≡ length cells
  put_long = omega (arith, ap length one, ap length two, length-take base cells, length-drop base cells, length-append front (row ++ drop size back), length-append row (drop size back), length-drop size back)
