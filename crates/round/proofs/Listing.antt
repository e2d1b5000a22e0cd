-- The constituents of a chart in one list: each stands there once, so its length, which is the count, is the kept number.
use Rattle.std.proofs.Common.{◌≡◌, ℕ, zero, suc, ◌+◌, ◌-◌, ◌<◌, ◌≤◌, Bool, true, false, cond, List, [], ◌∷◌, ◌++◌, length, Option, sym, refl, ◌∙◌, subst, ap₂, inl, inr, arith, length-append}
use Rattle.std.proofs.lemmas.Bool.{and_from, and_parts, cases_eq, eq-eqb, eqb-true}
use Rattle.derivation.specs.Grammar.{Grammar}
use Rattle.derivation.specs.Scale.{Scale}
use Rattle.derivation.specs.Bounds.{Entries}
use Rattle.derivation.specs.Kept.{Constituent, equal, occurs, KeptNumber}
use Rattle.chart.specs.Meaning.{Holds, Seen, Inside}
use Rattle.round.specs.Counting.{tally, ending, number}
use Rattle.round.specs.Round.{Round}

-- f 0 to f (n - 1), one list after another
abbrev flat : (ℕ → List Constituent) → ℕ → List Constituent
flat f zero = []
flat f (suc n) = flat f n ++ f n

occurs_more : (c : Constituent) (xs ys : List Constituent) → occurs c (xs ++ ys) ≡ occurs c xs + occurs c ys
occurs_more c [] ys = omega arith
occurs_more c (x ∷ xs) ys = omega (arith, occurs_more c xs ys)

-- what stands in all stands in one of them
flat_some : (f : ℕ → List Constituent) (c : Constituent) (n : ℕ) → 0 < occurs c (flat f n) → (i : ℕ) × (i < n) × (0 < occurs c (f i))
flat_some f c zero some = absurd (omega arith)
flat_some f c (suc n) some =
    let more = occurs_more c (flat f n) (f n) in
    elim (cases_eq (occurs c (f n)) 0) [
      | inl none ↦ let (i, less, here) = flat_some f c n (omega arith) in (i, omega arith, here)
      | inr any ↦ (n, omega arith, omega (arith, any))
    ]

not_some : (m : ℕ) → (0 < m → ⊥) → m ≡ 0
not_some m none = omega (arith, none)

-- what stands in no other than f j stands in all as often as there
flat_once : (f : ℕ → List Constituent) (c : Constituent) (n j : ℕ) → j < n → ((i : ℕ) → i < n → 0 < occurs c (f i) → i ≡ j) → occurs c (flat f n) ≡ occurs c (f j)
flat_once f c zero j less only = absurd (omega arith)
flat_once f c (suc n) j less only =
    let more = occurs_more c (flat f n) (f n) in
    elim (cases_eq j n) [
      | inl last ↦
          let before : occurs c (flat f n) ≡ 0 = not_some (occurs c (flat f n)) (λ some. let (i, low, here) = flat_some f c n some in let same = only i (omega arith) here in omega arith) in
          subst (λ (k : ℕ). occurs c (flat f n ++ f n) ≡ occurs c (f k)) (sym last) (omega arith)
      | inr apart ↦
          let low : j < n = omega (arith, apart) in
          let before = flat_once f c n j low (λ i less here. only i (omega arith) here) in
          let none : occurs c (f n) ≡ 0 = not_some (occurs c (f n)) (λ here. apart (sym (only n (omega arith) here))) in
          omega arith
    ]

-- a list of one, if t
abbrev one : Bool → Constituent → List Constituent
one t c = cond t (c ∷ []) []

one_length : (t : Bool) (c : Constituent) → length (one t c) ≡ cond t 1 0
one_length true c = refl
one_length false c = refl

positive : (t : Bool) → 0 < cond t 1 0 → t ≡ true
positive true some = refl
positive false some = absurd (omega arith)

one_tells : (t : Bool) (c x : Constituent) → 0 < occurs c (one t x) → (t ≡ true) × (equal c x ≡ true)
one_tells true c x some = (refl, positive (equal c x) (omega arith))
one_tells false c x some = absurd (omega arith)

one_once : (t : Bool) (c x : Constituent) → t ≡ true → equal c x ≡ true → occurs c (one t x) ≡ 1
one_once t c x held same =
    subst (λ (u : Bool). occurs c (one u x) ≡ 1) (sym held) (subst (λ (u : Bool). ◌≡◌ {A = ℕ} (cond u 1 0 + 0) 1) (sym same) refl)

abbrev over : ℕ → ℕ → ℕ → Constituent
over A b e = record { category = A; begin = b; end = e }

same_tells : (A x y j b e : ℕ) → equal (over A x y) (over j b e) ≡ true → (A ≡ j) × (x ≡ b) × (y ≡ e)
same_tells A x y j b e same =
    let p = and_parts _ _ same in
    let q = and_parts _ _ p.1 in
    (eqb-true A j p.0, eqb-true x b q.0, eqb-true y e q.1)

same_over : (A b e : ℕ) → equal (over A b e) (over A b e) ≡ true
same_over A b e = and_from _ _ (eq-eqb A A refl) (and_from _ _ (eq-eqb b b refl) (eq-eqb e e refl))

module _ (h : Holds) where
  -- the first j categories that are held over b to e
  abbrev cell_list : ℕ → ℕ → ℕ → List Constituent
  cell_list b e j = flat (λ A. one (h b e A) (over A b e)) j

  cell_length : (b e j : ℕ) → length (cell_list b e j) ≡ tally h b e j
  cell_length b e zero = refl
  cell_length b e (suc j) = length-append (cell_list b e j) (one (h b e j) (over j b e)) ∙ ap₂ (λ (m n : ℕ). m + n) (cell_length b e j) (one_length (h b e j) (over j b e))

  cell_tells : (b e j A x y : ℕ) → 0 < occurs (over A x y) (cell_list b e j) → (x ≡ b) × (y ≡ e) × (h x y A ≡ true)
  cell_tells b e j A x y some =
      let (i, less, here) = flat_some (λ A. one (h b e A) (over A b e)) (over A x y) j some in
      let (held, same) = one_tells (h b e i) (over A x y) (over i b e) here in
      let (p, q, r) = same_tells A x y i b e same in
      (q, r, cc)

  cell_once : (b e j A : ℕ) → A < j → h b e A ≡ true → occurs (over A b e) (cell_list b e j) ≡ 1
  cell_once b e j A less held =
      flat_once (λ A. one (h b e A) (over A b e)) (over A b e) j A less
      (λ i _ here. sym (same_tells A b e i b e (one_tells (h b e i) (over A b e) (over i b e) here).1).0)
      ∙ one_once (h b e A) (over A b e) (over A b e) held (same_over A b e)

  module _ (kinds : ℕ) where
    -- what is held over the k shortest stretches that end at e
    abbrev ending_list : ℕ → ℕ → List Constituent
    ending_list e k = flat (λ back. cell_list (e - back) e kinds) k

    ending_length : (e k : ℕ) → length (ending_list e k) ≡ ending h kinds e k
    ending_length e zero = refl
    ending_length e (suc k) = length-append (ending_list e k) (cell_list (e - k) e kinds) ∙ ap₂ (λ (m n : ℕ). m + n) (ending_length e k) (cell_length (e - k) e kinds)

    ending_tells : (e k A x y : ℕ) → 0 < occurs (over A x y) (ending_list e k) → (y ≡ e) × (h x y A ≡ true)
    ending_tells e k A x y some =
        let (back, less, here) = flat_some (λ back. cell_list (e - back) e kinds) (over A x y) k some in
        let (first, last, held) = cell_tells (e - back) e kinds A x y here in
        (last, held)

    ending_once : (e A x : ℕ) → A < kinds → 1 ≤ x → x ≤ e → h x e A ≡ true → occurs (over A x e) (ending_list e e) ≡ 1
    ending_once e A x kind low high held =
        let at : x ≡ e - (e - x) = omega arith in
        flat_once (λ back. cell_list (e - back) e kinds) (over A x e) e (e - x) (omega arith)
        (λ back less here. let first = (cell_tells (e - back) e kinds A x e here).0 in omega arith)
        ∙ subst (λ (b : ℕ). occurs (over A x e) (cell_list b e kinds) ≡ 1) at (cell_once x e kinds A kind held)

    -- what is held over the first n words
    abbrev chart_list : ℕ → List Constituent
    chart_list n = flat (λ e. ending_list (suc e) (suc e)) n

    chart_length : (n : ℕ) → length (chart_list n) ≡ number h kinds n
    chart_length zero = refl
    chart_length (suc n) = length-append (chart_list n) (ending_list (suc n) (suc n)) ∙ ap₂ (λ (m n : ℕ). m + n) (chart_length n) (ending_length (suc n) (suc n))

    chart_tells : (n A x y : ℕ) → 0 < occurs (over A x y) (chart_list n) → h x y A ≡ true
    chart_tells n A x y some =
        let (e, less, here) = flat_some (λ e. ending_list (suc e) (suc e)) (over A x y) n some in
        (ending_tells (suc e) (suc e) A x y here).1

    chart_once : (n A x y : ℕ) → Inside n kinds x y A → h x y A ≡ true → occurs (over A x y) (chart_list n) ≡ 1
    chart_once n A x y inside held =
        let at : y ≡ suc (y - 1) = omega arith in
        flat_once (λ e. ending_list (suc e) (suc e)) (over A x y) n (y - 1) (omega arith)
        (λ e less here. let last = (ending_tells (suc e) (suc e) A x y here).0 in omega arith)
        ∙ subst (λ (e : ℕ). occurs (over A x y) (ending_list e e) ≡ 1) at (ending_once y A x inside.kind inside.first inside.order held)

-- the number of what the chart of a round holds is the kept number
pub kept_number : {Cost : Type 0} {s : Scale Cost} {g : Grammar} {entry : Entries Cost} {ceiling : Option Cost} {ws : List ℕ} {before after : List Cost} {chart : Seen} → Round s g entry ceiling ws before chart after → ((b e A : ℕ) → chart.holds b e A ≡ true → Inside (length ws) g.categories b e A) → KeptNumber s g entry ceiling ws (number chart.holds g.categories (length ws))
kept_number {g = g} {ws = ws} {chart = chart} round bounded = record {
  all = chart_list chart.holds g.categories (length ws);
  count = sym (chart_length chart.holds g.categories (length ws));
  each = λ A b e d passes. let held = round.passing A b e d passes in chart_once chart.holds g.categories (length ws) A b e (bounded b e A held) held;
  only = λ A b e some. let kept = round.kept A b e (chart_tells chart.holds g.categories (length ws) A b e some) in (kept.tree, kept.passes);
}
