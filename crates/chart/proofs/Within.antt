-- The tests `inside` and `same` and the facts that they tell; what a chart holds of what is marked.
use Rattle.std.proofs.Common.{◌≡◌, ℕ, true, false, ◌&&◌, ◌||◌, eqb, ltb, leb, sym, ap, ◌∙◌, inl, inr}
use Rattle.std.proofs.Math.Bool.{or-false, or-true}
use Rattle.std.proofs.lemmas.Bool.{and_parts, and_from, le-leb, lt-ltb, eqb-true, eq-eqb, both_ways, cases_Bool}
pub use Rattle.chart.specs.Facts.{inside_tells, limited_bounded}
use Rattle.chart.specs.Meaning.{Inside, inside, same, limited, Adds, Empty, Holds}

pub inside_from : (n g b e a : ℕ) → Inside n g b e a → inside n g b e a ≡ true
inside_from n g b e a i =
    and_from (leb 1 b && leb b e) (leb e n && ltb a g)
    (and_from (leb 1 b) (leb b e) (le-leb 1 b i.first) (le-leb b e i.order))
    (and_from (leb e n) (ltb a g) (le-leb e n i.last) (lt-ltb a g i.kind))

pub outside_from : (n g b e a : ℕ) → (Inside n g b e a → ⊥) → inside n g b e a ≡ false
outside_from n g b e a out =
    elim (cases_Bool (inside n g b e a)) [ inl t ↦ absurd (out (inside_tells n g b e a t)) | inr f ↦ f ]

pub outside_tells : (n g b e a : ℕ) → inside n g b e a ≡ false → Inside n g b e a → ⊥
outside_tells n g b e a f i = both_ways (inside n g b e a) f (inside_from n g b e a i)

pub same_tells : (b e a x y z : ℕ) → same b e a x y z ≡ true → (x ≡ b) × (y ≡ e) × (z ≡ a)
same_tells b e a x y z h =
    let p = and_parts (eqb x b) (eqb y e && eqb z a) h in
    let q = and_parts (eqb y e) (eqb z a) p.1 in
    (eqb-true x b p.0, eqb-true y e q.0, eqb-true z a q.1)

pub same_from : (b e a x y z : ℕ) → x ≡ b → y ≡ e → z ≡ a → same b e a x y z ≡ true
same_from b e a x y z p q r =
    and_from (eqb x b) (eqb y e && eqb z a) (eq-eqb x b p) (and_from (eqb y e) (eqb z a) (eq-eqb y e q) (eq-eqb z a r))

-- inside, what is held is what is marked; outside, nothing is held
pub limited_inside : (n g : ℕ) (marked : Holds) (b e a : ℕ) → Inside n g b e a → limited n g marked b e a ≡ marked b e a
unfolding limited
limited_inside n g marked b e a i = ap (λ t. t && marked b e a) (inside_from n g b e a i)

pub limited_outside : (n g : ℕ) (marked : Holds) (b e a : ℕ) → inside n g b e a ≡ false → limited n g marked b e a ≡ false
unfolding limited
limited_outside n g marked b e a f = ap (λ t. t && marked b e a) f

-- nothing is held where nothing inside is marked
pub limited_empty : (n g : ℕ) (marked : Holds) → ((b e a : ℕ) → Inside n g b e a → marked b e a ≡ false) → Empty (limited n g marked)
limited_empty n g marked none x y z =
    elim (cases_Bool (inside n g x y z)) [
      | inl t ↦ let i = inside_tells n g x y z t in limited_inside n g marked x y z i ∙ none x y z i
      | inr f ↦ limited_outside n g marked x y z f
    ]

-- one constituent is added where it is marked now and the marks of the others inside are as they were
module _ (n g : ℕ) (old new : Holds) (b e a : ℕ) (here : Inside n g b e a → new b e a ≡ true)
    (others : (x y z : ℕ) → Inside n g x y z → same b e a x y z ≡ false → new x y z ≡ old x y z) where
  pub limited_adds : Inside n g b e a → Adds (limited n g old) (limited n g new) true b e a
  limited_adds i x y z =
      elim (cases_Bool (same b e a x y z)) [
        | inl s ↦
            let q = same_tells b e a x y z s in
            let held : limited n g new x y z ≡ true = simp (q.0, q.1, q.2) (limited_inside n g new b e a i ∙ here i) in
            held ∙ sym (or-true (limited n g old x y z)) ∙ ap (λ t. limited n g old x y z || t) (sym s)
        | inr s ↦
            let kept : limited n g new x y z ≡ limited n g old x y z = elim (cases_Bool (inside n g x y z)) [
              | inl t ↦ let j = inside_tells n g x y z t in limited_inside n g new x y z j ∙ others x y z j s ∙ sym (limited_inside n g old x y z j)
              | inr f ↦ limited_outside n g new x y z f ∙ sym (limited_outside n g old x y z f)
            ] in
            kept ∙ sym (or-false (limited n g old x y z)) ∙ ap (λ t. limited n g old x y z || t) (sym s)
      ]
