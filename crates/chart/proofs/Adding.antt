-- What a caller of `put` reads off `Adds`.
use Rattle.std.proofs.Common.{◌≡◌, ℕ, Bool, true, ◌&&◌, ◌||◌, ◌⊎◌, sym, refl, ap, ◌∙◌, inl, inr}
use Rattle.std.proofs.Math.Bool.{or-false, and-false}
use Rattle.std.proofs.lemmas.Bool.{or_cases, or_left, or_right, cases_Bool}
use Rattle.chart.specs.Meaning.{Holds, same, Adds}
use Rattle.chart.proofs.Within.{same_tells, same_from}

-- what was held is held still
pub adds_keeps : (h h' : Holds) (r : Bool) (b e a x y z : ℕ) → Adds h h' r b e a → h x y z ≡ true → h' x y z ≡ true
adds_keeps h h' r b e a x y z ad t = ad x y z ∙ or_left (h x y z) (r && same b e a x y z) t

-- the constituent is held
pub adds_new : (h h' : Holds) (b e a : ℕ) → Adds h h' true b e a → h' b e a ≡ true
adds_new h h' b e a ad = ad b e a ∙ or_right (h b e a) (same b e a b e a) (same_from b e a b e a refl refl refl)

-- nothing else is
pub adds_only : (h h' : Holds) (b e a x y z : ℕ) → Adds h h' true b e a → h' x y z ≡ true → (h x y z ≡ true) ⊎ ((x ≡ b) × (y ≡ e) × (z ≡ a))
adds_only h h' b e a x y z ad t =
    elim (or_cases (h x y z) (same b e a x y z) (sym (ad x y z) ∙ t)) [ inl k ↦ inl k | inr s ↦ inr (same_tells b e a x y z s) ]

pub adds_other : (h h' : Holds) (r : Bool) (b e a x y z : ℕ) → Adds h h' r b e a → (x ≡ b → y ≡ e → z ≡ a → ⊥) → h' x y z ≡ h x y z
adds_other h h' r b e a x y z ad ne =
    elim (cases_Bool (same b e a x y z)) [
      | inl s ↦ let q = same_tells b e a x y z s in absurd (ne q.0 q.1 q.2)
      | inr f ↦ ad x y z ∙ ap (λ t. h x y z || (r && t)) f ∙ ap (λ t. h x y z || t) (and-false r) ∙ or-false (h x y z)
    ]
