-- What the laws of a scale tell of two costs.
use Rattle.std.proofs.Common.{◌≡◌, ℕ, Bool, true, false, cond, sym, ap, ◌∙◌, subst, inl, inr, ⊎_elim, arith}
use Rattle.std.proofs.lemmas.Bool.{cases_Bool}
use Rattle.derivation.specs.Scale.{Scale, Lawful, Within}

pub not_both : {b : Bool} → b ≡ true → b ≡ false → ⊥
not_both p q = let z : ◌≡◌ {A = ℕ} 0 1 = ap (λ b. cond b 0 1) (sym p ∙ q) in omega arith

module _ {Cost : Type 0} {s : Scale Cost} (lawful : Lawful s) where
  pub within_refl : (a : Cost) → Within s a a
  within_refl a = ⊎_elim (λ h. h) (λ h. h) (lawful.compares a a)

  pub above_within : (a b : Cost) → s.above a b ≡ true → Within s b a
  above_within a b h = ⊎_elim (λ k. absurd (not_both h k)) (λ k. k) (lawful.compares a b)

  pub above_apart : (a b : Cost) → s.above a b ≡ true → a ≡ b → ⊥
  above_apart a b h e = not_both (subst (λ x. s.above a x ≡ true) (sym e) h) (within_refl a)

  -- what is above b is above whatever is not above b
  pub above_more : (a b c : Cost) → s.above a b ≡ true → Within s c b → s.above a c ≡ true
  above_more a b c h low = elim (cases_Bool (s.above a c)) [ inl yes-above ↦ yes-above | inr under ↦ absurd (not_both h (lawful.trans a c b under low)) ]
