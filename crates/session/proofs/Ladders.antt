-- The test that a ladder rises, and what it tells.
use Rattle.std.proofs.Common.{◌≡◌, ℕ, zero, suc, ◌+◌, ◌<◌, true, List, [], ◌∷◌, length, get_or, Some, sym, refl, subst, arith}
use Rattle.std.proofs.lemmas.Bool.{and_parts, and_from}
use Rattle.derivation.specs.Scale.{Scale}
use Rattle.derivation.specs.Ladder.{ceiling_at, Rising}
use Rattle.derivation.proofs.Reading.{none_some, some_same}
use Rattle.session.specs.Request.{rises}

module _ {Cost : Type 0} (s : Scale Cost) where
  -- each pair of neighbours rises
  abbrev pub Pairs : List Cost → ℕ → Type 0
  Pairs ladder n = (k : ℕ) (d : Cost) → k + 1 < n → s.above (get_or ladder (k + 1) d) (get_or ladder k d) ≡ true

  pub pairs_rise : (ladder : List Cost) → Pairs ladder (length ladder) → rises s ladder ≡ true
  pairs_rise [] each = refl
  pairs_rise (low ∷ []) each = refl
  pairs_rise (low ∷ high ∷ ladder) each =
      and_from (s.above high low) (rises s (high ∷ ladder)) (each 0 low (omega arith))
      (pairs_rise (high ∷ ladder) (λ k d less. let next : suc (k + 1) ≡ suc k + 1 = omega arith in subst (λ (n : ℕ). s.above (get_or (low ∷ high ∷ ladder) n d) (get_or (high ∷ ladder) k d) ≡ true) (sym next) (each (suc k) d (omega arith))))

  pub rise_pairs : (ladder : List Cost) → rises s ladder ≡ true → (k : ℕ) (d : Cost) → k + 1 < length ladder → s.above (get_or ladder (k + 1) d) (get_or ladder k d) ≡ true
  rise_pairs [] t k d less = absurd (omega arith)
  rise_pairs (low ∷ []) t k d less = absurd (omega arith)
  rise_pairs (low ∷ high ∷ ladder) t zero d less = (and_parts (s.above high low) (rises s (high ∷ ladder)) t).0
  rise_pairs (low ∷ high ∷ ladder) t (suc k) d less =
      let next : suc (k + 1) ≡ suc k + 1 = omega arith in
      subst (λ (n : ℕ). s.above (get_or (low ∷ high ∷ ladder) n d) (get_or (high ∷ ladder) k d) ≡ true) next (rise_pairs (high ∷ ladder) (and_parts (s.above high low) (rises s (high ∷ ladder)) t).1 k d (omega arith))

  pub rises_tells : (ladder : List Cost) → rises s ladder ≡ true → Rising s ladder
  rises_tells [] t = record { step = λ k low high is is'. absurd (none_some refl is) }
  rises_tells (t ∷ []) is_true = record { step = λ k low high is is'. absurd (past t k is') }
    where
      past : (u : Cost) (k : ℕ) {v : Cost} → ceiling_at (u ∷ []) (k + 1) ≡ Some v → ⊥
      past u k {v} is = let q : k + 1 ≡ suc k = omega arith in none_some refl (subst (λ (n : ℕ). ceiling_at (u ∷ []) n ≡ Some v) q is)
  rises_tells (t ∷ u ∷ ladder) is_true =
      let both = and_parts (s.above u t) (rises s (u ∷ ladder)) is_true in
      let rest = rises_tells (u ∷ ladder) both.1 in
      record { step = go both.0 rest }
    where
      go : s.above u t ≡ true → Rising s (u ∷ ladder) → (k : ℕ) (low high : Cost) → ceiling_at (t ∷ u ∷ ladder) k ≡ Some low → ceiling_at (t ∷ u ∷ ladder) (k + 1) ≡ Some high → s.above high low ≡ true
      go up rest zero low high is is' = subst (λ x. s.above high x ≡ true) (some_same refl is) (subst (λ x. s.above x t ≡ true) (some_same refl is') up)
      go up rest (suc k) low high is is' = let q : suc k + 1 ≡ suc (k + 1) = omega arith in rest.step k low high is (subst (λ (n : ℕ). ceiling_at (t ∷ u ∷ ladder) n ≡ Some high) q is')

  pub rising_rises : (ladder : List Cost) → Rising s ladder → rises s ladder ≡ true
  rising_rises [] rising = refl
  rising_rises (t ∷ []) rising = refl
  rising_rises (t ∷ u ∷ ladder) rising =
      and_from (s.above u t) (rises s (u ∷ ladder)) (rising.step 0 t u refl refl)
      (rising_rises (u ∷ ladder) (record { step = λ k low high is is'. let q : suc (k + 1) ≡ suc k + 1 = omega arith in rising.step (suc k) low high is (subst (λ (n : ℕ). ceiling_at (t ∷ u ∷ ladder) n ≡ Some high) q is') }))
