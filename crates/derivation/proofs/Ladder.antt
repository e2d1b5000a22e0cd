-- The first round that succeeds has the least cost of all, and its number is that of the ceilings below the cost.
use Rattle.std.proofs.Common.{◌≡◌, ℕ, zero, suc, ◌+◌, ◌<◌, ◌≤◌, Bool, true, cond, List, [], ◌∷◌, length, Some, None, Option, sym, refl, ap, subst, inl, inr, arith}
use Rattle.std.proofs.lemmas.Bool.{cases_Bool}
use Rattle.derivation.specs.Scale.{Scale, Lawful, Within}
use Rattle.derivation.specs.Grammar.{Grammar}
use Rattle.derivation.specs.Derivation.{Derivation, cost}
use Rattle.derivation.specs.Bounds.{Entries, Bounds}
use Rattle.derivation.specs.Passing.{Passes}
use Rattle.derivation.specs.Kept.{Kept}
use Rattle.derivation.specs.Ladder.{ceiling_at, Rising, passed, Succeeds, Settles, FirstSuccessIsCheapest}
use Rattle.derivation.proofs.Laws.{above_within}
use Rattle.derivation.proofs.Pruning.{prunes}
use Rattle.derivation.proofs.Table.{all_pass}

module _ {Cost : Type 0} {s : Scale Cost} (lawful : Lawful s) where
  -- what is kept of the whole is the cheapest of all, whatever the ceiling
  pub kept_cheapest : {g : Grammar} {span : ℕ} {entry : Entries Cost} → Bounds s g span entry → (ceiling : Option Cost) {ws : List ℕ} → length ws ≤ span → {x : Cost} → Kept s g entry ceiling ws g.top 1 (length ws) x → (f : Derivation g ws g.top 1 (length ws)) → Within s x (cost s f)
  kept_cheapest {entry = entry} bounds None {ws} short kept f = kept.least f (all_pass s entry (length ws) f)
  kept_cheapest {g} {entry = entry} bounds (Some t) {ws} short {x} kept f =
      let lows : (e : Derivation g ws g.top 1 (length ws)) → Passes s entry (Some t) (length ws) e → Within s (cost s kept.tree) (cost s e) = λ e pass. subst (λ y. Within s y (cost s e)) (sym kept.costs) (kept.least e pass) in
      subst (λ y. Within s y (cost s f)) kept.costs ((prunes lawful bounds t ws short).least kept.tree kept.passes lows f)

  rising_tail : {t : Cost} {ladder : List Cost} → Rising s (t ∷ ladder) → Rising s ladder
  rising_tail {t} {ladder} rising = record { step = λ k low high is is'. let next : suc (k + 1) ≡ suc k + 1 = omega arith in rising.step (suc k) low high is (subst (λ (n : ℕ). ceiling_at (t ∷ ladder) n ≡ Some high) next is') }

  -- a rising ladder above a ceiling that is not below x has none below x
  none_passed : (x t : Cost) (ladder : List Cost) → Within s x t → Rising s (t ∷ ladder) → passed s x ladder ≡ 0
  none_passed x t [] low rising = refl
  none_passed x t (u ∷ ladder) low rising =
      let up : s.above u t ≡ true = rising.step 0 t u refl refl in
      let low' : Within s x u = lawful.trans x t u low (above_within lawful u t up) in
      let rest = none_passed x u ladder low' (rising_tail rising) in
      let none : passed s x (u ∷ ladder) ≡ 0 + passed s x ladder = ap (λ (b : Bool). cond b 1 0 + passed s x ladder) low' in
      omega arith

  -- the first round whose ceiling is not below x
  pub rung_is : (x : Cost) (ladder : List Cost) → Rising s ladder → (k : ℕ) → k ≤ length ladder → ((j : ℕ) (t : Cost) → j < k → ceiling_at ladder j ≡ Some t → s.above x t ≡ true) → ((t : Cost) → ceiling_at ladder k ≡ Some t → Within s x t) → k ≡ passed s x ladder
  rung_is x [] rising k most before here = omega arith
  rung_is x (t ∷ ladder) rising zero most before here =
      let low = here t refl in
      let none : passed s x (t ∷ ladder) ≡ 0 + passed s x ladder = ap (λ (b : Bool). cond b 1 0 + passed s x ladder) low in
      let rest = none_passed x t ladder low rising in
      omega arith
  rung_is x (t ∷ ladder) rising (suc k) most before here =
      let up : s.above x t ≡ true = before 0 t (omega arith) refl in
      let rest = rung_is x ladder (rising_tail rising) k (omega arith) (λ j u less is. before (suc j) u (omega arith) is) here in
      let one : passed s x (t ∷ ladder) ≡ 1 + passed s x ladder = ap (λ (b : Bool). cond b 1 0 + passed s x ladder) up in
      omega arith

  module _ {g : Grammar} {span : ℕ} {entry : Entries Cost} (bounds : Bounds s g span entry) {ladder : List Cost} {ws : List ℕ} (short : length ws ≤ span) {k : ℕ} {x : Cost} (success : Succeeds s g entry ladder ws k x) where
    before_above : (j : ℕ) (t : Cost) → j < k → ceiling_at ladder j ≡ Some t → s.above x t ≡ true
    before_above j t less is = elim (cases_Bool (s.above x t)) [
      | inl yes-above ↦ yes-above
      | inr low ↦
          let d = success.kept.tree in
          let passes = (prunes lawful bounds t ws short).kept d (subst (λ y. Within s y t) (sym success.kept.costs) low) in
          absurd (success.before j less d (subst (λ (o : Option Cost). Passes s entry o (length ws) d) (sym is) passes))
    ]

    here_within : (t : Cost) → ceiling_at ladder k ≡ Some t → Within s x t
    here_within t is =
        let d = success.kept.tree in
        let passes = subst (λ (o : Option Cost). Passes s entry o (length ws) d) is success.kept.passes in
        subst (λ y. Within s y t) success.kept.costs ((prunes lawful bounds t ws short).only d passes)

    pub settles : Settles s g ladder ws k x
    settles = record {
      cheapest = kept_cheapest bounds (ceiling_at ladder k) short success.kept;
      rung = λ rising. rung_is x ladder rising k success.within before_above here_within;
    }

pub first_success_is_cheapest_lem : {Cost : Type 0} (s : Scale Cost) → FirstSuccessIsCheapest s
first_success_is_cheapest_lem s lawful g span entry bounds ladder ws short k x success = settles lawful bounds short success
