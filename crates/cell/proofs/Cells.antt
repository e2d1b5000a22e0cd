-- A cell that is filled is closed under the rules, and holds only what they make.
use Rattle.std.proofs.Common.{◌≡◌, ℕ, ◌+◌, ◌-◌, ◌≤◌, List, length, get_or, Some, None, Option, sym, refl, ap, ◌∙◌, subst, ⊎_elim, arith}
use Rattle.std.proofs.lemmas.List.{get_or_default}
use Rattle.derivation.specs.Named.{At}
use Rattle.derivation.specs.Grammar.{Grammar}
use Rattle.derivation.specs.Scale.{Scale, Lawful, Within}
use Rattle.derivation.specs.Bounds.{Entries, Filled}
use Rattle.derivation.specs.Table.{Table}
use Rattle.derivation.proofs.Pruning.{filled_map}
use Rattle.derivation.proofs.Table.{found}
use Rattle.bound.specs.Gate.{Open}
use Rattle.settle.specs.declared.direction.Direction.TheVariants.{Up}
use Rattle.settle.specs.Column.{Grown}
use Rattle.settle.specs.Chains.{Settled, Chained, here, further}
use Rattle.derivation.proofs.Reading.{none_some}
use Rattle.settle.proofs.Growing.{parts, sinks}
use Rattle.settle.specs.Offers.{joined}
use Rattle.cell.specs.Cell.{Pair, Single, Made, word, binary, chain, Closes}

module _ {Cost : Type 0} {s : Scale Cost} (lawful : Lawful s) (g : Grammar) (entry : Entries Cost) (ceiling : Option Cost) (ws : List ℕ) (v v₁ v₂ v' : Table Cost) (b e : ℕ)
    (blank : (A : ℕ) → v A b e ≡ None)
    (one : Grown s (Open s ceiling entry (b - 1) (length ws - e)) (Single s g.lexical ws b e) (λ A. v A b e) (λ A. v₁ A b e))
    (two : Grown s (Open s ceiling entry (b - 1) (length ws - e)) (Pair s g.binaries v₁ b e (length g.binaries)) (λ A. v₁ A b e) (λ A. v₂ A b e))
    (three : Settled s (Open s ceiling entry (b - 1) (length ws - e)) Up g.chains (λ A. v₂ A b e) (λ A. v' A b e))
    (same₁ : (A x y : ℕ) → (x ≡ b → y ≡ e → ⊥) → v₁ A x y ≡ v A x y)
    (same : (A x y : ℕ) → (x ≡ b → y ≡ e → ⊥) → v' A x y ≡ v A x y)
    (inside : 1 ≤ b) (last : b ≤ length ws) where
  makes_single : (A : ℕ) (x : Cost) → Single s g.lexical ws b e A x → Open s ceiling entry (b - 1) (length ws - e) A x → Made s g (Open s ceiling entry (b - 1) (length ws - e)) ws v b e A x
  makes_single A x one_word fine =
      let ok = Open s ceiling entry (b - 1) (length ws - e) in
      let l = one_word.leaf in
      let r = l.one in
      let gives = l.offered in
      let first : b ≡ (b - 1) + 1 = omega arith in
      let here-is : At ws (b - 1) r.word = record { inside = omega arith; is = get_or_default ws (b - 1) r.word 0 (omega arith) ∙ sym gives.word } in
      let fine' : ok r.category (s.price r.weight) = subst (λ c. ok r.category c) gives.costs (subst (λ k. ok k x) (sym gives.makes) fine) in
      let made : Made s g ok ws v b e r.category (s.price r.weight) = word r l.at here-is first (sym one_word.alone ∙ first) fine' in
      subst (λ k. Made s g ok ws v b e k x) gives.makes (subst (λ c. Made s g ok ws v b e r.category c) (sym gives.costs) made)

  makes_pair : (A : ℕ) (c : Cost) → Pair s g.binaries v₁ b e (length g.binaries) A c → Open s ceiling entry (b - 1) (length ws - e) A c → Made s g (Open s ceiling entry (b - 1) (length ws - e)) ws v b e A c
  makes_pair A c p fine =
      let ok = Open s ceiling entry (b - 1) (length ws - e) in
      let r = p.one in
      let split = p.offered in
      let m = split.middle in
      let low = split.low in
      let high = split.high in
      let (x, y, at_x, at_y, is_c) = parts s r.weight (v₁ r.left b m) (v₁ r.right (m + 1) e) c split.costs in
      let is_x : v r.left b m ≡ Some x = sym (same₁ r.left b m (λ _ q. omega arith)) ∙ at_x in
      let is_y : v r.right (m + 1) e ≡ Some y = sym (same₁ r.right (m + 1) e (λ q _. omega arith)) ∙ at_y in
      let fine' : ok r.category (s.join (s.price r.weight) (s.join x y)) = subst (λ z. ok r.category z) is_c (subst (λ k. ok k c) (sym split.makes) fine) in
      let made : Made s g ok ws v b e r.category (s.join (s.price r.weight) (s.join x y)) = binary r p.at low high is_x is_y fine' in
      subst (λ k. Made s g ok ws v b e k c) split.makes (subst (λ z. Made s g ok ws v b e r.category z) (sym is_c) made)

  makes : {A : ℕ} {x : Cost} → Chained s (Open s ceiling entry (b - 1) (length ws - e)) Up g.chains (λ A. v₂ A b e) A x → Made s g (Open s ceiling entry (b - 1) (length ws - e)) ws v b e A x
  makes {A} {x} (here is) = ⊎_elim
      (λ was. ⊎_elim (λ none. absurd (none_some (blank A) none)) (λ new. makes_single A x new.0 new.1) (one.origin A x was))
      (λ new. makes_pair A x new.0 new.1)
      (two.origin A x is)
  makes (further r at c fine) = chain r at (makes c) fine

  up₂ : (A : ℕ) (c : Cost) → Filled (v₂ A b e) (λ x. Within s x c) → Filled (v' A b e) (λ x. Within s x c)
  up₂ A c h =
      let (x, is, low) = found (v₂ A b e) h in
      filled_map (v' A b e) (λ z k. lawful.trans _ _ _ k low) (three.lower A x is)

  pub closes_all : Closes s g entry ceiling ws v v' b e
  closes_all = record {
    elsewhere = same;
    closed = record {
      words = λ k i r at at-word bi ei fine.
          let here-is : get_or ws (b - 1) 0 ≡ r.word = ap (λ (j : ℕ). get_or ws j 0) (omega arith) ∙ get_or_default ws i 0 r.word at-word.inside ∙ at-word.is in
          let src : Single s g.lexical ws b e r.category (s.price r.weight) = record { alone = bi ∙ sym ei; leaf = record { place = k; one = r; under = at.inside; at = at; offered = record { word = sym here-is; makes = refl; costs = refl } } } in
          up₂ r.category _ (sinks lawful two r.category _ (one.made r.category _ src fine));
      chains = λ k r x at is fine. three.closed.by k r x at is fine;
      binaries = λ k m r x y at low high is_x is_y fine.
          let off-x : b ≡ b → m ≡ e → ⊥ = λ _ q. omega arith in
          let off-y : m + 1 ≡ b → e ≡ e → ⊥ = λ q _. omega arith in
          let at_x : v₁ r.left b m ≡ Some x = same₁ r.left b m off-x ∙ sym (same r.left b m off-x) ∙ is_x in
          let at_y : v₁ r.right (m + 1) e ≡ Some y = same₁ r.right (m + 1) e off-y ∙ sym (same r.right (m + 1) e off-y) ∙ is_y in
          let is : joined s r.weight (v₁ r.left b m) (v₁ r.right (m + 1) e) ≡ Some (s.join (s.price r.weight) (s.join x y)) = ap (λ o. joined s r.weight o (v₁ r.right (m + 1) e)) at_x ∙ ap (λ o. joined s r.weight (Some x) o) at_y in
          let src : Pair s g.binaries v₁ b e (length g.binaries) r.category (s.join (s.price r.weight) (s.join x y)) = record { place = k; one = r; under = at.inside; at = at; offered = record { middle = m; low = low; high = high; makes = refl; costs = is } } in
          up₂ r.category _ (two.made r.category _ src fine);
    };
    made = λ A x is. makes (three.origin A x is);
  }
