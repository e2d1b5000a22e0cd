-- What holds of every draft lasts when a rule may be pushed.
use Rattle.std.proofs.Common.{◌≡◌, ℕ, ◌+◌, ◌<◌, ◌≤◌, Bool, true, false, cond, List, [], ◌∷◌, ◌++◌, length, sym, ◌∙◌, subst, inl, inr, arith}
use Rattle.std.proofs.lemmas.Bool.{cases_lt}
use Rattle.std.proofs.lemmas.List.{length_push, get_or_append_left, get_or_push}
use Rattle.derivation.specs.Named.{At}
use Rattle.derivation.specs.declared.rules.WordRule.{WordRule}
use Rattle.derivation.specs.declared.rules.ChainRule.{ChainRule}
use Rattle.derivation.specs.declared.rules.BinaryRule.{BinaryRule}
use Rattle.grammar.specs.Seen.{Seen, Fit, rules}
use Rattle.grammar.specs.Adding.{with_lexical, with_chains, with_binaries}

-- what holds of each rule lasts when one more may be pushed
each_push : {X : Type 0} (P : X → Type 0) (xs : List X) (x : X) → ((k : ℕ) (r : X) → At xs k r → P r) → P x → (k : ℕ) (r : X) → At (xs ++ x ∷ []) k r → P r
each_push P xs x all new k r at =
    let long = length_push xs x in
    elim (cases_lt k (length xs)) [
      | inl l ↦ all k r (record { inside = l; is = sym (get_or_append_left xs (x ∷ []) r k l) ∙ at.is })
      | inr l ↦ let here : length xs ≡ k = omega (arith, at.inside) in subst P (sym (get_or_push xs x r k here) ∙ at.is) new
    ]

record Pushed {X : Type 0} (P : X → Type 0) (xs ys : List X) : Type 0 where
  pub each : (k : ℕ) (r : X) → At ys k r → P r
  pub long : length ys ≤ length xs + 1

pushed : {X : Type 0} (P : X → Type 0) (xs ys : List X) (x : X) (b : Bool) → ys ≡ cond b (xs ++ x ∷ []) xs → ((k : ℕ) (r : X) → At xs k r → P r) → P x → Pushed P xs ys
pushed P xs ys x true e all new = let long = length_push xs x in subst (Pushed P xs) (sym e) (record { each = each_push P xs x all new; long = omega arith })
pushed P xs ys x false e all new = subst (Pushed P xs) (sym e) (record { each = all; long = omega arith })

module _ (s : Seen) (b : Bool) (f : Fit s) (room : rules s < 1024) where
  pub fit_lexical : (ys : List WordRule) (r : WordRule) → ys ≡ cond b (s.lexical ++ r ∷ []) s.lexical → (r.category < length s.categories) × (r.word < length s.words) → Fit (with_lexical s ys)
  fit_lexical ys r e new =
      let p = pushed (λ (x : WordRule). (x.category < length s.categories) × (x.word < length s.words)) s.lexical ys r b e f.lexical new in
      let long = p.long in
      record { most = f.most; few = f.few; known = f.known; count = omega arith; top = f.top; lexical = p.each; chains = f.chains; binaries = f.binaries }

  pub fit_chains : (ys : List ChainRule) (r : ChainRule) → ys ≡ cond b (s.chains ++ r ∷ []) s.chains → (r.category < length s.categories) × (r.part < length s.categories) → Fit (with_chains s ys)
  fit_chains ys r e new =
      let p = pushed (λ (x : ChainRule). (x.category < length s.categories) × (x.part < length s.categories)) s.chains ys r b e f.chains new in
      let long = p.long in
      record { most = f.most; few = f.few; known = f.known; count = omega arith; top = f.top; lexical = f.lexical; chains = p.each; binaries = f.binaries }

  pub fit_binaries : (ys : List BinaryRule) (r : BinaryRule) → ys ≡ cond b (s.binaries ++ r ∷ []) s.binaries → (r.category < length s.categories) × (r.left < length s.categories) × (r.right < length s.categories) → Fit (with_binaries s ys)
  fit_binaries ys r e new =
      let p = pushed (λ (x : BinaryRule). (x.category < length s.categories) × (x.left < length s.categories) × (x.right < length s.categories)) s.binaries ys r b e f.binaries new in
      let long = p.long in
      record { most = f.most; few = f.few; known = f.known; count = omega arith; top = f.top; lexical = f.lexical; chains = f.chains; binaries = p.each }
