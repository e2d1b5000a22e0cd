-- Every cost that a finished round leaves has a cheapest derivation that ends: below each run of chain rules stands a word or a split.
use Rattle.std.proofs.Common.{◌≡◌, ℕ, zero, suc, ◌+◌, ◌-◌, ◌<◌, Bool, true, false, List, length, get_or, Some, None, Option, sym, refl, ap, ◌∙◌, subst, inl, inr, arith}
use Rattle.std.proofs.lemmas.Bool.{cases_Bool}
use Rattle.derivation.specs.Scale.{Scale, Lawful, Within}
use Rattle.derivation.specs.Grammar.{Grammar}
use Rattle.derivation.specs.Named.{At}
use Rattle.derivation.specs.declared.rules.ChainRule.{ChainRule}
use Rattle.derivation.specs.declared.rules.BinaryRule.{BinaryRule}
use Rattle.derivation.specs.Derivation.{Derivation, cost, word, chain, binary}
use Rattle.derivation.specs.Bounds.{Filled}
use Rattle.derivation.specs.Passing.{Passes}
use Rattle.derivation.specs.Table.{Table}
use Rattle.derivation.proofs.Laws.{not_both, within_refl, above_within, above_more}
use Rattle.derivation.proofs.Pruning.{spans, mono, grows}
use Rattle.derivation.proofs.Table.{found, covers, admits_mono, mono₂}
use Rattle.derivation.proofs.Reading.{at_same}
use Rattle.tree.specs.Extracted.{Finished}
use Rattle.tree.specs.Ways.{OfWord, OfParts, no_word, no_chain, no_binary}
use Rattle.tree.specs.Ranks.{Grounded, by_word, by_binary, by_chain, AllGrounded}
use Rattle.tree.proofs.Marks.{many, many_less}

-- whether there is a cost, and x is above it
abbrev lower : {Cost : Type 0} → Scale Cost → Cost → Option Cost → Bool
lower s x None = false
lower s x (Some y) = s.above x y

lower_tells : {Cost : Type 0} (s : Scale Cost) (x : Cost) (o : Option Cost) → lower s x o ≡ true → (y : Cost) × (o ≡ Some y) × (s.above x y ≡ true)
lower_tells s x None h = absurd (not_both h refl)
lower_tells s x (Some y) h = (y, refl, h)

module _ {Cost : Type 0} {s : Scale Cost} (lawful : Lawful s) {g : Grammar} {ws : List ℕ} {v : Table Cost} (done : Finished s g ws v) where
  -- what the table has is not above what it takes
  not_above : (A b e : ℕ) (x c : Cost) → v A b e ≡ Some x → Filled (v A b e) (λ y. Within s y c) → Within s x c
  not_above A b e x c is low = subst (λ o. Filled o (λ y. Within s y c)) is low

  -- a chain rule on top of a derivation that has the table's cost gives that cost from the table's cost of its part
  tight_chain : {b e k : ℕ} (r : ChainRule) (at : At g.chains k r) (d : Derivation g ws r.part b e) → Passes s done.entry done.ceiling (length ws) {g = g} {ws = ws} (chain r at d) → v r.category b e ≡ Some (cost s {g = g} {ws = ws} (chain r at d)) → (y : Cost) × (v r.part b e ≡ Some y) × Within s y (cost s d) × (s.join (s.price r.weight) y ≡ cost s {g = g} {ws = ws} (chain r at d))
  tight_chain {b} {e} {k} r at d pass is =
      let p = s.price r.weight in
      let size = spans d in
      let (y, part, low) = found (v r.part b e) (covers lawful done.closed d pass.1) in
      let less : Within s (s.join p y) (s.join p (cost s d)) = mono lawful p y (cost s d) low in
      let takes = (done.closed.at b e size.first size.some size.last).chains k r y at part (admits_mono lawful done.ceiling _ _ _ less pass.0) in
      (y, part, low, lawful.antisym _ _ less (not_above r.category b e _ (s.join p y) is takes))

  tight_binary : {b m e k : ℕ} (r : BinaryRule) (at : At g.binaries k r) (d : Derivation g ws r.left b m) (f : Derivation g ws r.right (m + 1) e) → Passes s done.entry done.ceiling (length ws) {g = g} {ws = ws} (binary r at d f) → v r.category b e ≡ Some (cost s {g = g} {ws = ws} (binary r at d f)) → OfParts s v b e (cost s {g = g} {ws = ws} (binary r at d f)) r m
  tight_binary {b} {m} {e} {k} r at d f pass is =
      let p = s.price r.weight in
      let first = spans d in
      let second = spans f in
      let (x, left, low) = found (v r.left b m) (covers lawful done.closed d pass.1) in
      let (y, right, low') = found (v r.right (m + 1) e) (covers lawful done.closed f pass.2) in
      let less : Within s (s.join p (s.join x y)) (s.join p (s.join (cost s d) (cost s f))) = mono lawful p (s.join x y) (s.join (cost s d) (cost s f)) (mono₂ lawful x (cost s d) y (cost s f) low low') in
      let takes = (done.closed.at b e first.first (omega arith) second.last).binaries k m r x y at first.some (omega arith) left right (admits_mono lawful done.ceiling _ _ _ less pass.0) in
      record {
        first = first.some;
        last = omega arith;
        left = x;
        has_left = left;
        right = y;
        has_right = right;
        costs = lawful.antisym _ _ less (not_above r.category b e _ (s.join p (s.join x y)) is takes);
      }

  module _ (kinds : ℕ) (bounded : (b e a : ℕ) (x : Cost) → v a b e ≡ Some x → a < kinds) where
    -- how many categories over b to e cost less than x
    cheaper : ℕ → ℕ → Cost → ℕ
    cheaper b e x = many (λ B. lower s x (v B b e)) kinds

    fewer : (b e B : ℕ) (x y : Cost) → v B b e ≡ Some y → s.above x y ≡ true → cheaper b e y < cheaper b e x
    unfolding cheaper
    fewer b e B x y is up = many_less (λ B. lower s y (v B b e)) (λ B. lower s x (v B b e)) kinds
        (λ k h. let (z, there, over) = lower_tells s y (v k b e) h in subst (λ o. lower s x o ≡ true) (sym there) (above_more lawful x y z up (above_within lawful y z over)))
        B (bounded b e B y is) (subst (λ o. lower s y o ≡ false) (sym is) (within_refl lawful y)) (subst (λ o. lower s x o ≡ true) (sym is) up)

    -- by the number of categories that cost less, and then by the chain rules on top
    inner : {b e : ℕ} (n : ℕ) → ((B : ℕ) (y : Cost) → v B b e ≡ Some y → cheaper b e y < n → Grounded s g ws v b e B) → {A : ℕ} (d : Derivation g ws A b e) → Passes s done.entry done.ceiling (length ws) d → v A b e ≡ Some (cost s d) → cheaper b e (cost s d) < suc n → Grounded s g ws v b e A
    inner n ih (word {k = k} {i = i} r at here) pass is few =
        let one : i + 1 - 1 ≡ i = omega arith in
        let there : r.word ≡ get_or ws (i + 1 - 1) 0 = rw one (at_same i r.word 0 here) in
        let same = at_same k r no_word at in
        by_word is refl (at.inside, ap (λ q. q.category) (sym same), subst (λ q. OfWord s (get_or ws (i + 1 - 1) 0) (s.price r.weight) q) same (record { word = there; costs = refl }))
    inner {b} {e} n ih (binary {k = k} {m = m} r at d f) pass is few =
        let same = at_same k r no_binary at in
        by_binary is (at.inside, ap (λ q. q.category) (sym same), subst (λ q. OfParts s v b e (cost s {g = g} {ws = ws} (binary r at d f)) q m) same (tight_binary r at d f pass is))
    inner {b} {e} n ih (chain {k = k} r at d) pass is few =
        let same = at_same k r no_chain at in
        let p = s.price r.weight in
        let whole = s.join p (cost s d) in
        let (y, part, low, tight) = tight_chain r at d pass is in
        let go : Grounded s g ws v b e r.part = elim (cases_Bool (s.above whole y)) [
          | inl up ↦ ih r.part y part (omega (arith, fewer b e r.part whole y part up, few))
          | inr level ↦
              let grown : Within s (cost s d) whole = subst (λ z. Within s (cost s d) z) (lawful.comm (cost s d) p) (grows lawful (cost s d) p) in
              let alike : whole ≡ y = lawful.antisym _ _ level (lawful.trans _ _ _ low grown) in
              let equal : y ≡ cost s d = lawful.antisym _ _ low (lawful.trans _ _ _ grown level) in
              inner n ih d pass.1 (part ∙ ap Some equal) (subst (λ z. cheaper b e z < suc n) (alike ∙ equal) few)
        ] in
        by_chain k is at.inside (ap (λ q. q.category) (sym same)) (subst (λ q. v q.part b e ≡ Some y) same part) (subst (λ q. s.join (s.price q.weight) y ≡ whole) same tight) (subst (λ q. Grounded s g ws v b e q.part) same go)

    outer : (n b e A : ℕ) (x : Cost) → v A b e ≡ Some x → cheaper b e x < n → Grounded s g ws v b e A
    outer zero b e A x is few = absurd (omega arith)
    outer (suc n) b e A x is few =
        let (d, costs, pass) = done.reached.by A b e x is in
        inner n (outer n b e) d pass (is ∙ ap Some (sym costs)) (subst (λ z. cheaper b e z < suc n) (sym costs) few)

    pub grounded : AllGrounded s g ws v
    grounded b e a x is = outer (suc (cheaper b e x)) b e a x is (omega arith)
