-- Trees: derivations without their words. What one costs and how many words it has depend on its rules alone.
use Rattle.std.proofs.Common.{◌≡◌, ℕ, ◌+◌, ◌-◌, ◌≤◌, List, [], ◌∷◌, ◌++◌, length, refl, ap, ◌∙◌, subst, ap₂, subst₂, arith}
use Rattle.std.proofs.lemmas.List.{length-append, get_or_append_left, get_or-append-add}
use Rattle.derivation.specs.declared.rules.WordRule.{WordRule}
use Rattle.derivation.specs.declared.rules.ChainRule.{ChainRule}
use Rattle.derivation.specs.declared.rules.BinaryRule.{BinaryRule}
use Rattle.derivation.specs.Named.{At}
use Rattle.derivation.specs.Scale.{Scale}
use Rattle.derivation.specs.Grammar.{Grammar}
use Rattle.derivation.specs.Derivation.{Derivation, cost}
use Rattle.derivation.proofs.Pruning.{spans}

pub data Tree (g : Grammar) : ℕ → ℕ → Type 0 where
  word : {k : ℕ} (r : WordRule) → At g.lexical k r → Tree g r.category 1
  chain : {k n : ℕ} (r : ChainRule) → At g.chains k r → Tree g r.part n → Tree g r.category n
  binary : {k m n : ℕ} (r : BinaryRule) → At g.binaries k r → Tree g r.left m → Tree g r.right n → Tree g r.category (m + n)

abbrev pub worth : {Cost : Type 0} (s : Scale Cost) {g : Grammar} {A n : ℕ} → Tree g A n → Cost
worth s (word r at) = s.price r.weight
worth s (chain r at t) = s.join (s.price r.weight) (worth s t)
worth s (binary r at t u) = s.join (s.price r.weight) (s.join (worth s t) (worth s u))

pub tree_some : {g : Grammar} {A n : ℕ} → Tree g A n → 1 ≤ n
tree_some (word r at) = omega arith
tree_some (chain r at t) = tree_some t
tree_some (binary r at t u) = omega (arith, tree_some t)

module _ {Cost : Type 0} (s : Scale Cost) where
  -- a derivation, without its words
  pub tree_of : {g : Grammar} {ws : List ℕ} {A b e : ℕ} (d : Derivation g ws A b e) (n : ℕ) → n + b ≡ e + 1 → (t : Tree g A n) × (worth s t ≡ cost s d)
  tree_of {g} (Derivation.word r at here) n long =
      let one : 1 ≡ n = omega arith in
      subst (λ m. (t : Tree g r.category m) × (worth s t ≡ s.price r.weight)) one (Tree.word r at, refl)
  tree_of (Derivation.chain r at d) n long =
      let (t, is) = tree_of d n long in
      (Tree.chain r at t, ap (s.join (s.price r.weight)) is)
  tree_of {g} {b = b} {e = e} (Derivation.binary {m = m} r at d f) n long =
      let first = spans d in
      let second = spans f in
      let (t, is) = tree_of d (m + 1 - b) (omega arith) in
      let (u, is') = tree_of f (e - m) (omega arith) in
      let whole : m + 1 - b + (e - m) ≡ n = omega arith in
      subst (λ k. (t : Tree g r.category k) × (worth s t ≡ s.join (s.price r.weight) (s.join (cost s d) (cost s f)))) whole
      (Tree.binary r at t u, ap₂ (λ x y. s.join (s.price r.weight) (s.join x y)) is is')

  -- a derivation, with its words elsewhere: p places later
  pub shifted : {g : Grammar} {ws vs : List ℕ} {A b e : ℕ} (d : Derivation g ws A b e) (p c f : ℕ) → ((i w : ℕ) → At ws i w → At vs (i + p) w) → b + p ≡ c → e + p ≡ f → (d' : Derivation g vs A c f) × (cost s d' ≡ cost s d)
  shifted {g} {vs = vs} (Derivation.word {i = i} r at here) p c f moves from to =
      let from' : i + p + 1 ≡ c = omega arith in
      let to' : i + p + 1 ≡ f = omega arith in
      subst₂ (λ (x y : ℕ). (d' : Derivation g vs r.category x y) × (cost s d' ≡ s.price r.weight)) from' to' (Derivation.word r at (moves i r.word here), refl)
  shifted (Derivation.chain r at d) p c f moves from to =
      let (d', is) = shifted d p c f moves from to in
      (Derivation.chain r at d', ap (s.join (s.price r.weight)) is)
  shifted (Derivation.binary {m = m} r at d h) p c f moves from to =
      let (d', is) = shifted d p c (m + p) moves from refl in
      let (h', is') = shifted h p (m + p + 1) f moves (omega arith) to in
      (Derivation.binary r at d' h', ap₂ (λ x y. s.join (s.price r.weight) (s.join x y)) is is')

at_front : (ws vs : List ℕ) (i w : ℕ) → At ws i w → At (ws ++ vs) (i + 0) w
at_front ws vs i w at =
    let same : i ≡ i + 0 = omega arith in
    subst (λ k. At (ws ++ vs) k w) same (record {
      inside = omega (arith, at.inside, length-append ws vs);
      is = get_or_append_left ws vs w i at.inside ∙ at.is;
    })

at_back : (ws vs : List ℕ) (i w : ℕ) → At vs i w → At (ws ++ vs) (i + length ws) w
at_back ws vs i w at =
    let same : length ws + i ≡ i + length ws = omega arith in
    subst (λ k. At (ws ++ vs) k w) same (record {
      inside = omega (arith, at.inside, length-append ws vs);
      is = get_or-append-add ws vs i w ∙ at.is;
    })

-- a derivation over all of n words
pub record Whole {Cost : Type 0} (s : Scale Cost) (g : Grammar) (A n : ℕ) (x : Cost) : Type 0 where
  pub text : List ℕ
  pub long : length text ≡ n
  pub some : 1 ≤ n
  pub made : Derivation g text A 1 n
  pub costs : cost s made ≡ x

module _ {Cost : Type 0} (s : Scale Cost) where
  pub whole_of : {g : Grammar} {A n : ℕ} (t : Tree g A n) → Whole s g A n (worth s t)
  whole_of (Tree.word r at) = record {
    text = r.word ∷ [];
    long = refl;
    some = omega arith;
    made = Derivation.word {i = 0} r at (record { inside = omega arith; is = refl });
    costs = refl;
  }
  whole_of (Tree.chain r at t) =
      let w = whole_of t in
      record { text = w.text; long = w.long; some = w.some; made = Derivation.chain r at w.made; costs = ap (s.join (s.price r.weight)) w.costs }
  whole_of (Tree.binary {m = m} {n = n} r at t u) =
      let v = whole_of t in
      let w = whole_of u in
      let first = shifted s v.made 0 1 m (at_front v.text w.text) (omega arith) (omega arith) in
      let second = shifted s w.made (length v.text) (m + 1) (m + n) (at_back v.text w.text) (omega (arith, v.long)) (omega (arith, v.long)) in
      record {
        text = v.text ++ w.text;
        long = omega (arith, v.long, w.long, length-append v.text w.text);
        some = omega (arith, v.some);
        made = Derivation.binary r at first.0 second.0;
        costs = ap₂ (λ x y. s.join (s.price r.weight) (s.join x y)) (first.1 ∙ v.costs) (second.1 ∙ w.costs);
      }
