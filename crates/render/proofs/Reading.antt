-- What a row of nodes tells of the derivation that it is of.
use Rattle.std.proofs.Common.{◌≡◌, ℕ, ◌+◌, List, ◌∷◌, ◌++◌, length, codes, sym, ap, ◌∙◌, append_assoc, arith}
use Rattle.derivation.specs.Derivation.{word, chain, binary}
use Rattle.tree.specs.declared.node.Node.{Node}
use Rattle.tree.specs.declared.node.Kind.TheVariants.{Word, Chain, Binary}
use Rattle.tree.specs.Preorder.{preorder}
use Rattle.render.specs.Render.{render, Shows}

four : (a w x y z o p q r : List ℕ) → o ≡ a ++ w → p ≡ o ++ x → q ≡ p ++ y → r ≡ q ++ z → r ≡ a ++ (w ++ (x ++ (y ++ z)))
four a w x y z o p q r h i j k = k ∙ ap (λ l. l ++ z) (j ∙ ap (λ l. l ++ y) (i ∙ ap (λ l. l ++ x) h)) ∙ simp append_assoc

-- what was opened, and what comes after
glue : (a x y z rest mid after : List ℕ) → mid ≡ a ++ (x ++ (y ++ z)) → after ≡ mid ++ rest → after ≡ a ++ (x ++ (y ++ (z ++ rest)))
glue a x y z rest mid after i j = j ∙ ap (λ l. l ++ rest) i ∙ simp append_assoc

module _ (title spelling : ℕ → List ℕ) where
  pub shows_none : (nodes left : List Node) (before after : List ℕ) → length nodes ≡ 0 → Shows title spelling nodes left before after
  shows_none nodes left before after none g ws A b e (word r at here) rest is = absurd (omega (arith, ap length is))
  shows_none nodes left before after none g ws A b e (chain r at d) rest is = absurd (omega (arith, ap length is))
  shows_none nodes left before after none g ws A b e (binary r at d f) rest is = absurd (omega (arith, ap length is))

  module _ (nodes : List Node) (n : Node) (others : List Node) (split : nodes ≡ n ∷ others) (before mid : List ℕ) (opened : mid ≡ before ++ (codes "(" ++ (title n.category ++ codes " "))) where
    head_of : {x : Node} {xs : List Node} → nodes ≡ x ∷ xs → (n ≡ x) × (others ≡ xs)
    head_of is = (cc, cc)

    -- what was opened is the category of the derivation
    named : (category : ℕ) → n.category ≡ category → (rest after : List ℕ) → after ≡ mid ++ rest → after ≡ before ++ (codes "(" ++ (title category ++ (codes " " ++ rest)))
    named category is rest after j = glue before (codes "(") (title n.category) (codes " ") rest mid after opened j ∙ ap (λ k. before ++ (codes "(" ++ (title k ++ (codes " " ++ rest)))) is

    pub shows_word : (after : List ℕ) → n.kind ≡ Word → after ≡ mid ++ (spelling n.begin ++ codes ")") → Shows title spelling nodes others before after
    shows_word after kind closed g ws A b e (word {i = i} r at here) rest is =
        let (h, tail) = head_of is in
        (tail, named r.category (ap (λ m. m.category) h) (spelling (i + 1) ++ codes ")") after (closed ∙ ap (λ m. mid ++ (spelling m.begin ++ codes ")")) h))
    shows_word after kind closed g ws A b e (chain r at d) rest is =
        absurd (let q : Chain ≡ Word = sym (ap (λ m. m.kind) (head_of is).0) ∙ kind in let z : ◌≡◌ {A = ℕ} 0 1 = cc in omega arith)
    shows_word after kind closed g ws A b e (binary r at d f) rest is =
        absurd (let q : Binary ≡ Word = sym (ap (λ m. m.kind) (head_of is).0) ∙ kind in let z : ◌≡◌ {A = ℕ} 0 1 = cc in omega arith)

    pub shows_chain : (left : List Node) (inner after : List ℕ) → n.kind ≡ Chain → Shows title spelling others left mid inner → after ≡ inner ++ codes ")" → Shows title spelling nodes left before after
    shows_chain left inner after kind sub closed g ws A b e (chain r at d) rest is =
        let (h, tail) = head_of is in
        let (place, text) = sub g ws _ _ _ d rest tail in
        let R = render title spelling d in
        (place, named r.category (ap (λ m. m.category) h) (R ++ codes ")") after (closed ∙ ap (λ l. l ++ codes ")") text ∙ append_assoc mid R (codes ")")))
    shows_chain left inner after kind sub closed g ws A b e (word r at here) rest is =
        absurd (let q : Word ≡ Chain = sym (ap (λ m. m.kind) (head_of is).0) ∙ kind in let z : ◌≡◌ {A = ℕ} 0 1 = cc in omega arith)
    shows_chain left inner after kind sub closed g ws A b e (binary r at d f) rest is =
        absurd (let q : Binary ≡ Chain = sym (ap (λ m. m.kind) (head_of is).0) ∙ kind in let z : ◌≡◌ {A = ℕ} 0 1 = cc in omega arith)

    pub shows_binary : (middle left : List Node) (first spaced second after : List ℕ) → n.kind ≡ Binary → Shows title spelling others middle mid first → spaced ≡ first ++ codes " " → Shows title spelling middle left spaced second → after ≡ second ++ codes ")" → Shows title spelling nodes left before after
    shows_binary middle left first spaced second after kind sub space sub' closed g ws A b e (binary r at d f) rest is =
        let (h, tail) = head_of is in
        let (place, text) = sub g ws _ _ _ d (preorder f ++ rest) (tail ∙ append_assoc (preorder d) (preorder f) rest) in
        let (place', text') = sub' g ws _ _ _ f rest place in
        let R = render title spelling d in
        let Q = render title spelling f in
        (place', named r.category (ap (λ m. m.category) h) (R ++ (codes " " ++ (Q ++ codes ")"))) after (four mid R (codes " ") Q (codes ")") first spaced second after text space text' closed))
    shows_binary middle left first spaced second after kind sub space sub' closed g ws A b e (word r at here) rest is =
        absurd (let q : Word ≡ Binary = sym (ap (λ m. m.kind) (head_of is).0) ∙ kind in let z : ◌≡◌ {A = ℕ} 0 1 = cc in omega arith)
    shows_binary middle left first spaced second after kind sub space sub' closed g ws A b e (chain r at d) rest is =
        absurd (let q : Chain ≡ Binary = sym (ap (λ m. m.kind) (head_of is).0) ∙ kind in let z : ◌≡◌ {A = ℕ} 0 1 = cc in omega arith)
