-- A derivation as a list of nodes: a parent before its left part, and that before its right part.
use Rattle.std.specs.Prelude.{ℕ, ◌+◌, List, [], ◌∷◌, ◌++◌, ◌≢◌}
use Rattle.derivation.specs.Grammar.{Grammar}
use Rattle.derivation.specs.Derivation.{Derivation, word, chain, binary}
use Rattle.tree.specs.declared.node.Node.{Node}
use Rattle.tree.specs.declared.node.Kind.{Kind}
use Rattle.tree.specs.declared.node.Kind.TheVariants.{Word, Chain, Binary}

-- the constituent (b, e, a), made by the rule with the number k among those of its kind
abbrev pub node : ℕ → ℕ → ℕ → Kind → ℕ → Node
node a b e kind k = record { category = a; begin = b; end = e; kind = kind; rule = k }

abbrev pub preorder : {g : Grammar} {ws : List ℕ} {A b e : ℕ} → Derivation g ws A b e → List Node
preorder (word {k = k} {i = i} r at here) = node r.category (i + 1) (i + 1) Word k ∷ []
preorder {b = b} {e = e} (chain {k = k} r at d) = node r.category b e Chain k ∷ preorder d
preorder {b = b} {e = e} (binary {k = k} r at d f) = node r.category b e Binary k ∷ (preorder d ++ preorder f)

-- P holds of each category of the run of chain rules on top, the last one too
abbrev pub Along : (ℕ → Type 0) → {g : Grammar} {ws : List ℕ} {A b e : ℕ} → Derivation g ws A b e → Type 0
Along P (word r at here) = P r.category
Along P (chain r at d) = P r.category × Along P d
Along P (binary r at d f) = P r.category

-- no category stands twice in one run of chain rules
abbrev pub Straight : {g : Grammar} {ws : List ℕ} {A b e : ℕ} → Derivation g ws A b e → Type 0
Straight (word r at here) = Unit {0}
Straight (chain r at d) = Along (λ X. r.category ≢ X) d × Straight d
Straight (binary r at d f) = Straight d × Straight f
