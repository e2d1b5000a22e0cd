-- A derivation as bracketed text: a node is its category and its parts.
use Rattle.std.specs.Prelude.{◌≡◌, ℕ, ◌+◌, List, ◌++◌, codes}
use Rattle.derivation.specs.Grammar.{Grammar}
use Rattle.derivation.specs.Derivation.{Derivation, word, chain, binary}
use Rattle.tree.specs.declared.node.Node.{Node}
use Rattle.tree.specs.Preorder.{preorder}

-- by the names of the categories, and the spelling of the word at each place from 1 on
abbrev pub render : (ℕ → List ℕ) → (ℕ → List ℕ) → {g : Grammar} {ws : List ℕ} {A b e : ℕ} → Derivation g ws A b e → List ℕ
render title spelling (word {i = i} r at here) = codes "(" ++ (title r.category ++ (codes " " ++ (spelling (i + 1) ++ codes ")")))
render title spelling (chain r at d) = codes "(" ++ (title r.category ++ (codes " " ++ (render title spelling d ++ codes ")")))
render title spelling (binary r at d f) = codes "(" ++ (title r.category ++ (codes " " ++ (render title spelling d ++ (codes " " ++ (render title spelling f ++ codes ")")))))

-- if the nodes begin with those of a derivation, its text was added, and the others are left
abbrev pub Shows : (ℕ → List ℕ) → (ℕ → List ℕ) → List Node → List Node → List ℕ → List ℕ → Type 0
Shows title spelling nodes left before after =
    (g : Grammar) (ws : List ℕ) (A b e : ℕ) (d : Derivation g ws A b e) (rest : List Node) → nodes ≡ preorder d ++ rest
    → (left ≡ rest) × (after ≡ before ++ render title spelling d)
