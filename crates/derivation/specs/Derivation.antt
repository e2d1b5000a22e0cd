-- The derivations of a category over the words b to e of ws, counted from 1, and what each costs.
use Rattle.std.specs.Prelude.{ℕ, ◌+◌, List}
use Rattle.derivation.specs.Grammar.{Grammar, WordRule, ChainRule, BinaryRule, At}
use Rattle.derivation.specs.Scale.{Scale}

-- a word rule over its word; or a chain rule above a derivation of its part; or a binary rule above derivations of its parts, side by side
pub data Derivation (g : Grammar) (ws : List ℕ) : ℕ → ℕ → ℕ → Type 0 where
  word : {k i : ℕ} (r : WordRule) → At g.lexical k r → At ws i r.word → Derivation g ws r.category (i + 1) (i + 1)
  chain : {k b e : ℕ} (r : ChainRule) → At g.chains k r → Derivation g ws r.part b e → Derivation g ws r.category b e
  binary : {k b m e : ℕ} (r : BinaryRule) → At g.binaries k r → Derivation g ws r.left b m → Derivation g ws r.right (m + 1) e → Derivation g ws r.category b e

-- the costs of all its rules' weights, joined
abbrev pub cost : {Cost : Type 0} (s : Scale Cost) {g : Grammar} {ws : List ℕ} {A b e : ℕ} → Derivation g ws A b e → Cost
cost s (word r at here) = s.price r.weight
cost s (chain r at d) = s.join (s.price r.weight) (cost s d)
cost s (binary r at d f) = s.join (s.price r.weight) (s.join (cost s d) (cost s f))
