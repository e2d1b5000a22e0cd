-- The constituents of the recogniser: the least set closed under word, chain and binary rules; and their Viterbi costs.
use Rattle.std.specs.Prelude.{◌≡◌, ℕ, ◌+◌, Bool, true, List}
use Rattle.derivation.specs.Scale.{Scale, Within}
use Rattle.derivation.specs.Grammar.{Grammar, WordRule, ChainRule, BinaryRule, At}
use Rattle.derivation.specs.Derivation.{Derivation, cost}

-- a set of constituents, by first word, last word and category
abbrev pub Constituents : Type 0
Constituents = ℕ → ℕ → ℕ → Bool

-- whatever a rule makes of the set is in the set
pub record ClosedSet (g : Grammar) (ws : List ℕ) (set : Constituents) : Type 0 where
  pub words : (k i : ℕ) (r : WordRule) → At g.lexical k r → At ws i r.word → set (i + 1) (i + 1) r.category ≡ true
  pub chains : (k b e : ℕ) (r : ChainRule) → At g.chains k r → set b e r.part ≡ true → set b e r.category ≡ true
  pub binaries : (k b m e : ℕ) (r : BinaryRule) → At g.binaries k r → set b m r.left ≡ true → set (m + 1) e r.right ≡ true → set b e r.category ≡ true

-- the set is closed, and lies in every set that is
pub record Recognised (g : Grammar) (ws : List ℕ) (set : Constituents) : Type 0 where
  pub closed : ClosedSet g ws set
  pub least : (other : Constituents) → ClosedSet g ws other → (b e A : ℕ) → set b e A ≡ true → other b e A ≡ true

-- x is the Viterbi cost of A over b to e, products read as joins: the least cost of its derivations
pub record Viterbi {Cost : Type 0} (s : Scale Cost) (g : Grammar) (ws : List ℕ) (A b e : ℕ) (x : Cost) : Type 0 where
  pub tree : Derivation g ws A b e
  pub costs : cost s tree ≡ x
  pub least : (f : Derivation g ws A b e) → Within s x (cost s f)
