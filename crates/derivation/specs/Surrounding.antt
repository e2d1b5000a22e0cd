-- A surrounding of a category: a derivation of the top with one part of that category left out, l words left of the gap and r right of it.
use Rattle.std.specs.Prelude.{ℕ, ◌+◌, ◌-◌, List}
use Rattle.derivation.specs.Grammar.{Grammar, ChainRule, BinaryRule, At}
use Rattle.derivation.specs.Scale.{Scale}
use Rattle.derivation.specs.Derivation.{Derivation, cost}

-- from the root inward; what stands beside the gap is a derivation over any words of the grammar
pub data Surrounding (g : Grammar) : ℕ → ℕ → ℕ → Type 0 where
  whole : Surrounding g g.top 0 0
  chain : {k l r : ℕ} (c : ChainRule) → At g.chains k c → Surrounding g c.category l r → Surrounding g c.part l r
  left : {k l r b e : ℕ} {vs : List ℕ} (c : BinaryRule) → At g.binaries k c → Surrounding g c.category l r → Derivation g vs c.right b e → Surrounding g c.left l (r + (e + 1 - b))
  right : {k l r b e : ℕ} {vs : List ℕ} (c : BinaryRule) → At g.binaries k c → Surrounding g c.category l r → Derivation g vs c.left b e → Surrounding g c.right (l + (e + 1 - b)) r

-- the costs of the rules outside the gap, joined
abbrev pub rest : {Cost : Type 0} (s : Scale Cost) {g : Grammar} {A l r : ℕ} → Surrounding g A l r → Cost
rest s whole = s.neutral
rest s (chain c at around) = s.join (s.price c.weight) (rest s around)
rest s (left c at around beside) = s.join (s.price c.weight) (s.join (rest s around) (cost s beside))
rest s (right c at around beside) = s.join (s.price c.weight) (s.join (rest s around) (cost s beside))
