-- What it is to have written a tree of one constituent into the first of a row of nodes.
use Rattle.std.specs.Prelude.{◌≡◌, ℕ, ◌+◌, ◌-◌, ◌*◌, ◌≤◌, List, ◌++◌, length, drop, Some, Option}
use Rattle.derivation.specs.Scale.{Scale}
use Rattle.derivation.specs.Grammar.{Grammar}
use Rattle.derivation.specs.Derivation.{Derivation, cost}
use Rattle.derivation.specs.Table.{Table}
use Rattle.tree.specs.declared.node.Node.{Node}
use Rattle.tree.specs.Preorder.{preorder, Along, Straight}
use Rattle.tree.specs.Ways.{rank}

-- a tree of a over b to e at the table's cost, in the first `count` nodes, and the nodes beyond are as before
pub record Wrote {Cost : Type 0} (s : Scale Cost) (g : Grammar) (ws : List ℕ) (v : Table Cost) (a b e count : ℕ) (before after : List Node) : Type 0 where
  pub tree : Derivation g ws a b e
  pub costs : v a b e ≡ Some (cost s tree)
  pub nodes : after ≡ preorder tree ++ drop count before
  pub all : length (preorder tree) ≡ count
  pub straight : Straight tree

-- the same, where the run of chain rules on top climbs no higher than a's rank
pub record WroteRanked {Cost : Type 0} (s : Scale Cost) (g : Grammar) (ws : List ℕ) (v : Table Cost) (ranks : List (Option ℕ)) (a b e count : ℕ) (before after : List Node) : Type 0 where
  pub wrote : Wrote s g ws v a b e count before after
  pub top : ℕ
  pub ranked : rank ranks a ≡ Some top
  pub short : count ≤ 2 * ((e - b) * g.categories) + top
  pub low : Along (λ X. (r : ℕ) × (rank ranks X ≡ Some r) × (r ≤ top)) wrote.tree
