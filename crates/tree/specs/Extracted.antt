-- A finished round, and a cheapest tree taken out of it.
use Rattle.std.specs.Prelude.{◌≡◌, ℕ, ◌-◌, ◌*◌, ◌≤◌, List, length, take, drop, Some, Option}
use Rattle.derivation.specs.Scale.{Scale}
use Rattle.derivation.specs.Grammar.{Grammar}
use Rattle.derivation.specs.Derivation.{Derivation, cost}
use Rattle.derivation.specs.Bounds.{Entries}
use Rattle.derivation.specs.Table.{Table, Closed, Reached}
use Rattle.tree.specs.declared.node.Node.{Node}
use Rattle.tree.specs.Preorder.{preorder, Straight}

-- what a round leaves, with its bound's entries and its ceiling: each cost is that of a derivation that passes, and no rule makes less
pub record Finished {Cost : Type 0} (s : Scale Cost) (g : Grammar) (ws : List ℕ) (v : Table Cost) : Type 0 where
  pub entry : Entries Cost
  pub ceiling : Option Cost
  pub closed : Closed s g entry ceiling ws v
  pub reached : Reached s g entry ceiling ws v

-- the first `count` nodes are those of a derivation of all the words at the table's cost, and the nodes beyond are as before
pub record Extracted {Cost : Type 0} (s : Scale Cost) (g : Grammar) (ws : List ℕ) (v : Table Cost) (count : ℕ) (before after : List Node) : Type 0 where
  pub tree : Derivation g ws g.top 1 (length ws)
  pub costs : v g.top 1 (length ws) ≡ Some (cost s tree)
  pub straight : Straight tree
  pub nodes : take count after ≡ preorder tree
  pub beyond : drop count after ≡ drop count before
  pub few : count ≤ (2 * length ws - 1) * g.categories
