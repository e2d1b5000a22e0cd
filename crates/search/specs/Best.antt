-- What a search leaves: the last round run, and the nodes of a tree at the kept cost.
use Rattle.std.specs.Prelude.{◌≡◌, ℕ, List, length, Some, None, Option}
use Rattle.derivation.specs.Grammar.{Grammar}
use Rattle.derivation.specs.Scale.{Scale}
use Rattle.derivation.specs.Bounds.{Entries}
use Rattle.chart.specs.Meaning.{Seen}
use Rattle.table.specs.Memory.{view}
use Rattle.tree.specs.declared.node.Node.{Node}
use Rattle.tree.specs.Extracted.{Extracted}
use Rattle.search.specs.Climb.{Lacks, Topped}
use Rattle.search.specs.declared.best.Tree.{Tree}

module _ {Cost : Type 0} (s : Scale Cost) (g : Grammar) (entry : Entries Cost) (ladder : List Cost) (ws : List ℕ) (before : List Cost) (chart : Seen) (after : List Cost) (nodes nodes' : List Node) where
  pub record Found (tree : Tree Cost) : Type 0 where
    pub topped : Topped s g entry ladder ws before chart after (record { rung = tree.rung; kept = tree.kept })
    pub costs : view s.neutral g.categories chart after g.top 1 (length ws) ≡ Some tree.cost
    pub extracted : Extracted s g ws (view s.neutral g.categories chart after) tree.nodes nodes nodes'

  -- no round keeps the top, and no node is written
  pub record Nothing : Type 0 where
    pub lacks : Lacks s g entry None ws before chart after
    pub same : nodes' ≡ nodes

  abbrev pub Best : Option (Tree Cost) → Type 0
  Best None = Nothing
  Best (Some tree) = Found tree
