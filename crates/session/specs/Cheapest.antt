-- The promise that the engine exists for: a tree that is handed out is a cheapest one, and none is refused as underivable that has a derivation.
use Rattle.std.specs.Prelude.{◌≡◌, ℕ, ◌+◌, ◌-◌, ◌*◌, ◌/◌, ◌≤◌, ◌⊎◌, List, length, take, Ok, Err, Result}
use Rattle.refusals.specs.declared.Refusal.{Refusal}
use Rattle.refusals.specs.declared.Refusal.TheVariants.{NoDerivation}
use Rattle.derivation.specs.Scale.{Scale, Within}
use Rattle.derivation.specs.Grammar.{Grammar}
use Rattle.derivation.specs.Derivation.{Derivation, cost}
use Rattle.derivation.specs.Bounds.{Entries}
use Rattle.derivation.specs.Kept.{KeptNumber}
use Rattle.derivation.specs.Ladder.{ceiling_at, Rising, passed}
use Rattle.tree.specs.declared.node.Node.{Node}
use Rattle.tree.specs.Preorder.{preorder, Straight}
use Rattle.search.specs.declared.best.Tree.{Tree}
use Rattle.session.specs.declared.sizes.Sizes.{Sizes}

-- a derivation of the words
abbrev pub Whole : Grammar → List ℕ → Type 0
Whole g ws = Derivation g ws g.top 1 (length ws)

-- words are held, the ladder is strictly rising and has at most 16 ceilings, and chart, span and memory are enough
pub record Able {Cost : Type 0} (s : Scale Cost) (g : Grammar) (ladder : List Cost) (ws : List ℕ) (z : Sizes) : Type 0 where
  pub some : 1 ≤ length ws
  pub few : length ladder ≤ 16
  pub rising : Rising s ladder
  pub room : length ws ≤ z.room
  pub span : length ws ≤ z.span
  pub costs : length ws * (length ws + 1) / 2 * g.categories ≤ z.costs
  pub nodes : (2 * length ws - 1) * g.categories ≤ z.nodes

module _ {Cost : Type 0} (s : Scale Cost) (g : Grammar) (entry : Entries Cost) (ladder : List Cost) (ws : List ℕ) where
  -- the tree is the preorder of a derivation of the words, at its cost, with no category twice in a run of chain rules, and no derivation costs less
  pub record Handed (nodes : List Node) (tree : Tree Cost) : Type 0 where
    pub derivation : Whole g ws
    pub written : take tree.nodes nodes ≡ preorder derivation
    pub costs : cost s derivation ≡ tree.cost
    pub once : Straight derivation
    pub cheapest : (f : Whole g ws) → Within s tree.cost (cost s f)
    -- the rung is the number of ceilings below the cost, and the kept number that of the round at that rung
    pub rung : tree.rung ≡ passed s tree.cost ladder
    pub kept : KeptNumber s g entry (ceiling_at ladder tree.rung) ws tree.kept

  pub record Cheapest (z : Sizes) (nodes : List Node) (answer : Result (Tree Cost) Refusal) : Type 0 where
    -- a tree that is handed out is a cheapest one
    pub tree : (t : Tree Cost) → answer ≡ Ok t → Handed nodes t
    -- refused as underivable: there is no derivation
    pub none : answer ≡ Err NoDerivation → Whole g ws → ⊥
    -- and where nothing else is in the way, one of the two comes
    pub sure : Able s g ladder ws z → ((t : Tree Cost) × (answer ≡ Ok t)) ⊎ (answer ≡ Err NoDerivation)
