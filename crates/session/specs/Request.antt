-- What a tree request answers and leaves.
use Rattle.std.specs.Prelude.{◌≡◌, ℕ, ◌+◌, ◌-◌, ◌*◌, ◌/◌, Bool, true, cond, ◌&&◌, List, [], ◌∷◌, length, Some, None, Ok, Err, Option, Result, ◌==◌, nat_le}
use Rattle.refusals.specs.declared.Refusal.{Refusal}
use Rattle.refusals.specs.declared.Refusal.TheVariants.{OtherGrammar, NoWords, WrongLadder, TooSmall, NoDerivation}
use Rattle.derivation.specs.Scale.{Scale}
use Rattle.derivation.specs.Bounds.{Entries}
use Rattle.chart.specs.Meaning.{Seen as Chart}
use Rattle.tree.specs.declared.node.Node.{Node}
use Rattle.search.specs.declared.best.Tree.{Tree}
use Rattle.search.specs.Best.{Found, Nothing}
use Rattle.session.specs.declared.sizes.Sizes.{Sizes}
use Rattle.session.specs.State.{State, Over}
use Rattle.session.specs.Calls.{fits, counted}

-- whether each ceiling is above the one before it
abbrev pub rises : {Cost : Type 0} → Scale Cost → List Cost → Bool
rises s [] = true
rises s (low ∷ []) = true
rises s (low ∷ high ∷ ladder) = s.above high low && rises s (high ∷ ladder)

-- enough for n words and g categories
abbrev pub enough : ℕ → ℕ → Sizes → Bool
enough n g z = (nat_le n z.room && nat_le n z.span) && (nat_le (n * (n + 1) / 2 * g) z.costs && nat_le ((2 * n - 1) * g) z.nodes)

-- why a request is refused before any search, the first cause in the order of the refusals
abbrev pub declined : {Cost : Type 0} → Scale Cost → Over → State → List Cost → Sizes → Option Refusal
declined s o t ladder z =
    cond (fits o t)
    (cond (length t.held == 0) (Some NoWords)
    (cond (nat_le (length ladder) 16 && rises s ladder)
    (cond (enough (length t.held) o.grammar.categories z) None (Some TooSmall))
    (Some WrongLadder)))
    (Some OtherGrammar)

-- all that a request may alter
pub record Memory (Cost : Type 0) : Type 0 where
  pub session : State
  pub chart : Chart
  pub costs : List Cost
  pub nodes : List Node

module _ {Cost : Type 0} (s : Scale Cost) (o : Over) (entry : Entries Cost) (ladder : List Cost) (before after : Memory Cost) where
  -- a tree is handed out and counted: chart and costs show the last round, the first nodes the tree
  pub record Given (tree : Tree Cost) : Type 0 where
    pub counts : after.session ≡ counted before.session
    pub found : Found s o.grammar entry ladder before.session.held before.costs after.chart after.costs before.nodes after.nodes tree

  -- no derivation: chart and costs show the last round
  pub record Underivable : Type 0 where
    pub same : after.session ≡ before.session
    pub nothing : Nothing s o.grammar entry ladder before.session.held before.costs after.chart after.costs before.nodes after.nodes

  abbrev pub Searched : Result (Tree Cost) Refusal → Type 0
  Searched (Ok tree) = Given tree
  Searched (Err r) = (r ≡ NoDerivation) × Underivable

  -- refused with everything as it was, or searched
  abbrev pub Asked : Option Refusal → Result (Tree Cost) Refusal → Type 0
  Asked (Some r) answer = (answer ≡ Err r) × (after ≡ before)
  Asked None answer = Searched answer
