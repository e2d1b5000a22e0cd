-- What the rounds of a ladder leave: those of the last round run.
use Rattle.std.specs.Prelude.{◌≡◌, ℕ, ◌<◌, ◌≤◌, true, false, List, length, Some, None, Option}
use Rattle.derivation.specs.Grammar.{Grammar}
use Rattle.derivation.specs.Scale.{Scale}
use Rattle.derivation.specs.Bounds.{Entries}
use Rattle.derivation.specs.Kept.{KeptNumber}
use Rattle.derivation.specs.Ladder.{ceiling_at, Fails}
use Rattle.chart.specs.Meaning.{Seen}
use Rattle.round.specs.Round.{Round}
use Rattle.search.specs.declared.climb.Last.{Last}

module _ {Cost : Type 0} (s : Scale Cost) (g : Grammar) (entry : Entries Cost) where
  -- a round that keeps the top over all words, and how many constituents it keeps
  pub record Keeps (ceiling : Option Cost) (ws : List ℕ) (before : List Cost) (chart : Seen) (after : List Cost) (kept : ℕ) : Type 0 where
    pub round : Round s g entry ceiling ws before chart after
    pub held : chart.holds 1 (length ws) g.top ≡ true
    pub count : KeptNumber s g entry ceiling ws kept

  -- a round that does not keep the top
  pub record Lacks (ceiling : Option Cost) (ws : List ℕ) (before : List Cost) (chart : Seen) (after : List Cost) : Type 0 where
    pub round : Round s g entry ceiling ws before chart after
    pub lacking : chart.holds 1 (length ws) g.top ≡ false

  abbrev pub Tried : Option Cost → List ℕ → List Cost → Seen → List Cost → Option ℕ → Type 0
  Tried ceiling ws before chart after None = Lacks ceiling ws before chart after
  Tried ceiling ws before chart after (Some kept) = Keeps ceiling ws before chart after kept

  -- the round `rung` keeps the top, and none before it does
  pub record Topped (ladder : List Cost) (ws : List ℕ) (before : List Cost) (chart : Seen) (after : List Cost) (last : Last) : Type 0 where
    pub within : last.rung ≤ length ladder
    pub failed : (j : ℕ) → j < last.rung → Fails s g entry ladder ws j
    pub keeps : Keeps (ceiling_at ladder last.rung) ws before chart after last.kept

  -- the last round run, or none: then the one without a ceiling lacks the top
  abbrev pub Climb : List Cost → List ℕ → List Cost → Seen → List Cost → Option Last → Type 0
  Climb ladder ws before chart after None = Lacks None ws before chart after
  Climb ladder ws before chart after (Some last) = Topped ladder ws before chart after last
