-- Pruning loses nothing: what a round with a ceiling may rest on.
use Rattle.std.specs.Prelude.{ℕ, ◌≤◌, List, length, Some}
use Rattle.derivation.specs.Scale.{Scale, Lawful, Within}
use Rattle.derivation.specs.Grammar.{Grammar}
use Rattle.derivation.specs.Derivation.{Derivation, cost}
use Rattle.derivation.specs.Bounds.{Entries, Bounds}
use Rattle.derivation.specs.Passing.{Passes}

pub record Prunes {Cost : Type 0} (s : Scale Cost) (g : Grammar) (entry : Entries Cost) (ceiling : Cost) (ws : List ℕ) : Type 0 where
  -- a derivation of all the words that is not above the ceiling passes
  pub kept : (d : Derivation g ws g.top 1 (length ws)) → Within s (cost s d) ceiling → Passes s entry (Some ceiling) (length ws) d
  -- and one that passes is not above the ceiling
  pub only : (d : Derivation g ws g.top 1 (length ws)) → Passes s entry (Some ceiling) (length ws) d → Within s (cost s d) ceiling
  -- so the least of those that pass is the least of all
  pub least : (d : Derivation g ws g.top 1 (length ws)) → Passes s entry (Some ceiling) (length ws) d → ((f : Derivation g ws g.top 1 (length ws)) → Passes s entry (Some ceiling) (length ws) f → Within s (cost s d) (cost s f)) → (f : Derivation g ws g.top 1 (length ws)) → Within s (cost s d) (cost s f)

-- at every lawful scale, under every bound that is lawful for the grammar with span enough
abbrev pub PruningLosesNothing : {Cost : Type 0} → Scale Cost → Type 0
PruningLosesNothing {Cost} s = Lawful s → (g : Grammar) (span : ℕ) (entry : Entries Cost) → Bounds s g span entry → (ceiling : Cost) (ws : List ℕ) → length ws ≤ span → Prunes s g entry ceiling ws
