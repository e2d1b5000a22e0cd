-- The rounds of a request: under the ceilings of a ladder, upward, then one without; and what their last one tells.
use Rattle.std.specs.Prelude.{◌≡◌, ℕ, zero, suc, ◌+◌, ◌<◌, ◌≤◌, true, cond, List, [], ◌∷◌, length, Some, None, Option}
use Rattle.derivation.specs.Scale.{Scale, Lawful, Within}
use Rattle.derivation.specs.Grammar.{Grammar}
use Rattle.derivation.specs.Derivation.{Derivation, cost}
use Rattle.derivation.specs.Bounds.{Entries, Bounds}
use Rattle.derivation.specs.Passing.{Passes}
use Rattle.derivation.specs.Kept.{Kept}

-- the ceiling of the round k, counted from 0: none past the ladder's end
abbrev pub ceiling_at : {Cost : Type 0} → List Cost → ℕ → Option Cost
ceiling_at [] k = None
ceiling_at (t ∷ ladder) zero = Some t
ceiling_at (t ∷ ladder) (suc k) = ceiling_at ladder k

-- each ceiling is above the one before it
pub record Rising {Cost : Type 0} (s : Scale Cost) (ladder : List Cost) : Type 0 where
  pub step : (k : ℕ) (low high : Cost) → ceiling_at ladder k ≡ Some low → ceiling_at ladder (k + 1) ≡ Some high → s.above high low ≡ true

-- how many ceilings a cost is above
abbrev pub passed : {Cost : Type 0} → Scale Cost → Cost → List Cost → ℕ
passed s x [] = 0
passed s x (t ∷ ladder) = cond (s.above x t) 1 0 + passed s x ladder

module _ {Cost : Type 0} (s : Scale Cost) (g : Grammar) (entry : Entries Cost) (ladder : List Cost) (ws : List ℕ) where
  -- no derivation of the words passes in the round k
  abbrev pub Fails : ℕ → Type 0
  Fails k = (d : Derivation g ws g.top 1 (length ws)) → Passes s entry (ceiling_at ladder k) (length ws) d → ⊥

  -- the round k is the first that keeps the top over all words, at the cost x
  pub record Succeeds (k : ℕ) (x : Cost) : Type 0 where
    pub within : k ≤ length ladder
    pub before : (j : ℕ) → j < k → Fails j
    pub kept : Kept s g entry (ceiling_at ladder k) ws g.top 1 (length ws) x

-- a derivation of the words costs x, and none costs less
pub record Least {Cost : Type 0} (s : Scale Cost) (g : Grammar) (ws : List ℕ) (x : Cost) : Type 0 where
  pub tree : Derivation g ws g.top 1 (length ws)
  pub costs : cost s tree ≡ x
  pub least : (f : Derivation g ws g.top 1 (length ws)) → Within s x (cost s f)

-- the cost of the first round that succeeds is the least of all, and its number that of the ceilings below the cost
pub record Settles {Cost : Type 0} (s : Scale Cost) (g : Grammar) (ladder : List Cost) (ws : List ℕ) (k : ℕ) (x : Cost) : Type 0 where
  pub cheapest : (f : Derivation g ws g.top 1 (length ws)) → Within s x (cost s f)
  pub rung : Rising s ladder → k ≡ passed s x ladder

-- at every lawful scale, under every bound that is lawful for the grammar with span enough
abbrev pub FirstSuccessIsCheapest : {Cost : Type 0} → Scale Cost → Type 0
FirstSuccessIsCheapest {Cost} s = Lawful s → (g : Grammar) (span : ℕ) (entry : Entries Cost) → Bounds s g span entry → (ladder : List Cost) (ws : List ℕ) → length ws ≤ span → (k : ℕ) (x : Cost) → Succeeds s g entry ladder ws k x → Settles s g ladder ws k x
