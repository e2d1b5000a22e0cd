-- What a table of costs has to satisfy, rule by rule, to hold the least cost of what passes.
use Rattle.std.specs.Prelude.{◌≡◌, ℕ, ◌+◌, ◌-◌, ◌<◌, ◌≤◌, List, length, Some, Option}
use Rattle.derivation.specs.Scale.{Scale, Within}
use Rattle.derivation.specs.Grammar.{Grammar, WordRule, ChainRule, BinaryRule, At}
use Rattle.derivation.specs.Derivation.{Derivation, cost}
use Rattle.derivation.specs.Bounds.{Entries, Filled}
use Rattle.derivation.specs.Passing.{Admits, Passes}

-- for each category A and words b to e: a cost, or none
abbrev pub Table : Type 0 → Type 0
Table Cost = ℕ → ℕ → ℕ → Option Cost

module _ {Cost : Type 0} (s : Scale Cost) (g : Grammar) (entry : Entries Cost) (ceiling : Option Cost) (ws : List ℕ) (v : Table Cost) where
  -- a cost c of A over b to e that is admitted is not below the table's
  abbrev pub Takes : ℕ → ℕ → ℕ → Cost → Type 0
  Takes A b e c = Admits s ceiling (entry A (b - 1) (length ws - e)) c → Filled (v A b e) (λ x. Within s x c)

  -- the table takes what each rule makes over b to e
  pub record ClosedAt (b e : ℕ) : Type 0 where
    pub words : (k i : ℕ) (r : WordRule) → At g.lexical k r → At ws i r.word → b ≡ i + 1 → e ≡ i + 1 → Takes r.category b e (s.price r.weight)
    pub chains : (k : ℕ) (r : ChainRule) (x : Cost) → At g.chains k r → v r.part b e ≡ Some x → Takes r.category b e (s.join (s.price r.weight) x)
    pub binaries : (k m : ℕ) (r : BinaryRule) (x y : Cost) → At g.binaries k r → b ≤ m → m < e → v r.left b m ≡ Some x → v r.right (m + 1) e ≡ Some y → Takes r.category b e (s.join (s.price r.weight) (s.join x y))

  pub record Closed : Type 0 where
    pub at : (b e : ℕ) → 1 ≤ b → b ≤ e → e ≤ length ws → ClosedAt b e

  -- each cost of the table is that of a derivation that passes
  pub record Reached : Type 0 where
    pub by : (A b e : ℕ) (x : Cost) → v A b e ≡ Some x → (d : Derivation g ws A b e) × (cost s d ≡ x) × Passes s entry ceiling (length ws) d
