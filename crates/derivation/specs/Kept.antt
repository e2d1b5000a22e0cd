-- What a round keeps.
use Rattle.std.specs.Prelude.{◌≡◌, ℕ, ◌+◌, ◌<◌, Bool, cond, ◌&&◌, List, [], ◌∷◌, length, Option, ◌==◌}
use Rattle.derivation.specs.Scale.{Scale, Within}
use Rattle.derivation.specs.Grammar.{Grammar}
use Rattle.derivation.specs.Derivation.{Derivation, cost}
use Rattle.derivation.specs.Bounds.{Entries}
use Rattle.derivation.specs.Passing.{Passes}

-- the constituent A over b to e is kept at the cost x: a derivation of it that passes has this cost, and none that passes has less
pub record Kept {Cost : Type 0} (s : Scale Cost) (g : Grammar) (entry : Entries Cost) (ceiling : Option Cost) (ws : List ℕ) (A b e : ℕ) (x : Cost) : Type 0 where
  pub tree : Derivation g ws A b e
  pub costs : cost s tree ≡ x
  pub passes : Passes s entry ceiling (length ws) tree
  pub least : (f : Derivation g ws A b e) → Passes s entry ceiling (length ws) f → Within s x (cost s f)

-- a category over the words b to e
pub record Constituent : Type 0 where
  pub category : ℕ
  pub begin : ℕ
  pub end : ℕ

abbrev pub equal : Constituent → Constituent → Bool
equal c x = c.category == x.category && (c.begin == x.begin && c.end == x.end)

-- how often a constituent stands in a list
abbrev pub occurs : Constituent → List Constituent → ℕ
occurs c [] = 0
occurs c (x ∷ xs) = cond (equal c x) 1 0 + occurs c xs

-- k is the kept number of a round: the length of a list in which each kept constituent stands once, and nothing else
pub record KeptNumber {Cost : Type 0} (s : Scale Cost) (g : Grammar) (entry : Entries Cost) (ceiling : Option Cost) (ws : List ℕ) (k : ℕ) : Type 0 where
  pub all : List Constituent
  pub count : k ≡ length all
  pub each : (A b e : ℕ) (d : Derivation g ws A b e) → Passes s entry ceiling (length ws) d → occurs (record { category = A; begin = b; end = e }) all ≡ 1
  pub only : (A b e : ℕ) → 0 < occurs (record { category = A; begin = b; end = e }) all → (d : Derivation g ws A b e) × Passes s entry ceiling (length ws) d
