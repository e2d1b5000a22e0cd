-- The pruning test.
use Rattle.std.specs.Prelude.{ℕ, Bool, true, false, not, Some, None, Option}
use Rattle.derivation.specs.Scale.{Scale}
use Rattle.derivation.specs.Bounds.{Entries}
use Rattle.derivation.specs.Passing.{Admits}

-- whether a ceiling, or none, admits a cost beside an entry
abbrev pub admitted : {Cost : Type 0} → Scale Cost → Option Cost → Option Cost → Cost → Bool
admitted s None entry c = true
admitted s (Some top) None c = false
admitted s (Some top) (Some x) c = not (s.above (s.join c x) top)

-- which costs of which category may stay where so many words stand left and right
abbrev pub Open : {Cost : Type 0} → Scale Cost → Option Cost → Entries Cost → ℕ → ℕ → ℕ → Cost → Type 0
Open s ceiling entry left right A c = Admits s ceiling (entry A left right) c
