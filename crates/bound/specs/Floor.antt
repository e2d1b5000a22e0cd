-- The entries of the floor bound.
use Rattle.std.specs.Prelude.{ℕ, ◌+◌, cond, Some, None, Option, nat_lt}
use Rattle.derivation.specs.Scale.{Scale}

-- the neutral cost wherever fewer than 40 words stand around
abbrev pub floor_entry : {Cost : Type 0} → Scale Cost → ℕ → ℕ → Option Cost
floor_entry s left right = cond (nat_lt (left + right) 40) (Some s.neutral) None
