-- The two scales that ship, which differ in how costs join.
use Rattle.std.specs.Prelude.{ℕ, ◌+◌, min, max, nat_lt}
use Rattle.derivation.specs.Scale.{Scale}

-- costs that are numbers: the neutral cost is 0, costs compare as numbers, and a weight costs itself
abbrev pub numbers : (ℕ → ℕ → ℕ) → Scale ℕ
numbers join = record { neutral = 0; join = join; above = λ a b. nat_lt b a; price = λ w. w }

-- the sum, cut at the largest number of 32 bits; a number above it, which no 32 bits hold, is cut at itself, so that the laws hold of all numbers
abbrev pub capped : ℕ → ℕ → ℕ
capped a b = min (a + b) (max 4294967295 (max a b))

abbrev pub sums : Scale ℕ
sums = numbers capped

abbrev pub worsts : Scale ℕ
worsts = numbers max
