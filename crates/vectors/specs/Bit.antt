-- A binary digit of a number.
use Rattle.std.specs.Prelude.{ℕ, ◌/◌, ◌%◌, ◌^◌, Bool, ◌==◌}

-- whether bit k of n is set, counted from 0 at the lowest
unfoldable pub bit : ℕ → ℕ → Bool
bit k n = n / 2 ^ k % 2 == 1
