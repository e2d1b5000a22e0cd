-- The cells of a triangle, column after column: column e has the cells of the words b to e, for each b from 1 to e.
use Rattle.std.specs.Prelude.{ℕ, zero, suc, ◌+◌, ◌-◌}

-- how many cells the first n columns have: 1 + 2 + .. + n
unfoldable pub tri : ℕ → ℕ
tri zero = 0
tri (suc n) = tri n + suc n

-- the number of the cell of the words b to e, both counted from 1
abbrev pub cell : ℕ → ℕ → ℕ
cell b e = tri (e - 1) + (b - 1)
