-- What a row of bytes holds as a chart: one byte for each constituent, 1 where it is held.
use Rattle.std.specs.Prelude.{ℕ, ◌+◌, ◌*◌, ◌/◌, List, ◌==◌, slice_index}
use Rattle.chart.specs.Limits.{most_categories}
use Rattle.chart.specs.Meaning.{Holds, limited}
use Rattle.chart.specs.Triangle.{cell}

-- how many bytes n words take: one for each cell and category
abbrev pub bytes_for : ℕ → ℕ
bytes_for n = n * (n + 1) / 2 * most_categories

-- the byte of a constituent
abbrev pub place : ℕ → ℕ → ℕ → ℕ
place b e a = cell b e * most_categories + a

-- the constituents whose byte is 1
abbrev pub marked : List ℕ → Holds
marked bytes b e a = slice_index bytes (place b e a) == 1

-- what the bytes hold in a chart of n words and g categories
abbrev pub held : List ℕ → ℕ → ℕ → Holds
held bytes n g = limited n g (marked bytes)
