-- What a row of vectors holds as a chart: each constituent twice, once by its start and once by its end.
use Rattle.std.specs.Prelude.{◌≡◌, ℕ, ◌+◌, ◌-◌, ◌*◌, ◌<◌, ◌≤◌, List, slice_index}
use Rattle.chart.specs.Limits.{most_categories}
use Rattle.chart.specs.Meaning.{Holds, limited}
use Rattle.vectors.specs.Bit.{bit}

-- how many vectors n words take: two for each word and category
abbrev pub vectors_for : ℕ → ℕ
vectors_for n = 2 * most_categories * n

-- the vector of a row and a category; rows are counted from 1, and a chart of n words has 2 × n of them
abbrev pub vector : ℕ → ℕ → ℕ
vector row a = (row - 1) * most_categories + a

-- whether (b, e, a) is marked by its start: bit e of row b
abbrev pub by_start : List ℕ → Holds
by_start vectors b e a = bit e (slice_index vectors (vector b a))

-- whether it is marked by its end, in a chart of n words: bit b of row n + e
abbrev pub by_end : List ℕ → ℕ → Holds
by_end vectors n b e a = bit b (slice_index vectors (vector (n + e) a))

-- what the vectors hold in a chart of n words and g categories
abbrev pub held : List ℕ → ℕ → ℕ → Holds
held vectors n g = limited n g (by_start vectors)

-- a bit of a row: whose word it is, which bit, and of which category
pub record Spot (n g : ℕ) : Type 0 where
  pub word : ℕ
  pub other : ℕ
  pub kind : ℕ
  pub first : 1 ≤ word
  pub last : word ≤ n
  pub known : kind < g

-- the marks by start are those of the constituents held, and no others
abbrev pub Starts : List ℕ → ℕ → ℕ → Type 0
Starts vectors n g = (s : Spot n g) → by_start vectors s.word s.other s.kind ≡ held vectors n g s.word s.other s.kind

-- and so are the marks by end
abbrev pub Ends : List ℕ → ℕ → ℕ → Type 0
Ends vectors n g = (s : Spot n g) → by_end vectors n s.other s.word s.kind ≡ held vectors n g s.other s.word s.kind
