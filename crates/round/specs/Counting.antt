-- How many constituents a chart holds, cell by cell.
use Rattle.std.specs.Prelude.{ℕ, zero, suc, ◌+◌, ◌-◌, cond}
use Rattle.chart.specs.Meaning.{Holds}

-- how many of the first j categories are held over b to e
abbrev pub tally : Holds → ℕ → ℕ → ℕ → ℕ
tally h b e zero = 0
tally h b e (suc j) = tally h b e j + cond (h b e j) 1 0

-- how many constituents are held over the k shortest stretches that end at e
abbrev pub ending : Holds → ℕ → ℕ → ℕ → ℕ
ending h kinds e zero = 0
ending h kinds e (suc k) = ending h kinds e k + tally h (e - k) e kinds

-- how many constituents are held over the first e words
abbrev pub number : Holds → ℕ → ℕ → ℕ
number h kinds zero = 0
number h kinds (suc e) = number h kinds e + ending h kinds (suc e) (suc e)
