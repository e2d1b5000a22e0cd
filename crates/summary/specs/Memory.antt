-- Where the least costs stand in the memory, row after row, a row being one cost or none for each category.
use Rattle.std.specs.Prelude.{ℕ, zero, suc, ◌+◌, ◌-◌, ◌*◌, ◌/◌, ◌≤◌, cond, List, None, Option, nat_lt}
use Rattle.derivation.specs.Scale.{Scale}
use Rattle.derivation.specs.Grammar.{Grammar}
use Rattle.derivation.specs.Bounds.{Entries}
use Rattle.settle.specs.Offers.{cell}
use Rattle.summary.specs.Least.{Exact}

-- 1 + 2 + .. + n
abbrev pub tri : ℕ → ℕ
tri zero = 0
tri (suc n) = tri n + suc n

-- the row of l words to the left and r to the right: after a row for each length, by growing l + r, then by growing l
abbrev pub place : ℕ → ℕ → ℕ → ℕ
place span l r = span + tri (l + r) + l

-- the row of so many categories that begins at a base, with none past it
abbrev pub view : {Cost : Type 0} → ℕ → List (Option Cost) → ℕ → ℕ → Option Cost
view size cells base A = cond (nat_lt A size) (cell cells (base + A)) None

-- the least costs by length, from 1
abbrev pub inner : {Cost : Type 0} → ℕ → List (Option Cost) → ℕ → ℕ → Option Cost
inner size cells A n = view size cells ((n - 1) * size) A

-- the entries: none beyond the span
abbrev pub outer : {Cost : Type 0} → ℕ → ℕ → List (Option Cost) → Entries Cost
outer size span cells A l r = cond (nat_lt (l + r) span) (view size cells (place span l r * size) A) None

-- how many entries a span takes: a row for each length and one for each pair with l + r below the span
abbrev pub entries_for : ℕ → ℕ → ℕ
entries_for size span = span * (span + 3) / 2 * size

-- the greatest span up to 40 that so many entries have room for
pub record Widest (size room span : ℕ) : Type 0 where
  pub few : span ≤ 40
  pub fits : entries_for size span ≤ room
  pub most : (k : ℕ) → k ≤ 40 → entries_for size k ≤ room → k ≤ span

-- memory that holds the summary of a grammar
abbrev pub Summed : {Cost : Type 0} → Scale Cost → Grammar → ℕ → ℕ → List (Option Cost) → Type 0
Summed s g size span cells = Exact s g span (inner size cells) (outer size span cells)
