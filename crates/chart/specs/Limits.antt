-- The limits of every chart, and what it is to have as much room as the memory at hand gives.
use Rattle.std.specs.Prelude.{ℕ, ◌≤◌}

-- the most words that any chart takes
abbrev pub most_words : ℕ
most_words = 40

-- the most categories that any chart is started with
abbrev pub most_categories : ℕ
most_categories = 64

-- r is the greatest number of words, up to the most, whose need is met by what is at hand
pub record Greatest (needed : ℕ → ℕ) (at-hand r : ℕ) : Type 0 where
  pub few : r ≤ most_words
  pub fits : needed r ≤ at-hand
  pub greatest : (n : ℕ) → n ≤ most_words → needed n ≤ at-hand → n ≤ r
