-- What the making of a summary leaves as it was.
use Rattle.std.specs.Prelude.{◌≡◌, ℕ, ◌≤◌, length}
use Rattle.settle.specs.Offers.{cell}
use Rattle.summary.specs.declared.Summary.{Summary}
use Rattle.summary.specs.Memory.{entries_for}

-- the memory is the same one, is divided into rows as before, and is the same past the rows
pub record Kept {Cost : Type 0} (before after : Summary Cost) : Type 0 where
  pub categories : after.categories ≡ before.categories
  pub span : after.span ≡ before.span
  pub lent : after.memory.ghost_name ≡ before.memory.ghost_name
  pub long : length after.memory.now ≡ length before.memory.now
  pub past : (k : ℕ) → entries_for before.categories before.span ≤ k → cell after.memory.now k ≡ cell before.memory.now k
