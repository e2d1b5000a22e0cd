-- What can be seen of a draft, and what holds of every draft.
use Rattle.std.specs.Prelude.{◌≡◌, ℕ, ◌+◌, ◌≤◌, min, Bool, true, List, [], length, Some, None, Option, nat_lt}
use Rattle.derivation.specs.declared.rules.WordRule.{WordRule}
use Rattle.derivation.specs.declared.rules.ChainRule.{ChainRule}
use Rattle.derivation.specs.declared.rules.BinaryRule.{BinaryRule}
use Rattle.derivation.specs.Named.{NamedWords, NamedChains, NamedBinaries}

pub record Seen : Type 0 where
  -- the grammar's number, and the most categories that it may have
  pub number : ℕ
  pub limit : ℕ
  pub top : Option ℕ
  -- the names, each at the place of its number
  pub categories : List (List ℕ)
  pub words : List (List ℕ)
  pub lexical : List WordRule
  pub chains : List ChainRule
  pub binaries : List BinaryRule

-- how many rules there are, of all three kinds
abbrev pub rules : Seen → ℕ
rules s = length s.lexical + length s.chains + length s.binaries

-- no top, or one that names a category
abbrev pub top_named : Option ℕ → ℕ → Bool
top_named None categories = true
top_named (Some t) categories = nat_lt t categories

-- the limits are kept, and every number names something
pub record Fit (s : Seen) : Type 0 where
  pub most : s.limit ≤ 64
  pub few : length s.categories ≤ s.limit
  pub known : length s.words ≤ 512
  pub count : rules s ≤ 1024
  pub top : top_named s.top (length s.categories) ≡ true
  pub lexical : NamedWords s.lexical (length s.categories) (length s.words)
  pub chains : NamedChains s.chains (length s.categories)
  pub binaries : NamedBinaries s.binaries (length s.categories)

-- a draft with nothing in it: it takes at most `most` categories, and never more than 64
abbrev pub empty : ℕ → ℕ → Seen
empty number most = record { number = number; limit = min most 64; top = None; categories = []; words = []; lexical = []; chains = []; binaries = [] }
