-- A weighted grammar: its rules of each kind, numbered from 0 by their places, and the category of a whole sentence.
use Rattle.std.specs.Prelude.{ℕ, List, vec_items}
pub use Rattle.derivation.specs.declared.rules.WordRule.{WordRule}
pub use Rattle.derivation.specs.declared.rules.ChainRule.{ChainRule}
pub use Rattle.derivation.specs.declared.rules.BinaryRule.{BinaryRule}
pub use Rattle.derivation.specs.Named.{At}
use Rattle.derivation.specs.declared.tables.Rules.{Rules}

pub record Grammar : Type 0 where
  pub top : ℕ
  -- how many categories and how many words there are: each goes by a number below
  pub categories : ℕ
  pub vocabulary : ℕ
  pub lexical : List WordRule
  pub chains : List ChainRule
  pub binaries : List BinaryRule

-- what the code's tables stand for
abbrev pub grammar : Rules → Grammar
grammar r = record { top = r.top; categories = r.categories; vocabulary = r.vocabulary; lexical = vec_items r.lexical; chains = vec_items r.chains; binaries = vec_items r.binaries }
