-- What a line that is taken adds to a draft: one rule or the top, by the numbers of its names, and nothing else.
use Rattle.std.specs.Prelude.{◌≡◌, ℕ, ◌<◌, List, [], ◌∷◌, ◌++◌, length, take, Some, Ok, Option, slice_index_or}
use Rattle.derivation.specs.declared.rules.WordRule.{WordRule}
use Rattle.derivation.specs.declared.rules.ChainRule.{ChainRule}
use Rattle.derivation.specs.declared.rules.BinaryRule.{BinaryRule}
use Rattle.grammar.specs.Seen.{Seen}
use Rattle.grammar.specs.Adding.{adding_top, adding_lexical, adding_chain, adding_binary}

-- k is the number of a name that is spelled so
pub record Spells (names : List (List ℕ)) (k : ℕ) (name : List ℕ) : Type 0 where
  pub inside : k < length names
  pub is : slice_index_or names k [] ≡ name

-- the draft t has this top and these rules, and its names begin with those of s
pub record Has (s t : Seen) (o : Option ℕ) (ls : List WordRule) (cs : List ChainRule) (bs : List BinaryRule) : Type 0 where
  pub number : t.number ≡ s.number
  pub limit : t.limit ≡ s.limit
  pub top : t.top ≡ o
  pub lexical : t.lexical ≡ ls
  pub chains : t.chains ≡ cs
  pub binaries : t.binaries ≡ bs
  pub categories : take (length s.categories) t.categories ≡ s.categories
  pub words : take (length s.words) t.words ≡ s.words

pub record TopAdded (s : Seen) (a : List ℕ) (t : Seen) : Type 0 where
  pub top : ℕ
  pub has : Has s t (Some top) s.lexical s.chains s.binaries
  pub spells : Spells t.categories top a

pub record LexicalAdded (s : Seen) (weight : ℕ) (a w : List ℕ) (t : Seen) : Type 0 where
  pub rule : WordRule
  pub has : Has s t s.top (s.lexical ++ rule ∷ []) s.chains s.binaries
  pub weighs : rule.weight ≡ weight
  pub category : Spells t.categories rule.category a
  pub word : Spells t.words rule.word w

pub record ChainAdded (s : Seen) (weight : ℕ) (a b : List ℕ) (t : Seen) : Type 0 where
  pub rule : ChainRule
  pub has : Has s t s.top s.lexical (s.chains ++ rule ∷ []) s.binaries
  pub weighs : rule.weight ≡ weight
  pub category : Spells t.categories rule.category a
  pub part : Spells t.categories rule.part b

pub record BinaryAdded (s : Seen) (weight : ℕ) (a b c : List ℕ) (t : Seen) : Type 0 where
  pub rule : BinaryRule
  pub has : Has s t s.top s.lexical s.chains (s.binaries ++ rule ∷ [])
  pub weighs : rule.weight ≡ weight
  pub category : Spells t.categories rule.category a
  pub left : Spells t.categories rule.left b
  pub right : Spells t.categories rule.right c

pub record LinesAddWhatTheySay : Type 0 where
  pub top : (s : Seen) (a : List ℕ) (t : Seen) → adding_top s a ≡ Ok t → TopAdded s a t
  pub lexical : (s : Seen) (weight : ℕ) (a w : List ℕ) (t : Seen) → adding_lexical s weight a w ≡ Ok t → LexicalAdded s weight a w t
  pub chain : (s : Seen) (weight : ℕ) (a b : List ℕ) (t : Seen) → adding_chain s weight a b ≡ Ok t → ChainAdded s weight a b t
  pub binary : (s : Seen) (weight : ℕ) (a b c : List ℕ) (t : Seen) → adding_binary s weight a b c ≡ Ok t → BinaryAdded s weight a b c t
