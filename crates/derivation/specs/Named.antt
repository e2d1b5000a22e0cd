-- Rules whose numbers name something: a category below the number of categories, a word below the number of words.
use Rattle.std.specs.Prelude.{◌≡◌, ℕ, ◌<◌, List, length, slice_index_or}
use Rattle.derivation.specs.declared.rules.WordRule.{WordRule}
use Rattle.derivation.specs.declared.rules.ChainRule.{ChainRule}
use Rattle.derivation.specs.declared.rules.BinaryRule.{BinaryRule}

-- x stands in xs, at the place k
pub record At {X : Type 0} (xs : List X) (k : ℕ) (x : X) : Type 0 where
  pub inside : k < length xs
  pub is : slice_index_or xs k x ≡ x

abbrev pub NamedWords : List WordRule → ℕ → ℕ → Type 0
NamedWords rules categories vocabulary = (k : ℕ) (r : WordRule) → At rules k r → (r.category < categories) × (r.word < vocabulary)

abbrev pub NamedChains : List ChainRule → ℕ → Type 0
NamedChains rules categories = (k : ℕ) (r : ChainRule) → At rules k r → (r.category < categories) × (r.part < categories)

abbrev pub NamedBinaries : List BinaryRule → ℕ → Type 0
NamedBinaries rules categories = (k : ℕ) (r : BinaryRule) → At rules k r → (r.category < categories) × (r.left < categories) × (r.right < categories)
