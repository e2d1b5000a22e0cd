-- The ways to make a constituent at exactly its cost in a table: by a word, by a chain rule above a category of lower rank, or by a binary rule and a split.
use Rattle.std.specs.Prelude.{◌≡◌, ℕ, ◌+◌, ◌-◌, ◌<◌, ◌≤◌, List, length, get_or, Some, None, Option, MatchOption, slice_index, slice_index_or, ◌⊎◌}
use Rattle.derivation.specs.Scale.{Scale}
use Rattle.derivation.specs.Grammar.{Grammar}
use Rattle.derivation.specs.declared.rules.WordRule.{WordRule}
use Rattle.derivation.specs.declared.rules.ChainRule.{ChainRule}
use Rattle.derivation.specs.declared.rules.BinaryRule.{BinaryRule}
use Rattle.derivation.specs.Table.{Table}
use Rattle.tree.specs.declared.ways.Step.{Step}
use Rattle.tree.specs.declared.ways.Step.TheVariants.{Word, Chain, Binary}

-- what a read beyond the rules would give
abbrev pub no_word : WordRule
no_word = record { category = 0; word = 0; weight = 0 }

abbrev pub no_chain : ChainRule
no_chain = record { category = 0; part = 0; weight = 0 }

abbrev pub no_binary : BinaryRule
no_binary = record { category = 0; left = 0; right = 0; weight = 0 }

-- the rank of a, if it has one
abbrev pub rank : List (Option ℕ) → ℕ → Option ℕ
rank ranks a = slice_index_or ranks a None

-- the rule is of the word w, at the cost x
pub record OfWord {Cost : Type 0} (s : Scale Cost) (w : ℕ) (x : Cost) (rule : WordRule) : Type 0 where
  pub word : rule.word ≡ w
  pub costs : s.price rule.weight ≡ x

-- the rule stands above a category over b to e that has a rank below `below`, at the cost x
pub record OfPart {Cost : Type 0} (s : Scale Cost) (v : Table Cost) (ranks : List (Option ℕ)) (below b e : ℕ) (x : Cost) (rule : ChainRule) : Type 0 where
  pub level : ℕ
  pub ranked : rank ranks rule.part ≡ Some level
  pub lower : level < below
  pub part : Cost
  pub has_part : v rule.part b e ≡ Some part
  pub costs : s.join (s.price rule.weight) part ≡ x

-- the rule stands above parts over b to m and m + 1 to e, at the cost x
pub record OfParts {Cost : Type 0} (s : Scale Cost) (v : Table Cost) (b e : ℕ) (x : Cost) (rule : BinaryRule) (m : ℕ) : Type 0 where
  pub first : b ≤ m
  pub last : m < e
  pub left : Cost
  pub has_left : v rule.left b m ≡ Some left
  pub right : Cost
  pub has_right : v rule.right (m + 1) e ≡ Some right
  pub costs : s.join (s.price rule.weight) (s.join left right) ≡ x

-- the rule with the number k makes an a so
abbrev pub ByWord : {Cost : Type 0} → Scale Cost → List WordRule → ℕ → ℕ → Cost → ℕ → Type 0
ByWord s rules w a x k = (k < length rules) × ((get_or rules k no_word).category ≡ a) × OfWord s w x (slice_index_or rules k no_word)

abbrev pub ByChain : {Cost : Type 0} → Scale Cost → Table Cost → List ChainRule → List (Option ℕ) → ℕ → ℕ → ℕ → ℕ → Cost → ℕ → Type 0
ByChain s v rules ranks below b e a x k = (k < length rules) × ((get_or rules k no_chain).category ≡ a) × OfPart s v ranks below b e x (slice_index_or rules k no_chain)

abbrev pub ByBinary : {Cost : Type 0} → Scale Cost → Table Cost → List BinaryRule → ℕ → ℕ → ℕ → Cost → ℕ → ℕ → Type 0
ByBinary s v rules b e a x k m = (k < length rules) × ((get_or rules k no_binary).category ≡ a) × OfParts s v b e x (slice_index_or rules k no_binary) m

-- something of which P holds, or nothing where P holds of nothing
abbrev pub Finds : {X : Type 0} → (X → Type 0) → Option X → Type 0
Finds {X} P r = MatchOption r ((x : X) → P x → ⊥) P

-- the first number of which P holds, or none where P holds of none
abbrev pub FindsFirst : (ℕ → Type 0) → Option ℕ → Type 0
FindsFirst P r = MatchOption r ((k : ℕ) → P k → ⊥) (λ k. P k × ((j : ℕ) → j < k → P j → ⊥))

-- the first pair of a rule and a split that gives the cost, the rules in order and then the splits; or no pair gives it
abbrev pub FirstPair : {Cost : Type 0} → Scale Cost → Table Cost → List BinaryRule → ℕ → ℕ → ℕ → Cost → Option (ℕ × ℕ) → Type 0
FirstPair s v rules b e a x r =
    MatchOption r ((k m : ℕ) → ByBinary s v rules b e a x k m → ⊥)
    (λ p. ByBinary s v rules b e a x p.0 p.1 × ((k m : ℕ) → k < p.0 → ByBinary s v rules b e a x k m → ⊥) × ((m : ℕ) → m < p.1 → ByBinary s v rules b e a x p.0 m → ⊥))

-- the step makes an a over b to e at the cost x
abbrev pub Gives : {Cost : Type 0} → Scale Cost → Grammar → List ℕ → Table Cost → List (Option ℕ) → ℕ → ℕ → ℕ → ℕ → Cost → Step → Type 0
Gives s g ws v ranks below b e a x (Word k) = (b ≡ e) × ByWord s g.lexical (slice_index ws (b - 1)) a x k
Gives s g ws v ranks below b e a x (Chain k) = ByChain s v g.chains ranks below b e a x k
Gives s g ws v ranks below b e a x (Binary k m) = ByBinary s v g.binaries b e a x k m

-- the table has a cost for a over b to e, and the step makes it
pub record Way {Cost : Type 0} (s : Scale Cost) (g : Grammar) (ws : List ℕ) (v : Table Cost) (ranks : List (Option ℕ)) (below b e a : ℕ) (step : Step) : Type 0 where
  pub cost : Cost
  pub held : v a b e ≡ Some cost
  pub gives : Gives s g ws v ranks below b e a cost step

-- which of two steps is asked for first: rules in their order and the splits of a rule in theirs, word rules before binary ones, and chain rules last
abbrev pub Earlier : Step → Step → Type 0
Earlier (Word j) (Word k) = j < k
Earlier (Word j) (Binary k m) = Unit {0}
Earlier (Word j) (Chain k) = Unit {0}
Earlier (Binary j n) (Word k) = ⊥
Earlier (Binary j n) (Binary k m) = (j < k) ⊎ ((j ≡ k) × (n < m))
Earlier (Binary j n) (Chain k) = Unit {0}
Earlier (Chain j) (Word k) = ⊥
Earlier (Chain j) (Binary k m) = ⊥
Earlier (Chain j) (Chain k) = j < k

-- no step before this one is a way
abbrev pub FirstWay : {Cost : Type 0} → Scale Cost → Grammar → List ℕ → Table Cost → List (Option ℕ) → ℕ → ℕ → ℕ → ℕ → Step → Type 0
FirstWay s g ws v ranks below b e a t = (u : Step) → Earlier u t → Way s g ws v ranks below b e a u → ⊥
