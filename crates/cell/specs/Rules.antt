-- Which costs a word's rules offer to a column.
use Rattle.std.specs.Prelude.{◌≡◌, ℕ, List}
use Rattle.derivation.specs.declared.rules.WordRule.{WordRule}
use Rattle.derivation.specs.Scale.{Scale}
use Rattle.settle.specs.Offers.{By}

-- a rule gives A to the word w, at the cost c
pub record Gives {Cost : Type 0} (s : Scale Cost) (w : ℕ) (rule : WordRule) (A : ℕ) (c : Cost) : Type 0 where
  pub word : rule.word ≡ w
  pub makes : rule.category ≡ A
  pub costs : c ≡ s.price rule.weight

-- one of the first j rules does
abbrev pub Leaf : {Cost : Type 0} → Scale Cost → List WordRule → ℕ → ℕ → ℕ → Cost → Type 0
Leaf s rules w j = By rules j (Gives s w)
