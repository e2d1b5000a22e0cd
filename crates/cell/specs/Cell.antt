-- One cell of the table: what the rules make over one stretch of words.
use Rattle.std.specs.Prelude.{◌≡◌, ℕ, ◌+◌, ◌-◌, ◌<◌, ◌≤◌, List, length, Some, None, Option, ◌≢◌, slice_index}
use Rattle.derivation.specs.declared.rules.WordRule.{WordRule}
use Rattle.derivation.specs.declared.rules.ChainRule.{ChainRule}
use Rattle.derivation.specs.declared.rules.BinaryRule.{BinaryRule}
use Rattle.derivation.specs.Named.{At}
use Rattle.derivation.specs.Grammar.{Grammar}
use Rattle.derivation.specs.Scale.{Scale}
use Rattle.derivation.specs.Bounds.{Entries}
use Rattle.derivation.specs.Table.{Table, ClosedAt}
use Rattle.bound.specs.Gate.{Open}
use Rattle.settle.specs.Offers.{By, joined}
use Rattle.cell.specs.Rules.{Leaf}

-- a rule gives A to the one word from b to e
pub record Single {Cost : Type 0} (s : Scale Cost) (rules : List WordRule) (ws : List ℕ) (b e A : ℕ) (c : Cost) : Type 0 where
  pub alone : b ≡ e
  pub leaf : Leaf s rules (slice_index ws (b - 1)) (length rules) A c

-- a rule gives A to b to e, at a split below k, at the cost c
pub record Meet {Cost : Type 0} (s : Scale Cost) (rule : BinaryRule) (v : Table Cost) (b e k A : ℕ) (c : Cost) : Type 0 where
  pub middle : ℕ
  pub low : b ≤ middle
  pub high : middle < k
  pub makes : rule.category ≡ A
  pub costs : joined s rule.weight (v rule.left b middle) (v rule.right (middle + 1) e) ≡ Some c

-- one of the first j rules gives A to b to e, at the cost c
abbrev pub Pair : {Cost : Type 0} → Scale Cost → List BinaryRule → Table Cost → ℕ → ℕ → ℕ → ℕ → Cost → Type 0
Pair s rules v b e j = By rules j (λ rule. Meet s rule v b e e)

-- what the rules make over b to e of the costs that v has for shorter stretches, where ok says what may stay
pub data Made {Cost : Type 0} (s : Scale Cost) (g : Grammar) (ok : ℕ → Cost → Type 0) (ws : List ℕ) (v : Table Cost) (b e : ℕ) : ℕ → Cost → Type 0 where
  word : {k i : ℕ} (r : WordRule) → At g.lexical k r → At ws i r.word → b ≡ i + 1 → e ≡ i + 1 → ok r.category (s.price r.weight) → Made s g ok ws v b e r.category (s.price r.weight)
  binary : {k m : ℕ} {x y : Cost} (r : BinaryRule) → At g.binaries k r → b ≤ m → m < e → v r.left b m ≡ Some x → v r.right (m + 1) e ≡ Some y → ok r.category (s.join (s.price r.weight) (s.join x y)) → Made s g ok ws v b e r.category (s.join (s.price r.weight) (s.join x y))
  chain : {k : ℕ} {y : Cost} (r : ChainRule) → At g.chains k r → Made s g ok ws v b e r.part y → ok r.category (s.join (s.price r.weight) y) → Made s g ok ws v b e r.category (s.join (s.price r.weight) y)

-- v' is v with the cell of b to e filled
pub record Closes {Cost : Type 0} (s : Scale Cost) (g : Grammar) (entry : Entries Cost) (ceiling : Option Cost) (ws : List ℕ) (v v' : Table Cost) (b e : ℕ) : Type 0 where
  pub elsewhere : (A x y : ℕ) → (x ≡ b → y ≢ e) → v' A x y ≡ v A x y
  pub closed : ClosedAt s g entry ceiling ws v' b e
  pub made : (A : ℕ) (x : Cost) → v' A b e ≡ Some x → Made s g (Open s ceiling entry (b - 1) (length ws - e)) ws v b e A x
