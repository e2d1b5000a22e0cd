-- Ranks for the categories over one stretch of words, from 1 on: a chain rule leads to a lower rank, so a run of them ends and never comes back.
use Rattle.std.specs.Prelude.{◌≡◌, ℕ, ◌-◌, ◌<◌, ◌≤◌, List, length, Some, None, Option, slice_index, slice_index_or}
use Rattle.std.specs.Option.{ForSome}
use Rattle.derivation.specs.Scale.{Scale}
use Rattle.derivation.specs.Grammar.{Grammar}
use Rattle.derivation.specs.Table.{Table}
use Rattle.tree.specs.declared.ways.Step.{Step}
use Rattle.tree.specs.Ways.{no_chain, rank, ByWord, ByBinary, Way}

-- the ranks are from 1 to the limit, and each category that has one has a way to lower ranks only
pub record Ranked {Cost : Type 0} (s : Scale Cost) (g : Grammar) (ws : List ℕ) (v : Table Cost) (ranks : List (Option ℕ)) (limit b e : ℕ) : Type 0 where
  pub long : length ranks ≡ 64
  pub some : (a : ℕ) → ForSome (rank ranks a) (λ r. 1 ≤ r)
  pub most : (a : ℕ) → ForSome (rank ranks a) (λ r. r ≤ limit)
  pub ways : (a : ℕ) → ForSome (rank ranks a) (λ r. (t : Step) × Way s g ws v ranks r b e a t)

-- a has no rank yet, and a way to ranks below `below` only
pub record Markable {Cost : Type 0} (s : Scale Cost) (g : Grammar) (ws : List ℕ) (v : Table Cost) (ranks : List (Option ℕ)) (below b e a : ℕ) : Type 0 where
  pub fresh : rank ranks a ≡ None
  pub step : Step
  pub way : Way s g ws v ranks below b e a step

-- `after` is `before` with the rank `level` given to each of the first n categories that can have it
pub record Swept {Cost : Type 0} (s : Scale Cost) (g : Grammar) (ws : List ℕ) (v : Table Cost) (before after : List (Option ℕ)) (level n b e : ℕ) : Type 0 where
  pub ranked : Ranked s g ws v after level b e
  pub same : (x : ℕ) → ForSome (rank before x) (λ r. rank after x ≡ Some r)
  pub all : (x : ℕ) → x < n → rank after x ≡ None → Markable s g ws v before level b e x → ⊥

-- a constituent whose cost in the table comes from a word or a split, below chain rules each of which gives exactly the cost above it
pub data Grounded {Cost : Type 0} (s : Scale Cost) (g : Grammar) (ws : List ℕ) (v : Table Cost) (b e : ℕ) : ℕ → Type 0 where
  by_word : {a k : ℕ} {x : Cost} → v a b e ≡ Some x → b ≡ e → ByWord s g.lexical (slice_index ws (b - 1)) a x k → Grounded s g ws v b e a
  by_binary : {a k m : ℕ} {x : Cost} → v a b e ≡ Some x → ByBinary s v g.binaries b e a x k m → Grounded s g ws v b e a
  by_chain : {a : ℕ} {x y : Cost} (k : ℕ) → v a b e ≡ Some x → k < length g.chains → (slice_index_or g.chains k no_chain).category ≡ a → v (slice_index_or g.chains k no_chain).part b e ≡ Some y → s.join (s.price (slice_index_or g.chains k no_chain).weight) y ≡ x → Grounded s g ws v b e (slice_index_or g.chains k no_chain).part → Grounded s g ws v b e a

abbrev pub AllGrounded : {Cost : Type 0} → Scale Cost → Grammar → List ℕ → Table Cost → Type 0
AllGrounded {Cost} s g ws v = (b e a : ℕ) (x : Cost) → v a b e ≡ Some x → Grounded s g ws v b e a
