-- The steps of ways.
use Rattle.std.proofs.Common.{◌≡◌, ℕ, ◌-◌, ◌<◌, List, inl, inr, get_or, Some, Option, subst}
use Rattle.derivation.specs.Scale.{Scale}
use Rattle.derivation.specs.Grammar.{Grammar}
use Rattle.derivation.specs.Table.{Table}
use Rattle.derivation.proofs.Reading.{some_same}
use Rattle.tree.specs.declared.ways.Step.{Step}
use Rattle.tree.specs.declared.ways.Step.TheVariants.{Word, Chain, Binary}
use Rattle.tree.specs.Ways.{ByWord, ByChain, ByBinary, Gives, Way, FirstWay}

module _ {Cost : Type 0} {s : Scale Cost} {g : Grammar} {ws : List ℕ} {v : Table Cost} {ranks : List (Option ℕ)} {below b e a : ℕ} where
  -- the step of a way makes the cost that the table has
  gives_at : {x : Cost} {t : Step} → v a b e ≡ Some x → Way s g ws v ranks below b e a t → Gives s g ws v ranks below b e a x t
  gives_at {t = t} is w = subst (λ y. Gives s g ws v ranks below b e a y t) (some_same w.held is) w.gives

  pub no_way : (x : Cost) → v a b e ≡ Some x → ((k : ℕ) → b ≡ e → ByWord s g.lexical (get_or ws (b - 1) 0) a x k → ⊥) → ((k m : ℕ) → ByBinary s v g.binaries b e a x k m → ⊥) → ((k : ℕ) → ByChain s v g.chains ranks below b e a x k → ⊥) → (t : Step) → Way s g ws v ranks below b e a t → ⊥
  no_way x is no_word no-pair no_chain (Word k) w = let h = gives_at is w in no_word k h.0 h.1
  no_way x is no_word no-pair no_chain (Chain k) w = no_chain k (gives_at is w)
  no_way x is no_word no-pair no_chain (Binary k m) w = no-pair k m (gives_at is w)

  pub first_binary : (x : Cost) (k m : ℕ) → v a b e ≡ Some x → (b ≡ e → ⊥) → ((j n : ℕ) → j < k → ByBinary s v g.binaries b e a x j n → ⊥) → ((n : ℕ) → n < m → ByBinary s v g.binaries b e a x k n → ⊥) → FirstWay s g ws v ranks below b e a (Binary k m)
  first_binary x k m is far rules splits (Word j) early w = far (gives_at is w).0
  first_binary x k m is far rules splits (Chain j) early w = early
  first_binary x k m is far rules splits (Binary j n) (inl h) w = rules j n h (gives_at is w)
  first_binary x k m is far rules splits (Binary j n) (inr h) w = splits n h.1 (subst (λ i. ByBinary s v g.binaries b e a x i n) h.0 (gives_at is w))

  pub chain_last : (x : Cost) (k : ℕ) → v a b e ≡ Some x → ((j : ℕ) → b ≡ e → ByWord s g.lexical (get_or ws (b - 1) 0) a x j → ⊥) → ((j m : ℕ) → ByBinary s v g.binaries b e a x j m → ⊥) → ((j : ℕ) → j < k → ByChain s v g.chains ranks below b e a x j → ⊥) → FirstWay s g ws v ranks below b e a (Chain k)
  chain_last x k is no_word no_pair rules (Word j) early w = let h = gives_at is w in no_word j h.0 h.1
  chain_last x k is no_word no_pair rules (Binary j m) early w = no_pair j m (gives_at is w)
  chain_last x k is no_word no_pair rules (Chain j) early w = rules j early (gives_at is w)
