-- A cost scale: its neutral cost, how costs join, which cost is above which, and what a weight costs.
use Rattle.std.specs.Prelude.{◌≡◌, ℕ, Bool, false, ◌⊎◌}

pub record Scale (Cost : Type 0) : Type 0 where
  pub neutral : Cost
  pub join : Cost → Cost → Cost
  pub above : Cost → Cost → Bool
  pub price : ℕ → Cost

-- a is not above b
abbrev pub Within : {Cost : Type 0} → Scale Cost → Cost → Cost → Type 0
Within s a b = s.above a b ≡ false

-- the laws that every scale keeps
pub record Lawful {Cost : Type 0} (s : Scale Cost) : Type 0 where
  pub assoc : (a b c : Cost) → s.join (s.join a b) c ≡ s.join a (s.join b c)
  pub comm : (a b : Cost) → s.join a b ≡ s.join b a
  pub unit : (a : Cost) → s.join s.neutral a ≡ a
  -- any two costs compare, the order is transitive, and costs of which neither is above the other are equal
  pub compares : (a b : Cost) → Within s a b ⊎ Within s b a
  pub trans : (a b c : Cost) → Within s a b → Within s b c → Within s a c
  pub antisym : (a b : Cost) → Within s a b → Within s b a → a ≡ b
  -- the neutral cost is above no cost, and weight 0 costs it
  pub least : (a : Cost) → Within s s.neutral a
  pub free : s.price 0 ≡ s.neutral
  -- joining the same cost to both keeps the order
  pub keeps : (a b c : Cost) → Within s a b → Within s (s.join a c) (s.join b c)
