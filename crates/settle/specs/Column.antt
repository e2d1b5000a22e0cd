-- A column: for each category, the least cost so far or none; and what offers make of it where `ok` says which costs may enter.
use Rattle.std.specs.Prelude.{◌≡◌, ℕ, Bool, true, ◌⊎◌, Some, None, Option, ◌≢◌}
use Rattle.derivation.specs.Scale.{Scale, Within}
use Rattle.derivation.specs.Bounds.{Filled}

abbrev pub Column : Type 0 → Type 0
Column Cost = ℕ → Option Cost

-- whether a cost is below what is there
abbrev pub cheaper : {Cost : Type 0} → Scale Cost → Option Cost → Cost → Bool
cheaper s None cost = true
cheaper s (Some old) cost = s.above old cost

-- every cost may enter
abbrev pub AllOpen : {Cost : Type 0} → ℕ → Cost → Type 0
AllOpen A c = Unit {0}

-- `before` where a cost is offered to the category `at`
pub record Offered {Cost : Type 0} (s : Scale Cost) (ok : ℕ → Cost → Type 0) (before after : Column Cost) (at : ℕ) (cost : Cost) : Type 0 where
  pub others : (k : ℕ) → (k ≢ at) → after k ≡ before k
  pub low : ok at cost → Filled (after at) (λ x. Within s x cost)
  pub lower : (y : Cost) → before at ≡ Some y → Filled (after at) (λ x. Within s x y)
  pub origin : (x : Cost) → after at ≡ Some x → (before at ≡ Some x) ⊎ ((x ≡ cost) × ok at cost)

-- `before` where each cost that Src gives was offered
pub record Grown {Cost : Type 0} (s : Scale Cost) (ok Src : ℕ → Cost → Type 0) (before after : Column Cost) : Type 0 where
  pub rest : (A : ℕ) → ((c : Cost) → Src A c → ⊥) → after A ≡ before A
  pub lower : (A : ℕ) (y : Cost) → before A ≡ Some y → Filled (after A) (λ x. Within s x y)
  pub made : (A : ℕ) (c : Cost) → Src A c → ok A c → Filled (after A) (λ x. Within s x c)
  pub origin : (A : ℕ) (x : Cost) → after A ≡ Some x → (before A ≡ Some x) ⊎ (Src A x × ok A x)
