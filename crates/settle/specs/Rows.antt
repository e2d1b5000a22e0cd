-- What rows keep.
use Rattle.std.specs.Prelude.{◌≡◌, ℕ}

-- `beside` holds of no offers and of one after another, and under it a row keeps its number of categories and the costs that may enter
pub record RowLaws {Row Cost : Type 0} (size : Row → ℕ) (enters : Row → ℕ → Cost → Type 0) (beside : Row → Row → Type 0) : Type 0 where
  pub same : (x : Row) → beside x x
  pub then : (x y z : Row) → beside x y → beside y z → beside x z
  pub sized : (x y : Row) → beside x y → size y ≡ size x
  pub opens : (x y : Row) → beside x y → (A : ℕ) (c : Cost) → enters x A c → enters y A c
  pub opened : (x y : Row) → beside x y → (A : ℕ) (c : Cost) → enters y A c → enters x A c
