-- What the laws of rows tell: an offer to a row is one to the row as it first was.
use Rattle.std.proofs.Common.{ℕ}
use Rattle.derivation.specs.Scale.{Scale, Lawful}
use Rattle.settle.specs.Column.{Column, Offered, Grown}
use Rattle.settle.specs.Offers.{Only}
use Rattle.settle.specs.Rows.{RowLaws}
use Rattle.settle.proofs.Growing.{offered_as, grown_one, grown_open}

module _ {Cost Row : Type 0} {s : Scale Cost} (lawful : Lawful s) {size : Row → ℕ} {enters : Row → ℕ → Cost → Type 0} {beside : Row → Row → Type 0} (laws : RowLaws size enters beside) {first row : Row} (kept : beside first row) {now after : Column Cost} where
  pub offered_since : {at : ℕ} {cost : Cost} → Offered s (enters row) now after at cost → Grown s (enters first) (Only at cost) now after
  offered_since off = grown_one lawful (offered_as lawful {ok' = enters first} (laws.opened first row kept) (laws.opens first row kept) off)

  pub grown_since : {Src : ℕ → Cost → Type 0} → Grown s (enters row) Src now after → Grown s (enters first) Src now after
  grown_since grown = grown_open lawful {ok' = enters first} (laws.opened first row kept) (laws.opens first row kept) grown
