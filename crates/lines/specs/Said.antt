-- What an answer says, where memory did not fail.
use Rattle.std.specs.Prelude.{◌≡◌, Ok, Err, Result}
use Rattle.lines.specs.declared.fault.Stop.{Stop}
use Rattle.lines.specs.declared.fault.Stop.TheVariants.{Memory, Refusal}

-- why there is no answer: the fault; where memory failed nothing is said
abbrev pub Stops : {T F : Type 0} → Stop F → Result T F → Type 0
Stops Memory s = Unit {0}
Stops (Refusal e) s = Err e ≡ s

-- the answer, seen by f, or why there is none
abbrev pub Says : {X T F : Type 0} → (X → T) → Result X (Stop F) → Result T F → Type 0
Says f (Ok v) s = Ok (f v) ≡ s
Says f (Err e) s = Stops e s

-- P of the fault, where there is one
abbrev pub OfFault : {F : Type 0} → Stop F → (F → Type 0) → Type 0
OfFault Memory P = Unit {0}
OfFault (Refusal e) P = P e

-- the fault told again as T says; want of memory stays
abbrev pub Retells : {F G : Type 0} → (F → G → Type 0) → Stop F → Stop G → Type 0
Retells T Memory Memory = Unit {0}
Retells T Memory (Refusal d) = ⊥
Retells T (Refusal e) Memory = ⊥
Retells T (Refusal e) (Refusal d) = T e d
