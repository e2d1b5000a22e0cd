-- How a call answers that alters a value, can refuse, and can want memory.
use Rattle.std.specs.Prelude.{◌≡◌, Ok, Err, Result}
use Rattle.lines.specs.declared.fault.Stop.{Stop}
use Rattle.lines.specs.Said.{Stops}

-- the value afterwards is the one that is due; where there is no answer it is as before, and a refusal is the one that is due
abbrev pub Alters : {S F : Type 0} → Result S F → S → Result (Unit {0}) (Stop F) → S → Type 0
Alters due before (Ok x) after = due ≡ Ok after
Alters due before (Err e) after = (after ≡ before) × Stops e due

-- the same where the call also returns something
abbrev pub Gives : {X S F : Type 0} → Result (X × S) F → S → Result X (Stop F) → S → Type 0
Gives due before (Ok x) after = due ≡ Ok (x, after)
Gives due before (Err e) after = (after ≡ before) × Stops e due
