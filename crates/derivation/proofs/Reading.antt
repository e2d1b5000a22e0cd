-- What is read from a list or an option, and nothing else.
use Rattle.std.proofs.Common.{◌≡◌, ℕ, ◌<◌, List, length, get_or, Some, None, Option, sym, ◌∙◌}
use Rattle.std.proofs.lemmas.List.{get_or_default}
use Rattle.derivation.specs.Named.{At}

pub none_some : {X : Type 0} {o : Option X} {x : X} → o ≡ None → o ≡ Some x → ⊥
none_some p q = cc

pub some_same : {X : Type 0} {o : Option X} {x y : X} → o ≡ Some x → o ≡ Some y → x ≡ y
some_same p q = cc

-- what is read at a place stands there, and nothing else does
pub at_read : {X : Type 0} (xs : List X) (i : ℕ) (d : X) → i < length xs → At xs i (get_or xs i d)
at_read xs i d h = record { inside = h; is = get_or_default xs i (get_or xs i d) d h }

pub at_same : {X : Type 0} {xs : List X} (j : ℕ) (r d : X) → At xs j r → r ≡ get_or xs j d
at_same {xs = xs} j r d at = sym at.is ∙ get_or_default xs j r d at.inside
