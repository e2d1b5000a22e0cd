-- Steps that follow one another, and stop at the first error.
use Rattle.std.specs.Prelude.{List, [], ◌∷◌, Ok, Err, Result}

-- the next step, where there was no error
abbrev pub on_ok : {S T E : Type 0} → Result S E → (S → Result T E) → Result T E
on_ok (Ok s) f = f s
on_ok (Err e) f = Err e

-- the same as steps of a `do`
infixl 10 ◌>>=◌
abbrev pub ◌>>=◌ : {S T E : Type 0} → Result S E → (S → Result T E) → Result T E
r >>= f = on_ok r f

-- a step for each element of a list
abbrev pub run : {S X E : Type 0} → (S → X → Result S E) → S → List X → Result S E
run f s [] = Ok s
run f s (x ∷ xs) = on_ok (f s x) (λ t. run f t xs)
