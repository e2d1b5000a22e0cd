-- A word that is known byte by byte.
use Rattle.std.proofs.Common.{◌≡◌, ℕ, ◌+◌, ◌<◌, List, [], ◌∷◌, length, get_or, drop, arith, drop-cons, add-one}
use Rattle.std.proofs.lemmas.List.{drop_all}

-- from the place i on, w has the bytes ds and no more
abbrev pub Reads : List ℕ → ℕ → List ℕ → Type 0
Reads w i [] = length w ≡ i
Reads w i (d ∷ ds) = (i < length w) × (get_or w i 0 ≡ d) × Reads w (i + 1) ds

from : (w : List ℕ) (i : ℕ) (ds : List ℕ) → Reads w i ds → drop i w ≡ ds
from w i [] h = drop_all i w (omega arith)
from w i (d ∷ ds) h =
    let first = drop-cons w i 0 h.0 in
    let rest = from w (i + 1) ds h.2 in
    let next = add-one i in
    cc

pub spelt : (w ds : List ℕ) → Reads w 0 ds → w ≡ ds
spelt w ds h = from w 0 ds h
