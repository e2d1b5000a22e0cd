-- A part that is a number: decimal, from 0 to 65,535, with no leading zero.
use Rattle.std.specs.Prelude.{◌≡◌, ℕ, ◌+◌, ◌-◌, ◌*◌, ◌<◌, Bool, true, false, cond, ◌&&◌, List, [], ◌∷◌, Some, None, decimal, Option, ◌==◌, nat_le, nat_lt}

abbrev pub is_digit : ℕ → Bool
is_digit c = nat_le 48 c && nat_le c 57

abbrev pub all_digits : List ℕ → Bool
all_digits [] = true
all_digits (c ∷ cs) = is_digit c && all_digits cs

-- the number that digits write, after n
abbrev pub read_on : ℕ → List ℕ → ℕ
read_on n [] = n
read_on n (c ∷ cs) = read_on (n * 10 + (c - 48)) cs

-- n with one more digit behind it, where c is a digit and the number stays below 65536
abbrev pub pushed : ℕ → ℕ → Option ℕ
pushed n c = cond (is_digit c && nat_lt (n * 10 + (c - 48)) 65536) (Some (n * 10 + (c - 48))) None

-- nothing, or a first 0 with more after it
abbrev pub padded : List ℕ → Bool
padded [] = true
padded (c ∷ []) = false
padded (c ∷ d ∷ cs) = c == 48

abbrev pub number_of : List ℕ → Option ℕ
number_of cs = cond (padded cs) None (cond (all_digits cs && nat_lt (read_on 0 cs) 65536) (Some (read_on 0 cs)) None)

-- a part is a number just where it is what the number's decimal writes
abbrev pub ReadsDecimal : Type 0
ReadsDecimal = ((n : ℕ) (ds : List ℕ) → number_of ds ≡ Some n → (ds ≡ decimal n) × (n < 65536)) × ((n : ℕ) → n < 65536 → number_of (decimal n) ≡ Some n)
