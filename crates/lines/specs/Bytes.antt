-- The bytes of a line: their classes, and the two faults of the text layer, a foreign byte and what is too long.
use Rattle.std.specs.Prelude.{ℕ, ◌+◌, min, Bool, true, false, not, cond, ◌&&◌, List, [], ◌∷◌, length, Some, None, Option, ◌==◌, nat_le, nat_lt}
use Rattle.std.specs.List.{prefix_len, position}
use Rattle.lines.specs.declared.bytes.Class.{Class}
use Rattle.lines.specs.declared.bytes.Class.TheVariants.{Open, Close, Blank, LineEnd, Letter, Foreign}

-- brackets, the blank and the line end stand for themselves; the other bytes from 33 to 126 are letters
abbrev pub class_of : ℕ → Class
class_of b =
    cond (b == 40) Open
    (cond (b == 41) Close
    (cond (b == 32) Blank
    (cond (b == 10) LineEnd
    (cond (nat_le 33 b && nat_le b 126) Letter Foreign))))

-- a line end closes a line, so it is never part of one
abbrev pub ends_no : Class → Bool
ends_no Open = true
ends_no Close = true
ends_no Blank = true
ends_no LineEnd = false
ends_no Letter = true
ends_no Foreign = true

abbrev pub in_line : ℕ → Bool
in_line b = ends_no (class_of b)

-- what may stand in a line
abbrev pub is_own : Class → Bool
is_own Open = true
is_own Close = true
is_own Blank = true
is_own LineEnd = false
is_own Letter = true
is_own Foreign = false

abbrev pub own : ℕ → Bool
own b = is_own (class_of b)

abbrev pub is_letter : Class → Bool
is_letter Open = false
is_letter Close = false
is_letter Blank = false
is_letter LineEnd = false
is_letter Letter = true
is_letter Foreign = false

abbrev pub letter : ℕ → Bool
letter b = is_letter (class_of b)

-- the place, from 0, of the first foreign byte
abbrev pub foreign_at : List ℕ → Option ℕ
foreign_at line = position (λ b. not (own b)) line

-- the place where the first part of more than 16 bytes starts, in bytes whose first has the place i:
-- the first place with 17 letters in a row
abbrev pub long_part : ℕ → List ℕ → Option ℕ
long_part i [] = None
long_part i (b ∷ bs) = cond (nat_le 17 (prefix_len letter (b ∷ bs))) (Some i) (long_part (i + 1) bs)

-- the first place past the longest line
abbrev pub long_line : List ℕ → Option ℕ
long_line line = cond (nat_lt 1024 (length line)) (Some 1024) None

-- the earlier of two places
abbrev pub earlier : Option ℕ → Option ℕ → Option ℕ
earlier None q = q
earlier (Some p) None = Some p
earlier (Some p) (Some q) = Some (min p q)

-- the place of what is too long: a part of more than 16 bytes, or the 1,025th byte
abbrev pub too_long_at : List ℕ → Option ℕ
too_long_at line = earlier (long_part 0 line) (long_line line)
