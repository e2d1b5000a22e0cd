-- The brackets and the parts of a line, in order.
use Rattle.std.specs.Prelude.{ℕ, ◌+◌, ◌-◌, cond, List, [], ◌∷◌, take, drop, ◌==◌}
use Rattle.lines.specs.declared.bytes.Class.{Class}
use Rattle.lines.specs.declared.bytes.Class.TheVariants.{Open, Close, Blank, LineEnd, Letter, Foreign}
use Rattle.lines.specs.declared.reader.Span.{Span}
use Rattle.lines.specs.declared.reader.Token.{Token}
use Rattle.lines.specs.declared.reader.Token.TheVariants.{Opening, Closing, Part}
use Rattle.lines.specs.Bytes.{class_of}

-- the bytes at a span of a line
abbrev pub bytes_at : List ℕ → Span → List ℕ
bytes_at line s = take (s.end - s.start) (drop s.start line)

-- the place of a token's first byte
abbrev pub start_of : Token → ℕ
start_of (Opening at) = at
start_of (Closing at) = at
start_of (Part s) = s.start

abbrev pub part_at : ℕ → ℕ → Token
part_at start end = Part (record { start = start; end = end })

-- letters from start up to end, before the tokens that follow: one part together with a part that goes on at end
abbrev pub joined : ℕ → ℕ → List Token → List Token
joined start end [] = part_at start end ∷ []
joined start end (Opening at ∷ ts) = part_at start end ∷ Opening at ∷ ts
joined start end (Closing at ∷ ts) = part_at start end ∷ Closing at ∷ ts
joined start end (Part s ∷ ts) = cond (s.start == end) (part_at start s.end ∷ ts) (part_at start end ∷ Part s ∷ ts)

-- a byte of a class at a place, before the tokens that follow
abbrev pub before : ℕ → Class → List Token → List Token
before i Open ts = Opening i ∷ ts
before i Close ts = Closing i ∷ ts
before i Blank ts = ts
before i LineEnd ts = ts
before i Letter ts = joined i (i + 1) ts
before i Foreign ts = ts

-- the tokens of bytes whose first has the place i; a part is a longest run of letters
abbrev pub tokens_from : ℕ → List ℕ → List Token
tokens_from i [] = []
tokens_from i (b ∷ bs) = before i (class_of b) (tokens_from (i + 1) bs)
