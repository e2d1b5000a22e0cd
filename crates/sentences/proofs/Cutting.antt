-- The first line of a text, and those after it.
use Rattle.std.proofs.Common.{◌≡◌, ℕ, ◌+◌, ◌<◌, Bool, true, false, eqb, List, [], ◌∷◌, length, take, drop, refl, arith}
use Rattle.std.proofs.lemmas.Grind.{common_steps}
use Rattle.std.specs.List.{prefix_len, onto_first}
use Rattle.lines.specs.Bytes.{in_line}
use Rattle.sentences.specs.Lines.{lines_of}

-- a line end, and no other byte, closes a line
in_line_10 : (b : ℕ) → eqb b 10 ≡ true → in_line b ≡ false
in_line_10 b is = grind (arith, common_steps)

in_line_other : (b : ℕ) → eqb b 10 ≡ false → in_line b ≡ true
in_line_other b is = grind (arith, common_steps)

onto : (b k : ℕ) (bs : List ℕ) (ls : List (List ℕ)) → onto_first b (take k bs ∷ ls) ≡ take (1 + k) (b ∷ bs) ∷ ls
onto b k bs ls = grind (arith, common_steps)

past : (b k : ℕ) (bs : List ℕ) → drop 1 (drop (1 + k) (b ∷ bs)) ≡ drop 1 (drop k bs)
past b k bs = grind (arith, common_steps)

abbrev Cut : List ℕ → Type 0
Cut text = lines_of text ≡ take (prefix_len in_line text) text ∷ lines_of (drop 1 (drop (prefix_len in_line text) text))

-- by the first byte: a line end, or one that begins the first line of the others
first_byte : (b : ℕ) (bs : List ℕ) (end : Bool) → eqb b 10 ≡ end → (0 < length bs → Cut bs) → Cut (b ∷ bs)
first_byte b bs true is others = rw (in_line_10 b is, is) refl
first_byte b [] false is others = rw (in_line_other b is, is) refl
first_byte b (c ∷ cs) false is others = rw (in_line_other b is, is, others (omega arith), past b (prefix_len in_line (c ∷ cs)) (c ∷ cs)) (onto b _ (c ∷ cs) _)

pub lines_first : (text : List ℕ) → 0 < length text → lines_of text ≡ take (prefix_len in_line text) text ∷ lines_of (drop 1 (drop (prefix_len in_line text) text))
lines_first [] some = absurd (omega arith)
lines_first (b ∷ bs) some = first_byte b bs (eqb b 10) refl (lines_first bs)
