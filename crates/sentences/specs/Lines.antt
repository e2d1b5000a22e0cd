-- The lines of a text.
use Rattle.std.specs.Prelude.{ℕ, ◌+◌, cond, List, [], ◌∷◌, ◌==◌}
use Rattle.std.specs.List.{onto_first, enumerate_from}

-- a line end closes a line, and is no part of it; the last line may lack its end
abbrev pub lines_of : List ℕ → List (List ℕ)
lines_of [] = []
lines_of (b ∷ bs) = cond (b == 10) ([] ∷ lines_of bs) (onto_first b (lines_of bs))

-- the lines that come after n others, each with its number
abbrev pub numbered : ℕ → List ℕ → List (ℕ × List ℕ)
numbered n text = enumerate_from (n + 1) (lines_of text)
