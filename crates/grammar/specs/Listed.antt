-- What a table of names stands for: the spellings, each at the place of its number.
use Rattle.std.specs.Prelude.{ℕ, List, map, vec_items, Option, position}
use Rattle.std.specs.List.{position_or_len}
use Rattle.std.specs.Str.{bytes_eq}
use Rattle.grammar.specs.declared.names.Names.{Names}

abbrev pub listed : Names → List (List ℕ)
listed n = map vec_items (vec_items n.spellings)

-- the number of a name: its place among the names; of a new name, the number that it gets when it is added
abbrev pub number_of : List (List ℕ) → List ℕ → ℕ
number_of names name = position_or_len (λ other. bytes_eq other name) names

-- the number of a spelling that is among the names
abbrev pub lookup : List (List ℕ) → List ℕ → Option ℕ
lookup names name = position (λ other. bytes_eq other name) names
