-- What the code's draft stands for.
use Rattle.std.specs.Prelude.{vec_items}
use Rattle.grammar.specs.declared.draft.Draft.{Draft}
use Rattle.grammar.specs.Listed.{listed}
use Rattle.grammar.specs.Seen.{Seen}

abbrev pub seen : Draft → Seen
seen d = record { number = d.number; limit = d.limit; top = d.top; categories = listed d.categories; words = listed d.words; lexical = vec_items d.lexical; chains = vec_items d.chains; binaries = vec_items d.binaries }
