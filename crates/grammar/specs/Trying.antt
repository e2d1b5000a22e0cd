-- A line tried on a draft: where it is refused, names of it may have been added, which are then cut off again.
use Rattle.std.specs.Prelude.{◌≡◌, ℕ, length, take, Ok, Err, Result}
use Rattle.grammar.specs.declared.flaw.Flaw.{Flaw}
use Rattle.lines.specs.declared.fault.Stop.{Stop}
use Rattle.grammar.specs.Seen.{Seen}
use Rattle.grammar.specs.Adding.{with_categories, with_words}
use Rattle.lines.specs.Said.{Stops}

-- the first names only
abbrev pub cut_to : ℕ → ℕ → Seen → Seen
cut_to categories words s = with_categories (with_words s (take words s.words)) (take categories s.categories)

-- t is s, but for names after those of s
abbrev pub Later : Seen → Seen → Type 0
Later s t = cut_to (length s.categories) (length s.words) t ≡ s

abbrev pub Tries : Result Seen Flaw → Seen → Result (Unit {0}) (Stop Flaw) → Seen → Type 0
Tries due before (Ok x) after = due ≡ Ok after
Tries due before (Err e) after = Later before after × Stops e due
