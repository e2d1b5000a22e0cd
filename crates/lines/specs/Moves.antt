-- The moves of the reader: how it goes on by its state and the class of the next byte, taken together.
use Rattle.std.specs.Prelude.{ℕ, ◌+◌, List, [], ◌∷◌, ◌++◌, Some, None, Option, vec_items}
use Rattle.lines.specs.declared.bytes.Class.{Class}
use Rattle.lines.specs.declared.bytes.Class.TheVariants.{Open, Close, Blank, LineEnd, Letter, Foreign}
use Rattle.lines.specs.declared.reader.Token.{Token}
use Rattle.lines.specs.declared.reader.Token.TheVariants.{Opening, Closing}
use Rattle.lines.specs.declared.reader.Reader.{Reader}
use Rattle.lines.specs.Tokens.{part_at}

-- how far a reader has come: the place of the next byte, where the part that is under way started, and the tokens that it has read
pub record Sofar : Type 0 where
  pub at : ℕ
  pub part : Option ℕ
  pub tokens : List Token

abbrev pub sofar : Reader → Sofar
sofar r = record { at = r.at; part = r.part; tokens = vec_items r.tokens }

-- the part that ends where its letters do
abbrev pub ended : Option ℕ → ℕ → List Token
ended None i = []
ended (Some start) i = part_at start i ∷ []

abbrev pub within : Option ℕ → ℕ → Option ℕ
within None i = Some i
within (Some start) i = Some start

abbrev pub after : Option ℕ → ℕ → Class → Option ℕ
after s i Open = None
after s i Close = None
after s i Blank = None
after s i LineEnd = None
after s i Letter = within s i
after s i Foreign = None

abbrev pub given : Option ℕ → ℕ → Class → List Token
given s i Open = ended s i ++ Opening i ∷ []
given s i Close = ended s i ++ Closing i ∷ []
given s i Blank = ended s i
given s i LineEnd = ended s i
given s i Letter = []
given s i Foreign = ended s i

abbrev pub moved : Sofar → Class → Sofar
moved r c = record { at = r.at + 1; part = after r.part r.at c; tokens = r.tokens ++ given r.part r.at c }
