-- A line of the grammar taken into a draft, and the byte of the line that is at fault.
use Rattle.std.specs.Prelude.{ℕ, ◌+◌, List, Ok, Err, Result}
use Rattle.lines.specs.declared.fault.LineFault.{LineFault}
use Rattle.lines.specs.declared.form.Form.{Form}
use Rattle.lines.specs.declared.form.Form.TheVariants.{Top, Chain, Binary, Lexical, Scale, Ladder, Say}
use Rattle.lines.specs.Tokens.{bytes_at}
use Rattle.grammar.specs.declared.flaw.Flaw.{Flaw}
use Rattle.grammar.specs.declared.flaw.Part.{Part}
use Rattle.grammar.specs.declared.flaw.Part.TheVariants.{Line, Category, First, Second}
use Rattle.grammar.specs.Seen.{Seen}
use Rattle.grammar.specs.Adding.{adding_top, adding_lexical, adding_chain, adding_binary}

-- the names are those that stand in the line; a form that is not about rules or the top adds nothing
abbrev pub adding : Seen → List ℕ → Form ℕ → Result Seen Flaw
adding s line (Top a) = adding_top s (bytes_at line a)
adding s line (Chain w a b) = adding_chain s w (bytes_at line a) (bytes_at line b)
adding s line (Binary w a b c) = adding_binary s w (bytes_at line a) (bytes_at line b) (bytes_at line c)
adding s line (Lexical w a x) = adding_lexical s w (bytes_at line a) (bytes_at line x)
adding s line (Scale x) = Ok s
adding s line (Ladder ts) = Ok s
adding s line (Say ws) = Ok s

-- where a part of the form starts, counted from 0; the line itself, and what it lacks, at 0
abbrev pub start_of : Form ℕ → Part → ℕ
start_of (Top a) Line = 0
start_of (Top a) Category = a.start
start_of (Top a) First = 0
start_of (Top a) Second = 0
start_of (Chain w a b) Line = 0
start_of (Chain w a b) Category = a.start
start_of (Chain w a b) First = b.start
start_of (Chain w a b) Second = 0
start_of (Binary w a b c) Line = 0
start_of (Binary w a b c) Category = a.start
start_of (Binary w a b c) First = b.start
start_of (Binary w a b c) Second = c.start
start_of (Lexical w a x) Line = 0
start_of (Lexical w a x) Category = a.start
start_of (Lexical w a x) First = x.start
start_of (Lexical w a x) Second = 0
start_of (Scale x) part = 0
start_of (Ladder ts) part = 0
start_of (Say ws) part = 0

-- bytes are counted from 1
abbrev pub byte_of : {X : Type 0} → Form ℕ → Result X Flaw → Result X LineFault
byte_of form (Ok x) = Ok x
byte_of form (Err f) = Err (record { refusal = f.refusal; byte = start_of form f.part + 1 })

abbrev pub taking : Seen → List ℕ → Form ℕ → Result Seen LineFault
taking s line form = byte_of form (adding s line form)
