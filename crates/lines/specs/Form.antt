-- What a line says: its form, or its fault. The cause of a fault is chosen by the order of the causes over the whole line, and not by place.
use Rattle.std.specs.Prelude.{ℕ, ◌+◌, ◌<◌, ◌≤◌, List, [], ◌∷◌, ◌++◌, length, Some, None, Ok, Err, Option, Result}
use Rattle.std.specs.List.{AllByRecursion}
use Rattle.refusals.specs.declared.Refusal.{Refusal}
use Rattle.refusals.specs.declared.Refusal.TheVariants.{ForeignByte, TooLong, Unpaired, WrongForm, WrongNumber}
use Rattle.lines.specs.declared.fault.LineFault.{LineFault}
use Rattle.lines.specs.declared.form.Form.{Form}
use Rattle.lines.specs.declared.reader.Span.{Span}
use Rattle.lines.specs.declared.reader.Token.{Token}
use Rattle.lines.specs.declared.shape.Allowed.{Allowed}
use Rattle.lines.specs.declared.shape.Misfit.{Misfit}
use Rattle.lines.specs.declared.shape.Misfit.TheVariants.{At, Missing}
use Rattle.lines.specs.Bytes.{foreign_at, too_long_at}
use Rattle.lines.specs.Decimal.{number_of}
use Rattle.lines.specs.Run.{on_ok, ◌>>=◌, run}
use Rattle.lines.specs.Shape.{Reading, top, chain, binary, lexical, scale, ladder, say, shape_of, shown, unpaired_at}
use Rattle.lines.specs.Tokens.{bytes_at, tokens_from}

-- a fault at a place counted from 0; its byte is counted from 1
abbrev pub fault_at : Refusal → ℕ → LineFault
fault_at cause at = record { refusal = cause; byte = at + 1 }

-- the cause, where it has a place; else what comes after it
abbrev pub unless : {X : Type 0} → Refusal → Option ℕ → Result X LineFault → Result X LineFault
unless cause (Some at) r = Err (fault_at cause at)
unless cause None r = r

-- a wrong form, in a line whose end is n; what is missing is missing there
abbrev pub misfit_at : ℕ → Misfit → LineFault
misfit_at n (At at) = fault_at WrongForm at
misfit_at n Missing = fault_at WrongForm n

abbrev pub fitted : {X : Type 0} → ℕ → Result X Misfit → Result X LineFault
fitted n (Ok x) = Ok x
fitted n (Err m) = Err (misfit_at n m)

abbrev pub or_wrong : Span → Option ℕ → Result ℕ LineFault
or_wrong s (Some n) = Ok n
or_wrong s None = Err (fault_at WrongNumber s.start)

-- the number that stands at a span
abbrev pub number_at : List ℕ → Span → Result ℕ LineFault
number_at line s = or_wrong s (number_of (bytes_at line s))

-- one more number, after those that came before
abbrev pub number_on : List ℕ → List ℕ → Span → Result (List ℕ) LineFault
number_on line ns s = on_ok (number_at line s) (λ n. Ok (ns ++ n ∷ []))

abbrev pub numbers_at : List ℕ → List Span → Result (List ℕ) LineFault
numbers_at line ss = run (number_on line) [] ss

-- a shape with its numbers read
abbrev pub valued : List ℕ → Reading Span → Result (Reading ℕ) LineFault
valued line (top a) = Ok (top a)
valued line (chain w a b) = on_ok (number_at line w) (λ n. Ok (chain n a b))
valued line (binary w a b c) = on_ok (number_at line w) (λ n. Ok (binary n a b c))
valued line (lexical w a x) = on_ok (number_at line w) (λ n. Ok (lexical n a x))
valued line (scale s) = Ok (scale s)
valued line (ladder ts) = on_ok (numbers_at line ts) (λ ns. Ok (ladder ns))
valued line (say ws) = Ok (say ws)

-- a line of blanks alone has no tokens, and says nothing
abbrev pub tokens_form : Allowed → List ℕ → List Token → Result (Option (Reading ℕ)) LineFault
tokens_form allowed line [] = Ok None
tokens_form allowed line (t ∷ ts) =
    unless Unpaired (unpaired_at (length line) (t ∷ ts)) (do
      s ← fitted (length line) (shape_of allowed line (t ∷ ts))
      f ← valued line s
      Ok (Some f))

-- the form of a line where the heads that `allowed` names may stand, or its fault
abbrev pub line_form : Allowed → List ℕ → Result (Option (Reading ℕ)) LineFault
line_form allowed line =
    unless ForeignByte (foreign_at line)
    (unless TooLong (too_long_at line)
    (tokens_form allowed line (tokens_from 0 line)))

abbrev pub shown_if : Option (Form ℕ) → Option (Reading ℕ)
shown_if None = None
shown_if (Some f) = Some (shown f)

-- a span that lies in a line of n bytes, and is not empty
pub record Lies (n : ℕ) (s : Span) : Type 0 where
  pub some : s.start < s.end
  pub inside : s.end ≤ n

-- every span of a form lies in the line
abbrev pub Inside : ℕ → Reading ℕ → Type 0
Inside n (top a) = Lies n a
Inside n (chain w a b) = Lies n a × Lies n b
Inside n (binary w a b c) = Lies n a × Lies n b × Lies n c
Inside n (lexical w a x) = Lies n a × Lies n x
Inside n (scale s) = Unit {0}
Inside n (ladder ts) = Unit {0}
Inside n (say ws) = AllByRecursion (Lies n) ws

abbrev pub InsideIf : ℕ → Option (Reading ℕ) → Type 0
InsideIf n None = Unit {0}
InsideIf n (Some f) = Inside n f
