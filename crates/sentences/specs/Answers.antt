-- What a sentence file is answered.
use Rattle.std.specs.Prelude.{◌≡◌, ℕ, false, List, [], ◌∷◌, ◌++◌, map, Some, None, Ok, Err, Option, Result, unwrap_or, decimal}
use Rattle.refusals.specs.declared.Refusal.{Refusal}
use Rattle.refusals.specs.declared.Refusal.TheVariants.{WrongTop}
use Rattle.scale.specs.Scales.{sums, worsts}
use Rattle.lines.specs.declared.fault.LineFault.{LineFault}
use Rattle.lines.specs.declared.reader.Span.{Span}
use Rattle.lines.specs.declared.shape.Allowed.{Allowed}
use Rattle.lines.specs.declared.shape.ScaleName.{ScaleName}
use Rattle.lines.specs.declared.shape.ScaleName.TheVariants.{Sum, Worst}
use Rattle.lines.specs.Run.{on_ok}
use Rattle.lines.specs.Form.{line_form}
use Rattle.lines.specs.Shape.{Reading, top, chain, binary, lexical, scale, ladder, say}
use Rattle.sentences.specs.Lines.{numbered}
use Rattle.sentences.specs.Written.{refusal_line}
use Rattle.sentences.specs.Preamble.{Told, untold, Opened, opened}
use Rattle.sentences.specs.Sentence.{Language, drafted, SentenceTold}

-- from the first sentence on no other head may stand
abbrev pub sentences : Allowed
sentences = record { grammar = false; scale = false; ladder = false }

-- A sentence is told by its number, its line and the places of its words there, and then the text that answers it.

-- every sentence is refused for the same cause
abbrev pub Refusing : Refusal → ℕ → List ℕ → List Span → List ℕ → Type 0
Refusing refusal number line words text = text ≡ refusal_line refusal number

-- the places of the words of a sentence; none where the line says nothing, as no other form is let through
abbrev pub spoken : Option (Reading ℕ) → Option (List Span)
spoken None = None
spoken (Some (say words)) = Some words
spoken (Some (top a)) = None
spoken (Some (chain w a b)) = None
spoken (Some (binary w a b c)) = None
spoken (Some (lexical w a x)) = None
spoken (Some (scale s)) = None
spoken (Some (ladder ts)) = None

abbrev pub sentence : List ℕ → Result (Option (List Span)) LineFault
sentence line = on_ok (line_form sentences line) (λ o. Ok (spoken o))

-- the text that answers one line: that of a sentence, the refusal of a fault, and nothing for a blank line
abbrev pub LineTold : (ℕ → List ℕ → List Span → List ℕ → Type 0) → ℕ → List ℕ → Result (Option (List Span)) LineFault → List ℕ → Type 0
LineTold Said number line (Ok (Some words)) text = Said number line words text
LineTold Said number line (Ok None) text = text ≡ []
LineTold Said number line (Err f) text = text ≡ refusal_line f.refusal number

-- the lines in turn, each answered after what was written before
abbrev pub LinesTold : (ℕ → List ℕ → List Span → List ℕ → Type 0) → List (ℕ × List ℕ) → List ℕ → List ℕ → Type 0
LinesTold Said [] before after = after ≡ before
LinesTold Said (line ∷ lines) before after = (text : List ℕ) × LineTold Said line.0 line.1 (sentence line.1) text × LinesTold Said lines (before ++ text) after

-- which text answers a sentence, where costs join so
abbrev pub ByScale : ScaleName → Language → List ℕ → ℕ → List ℕ → List Span → List ℕ → Type 0
ByScale Sum l ts number = SentenceTold sums (λ cost. Some (decimal cost)) l (map sums.price ts) number
ByScale Worst l ts number = SentenceTold worsts (λ cost. Some (decimal cost)) l (map worsts.price ts) number

-- Without a top the grammar does not close, and every sentence is refused for it.
-- Costs join by sums where no scale was said, and there are no ceilings where no ladder was.
abbrev pub ByTop : Option ℕ → Told → ℕ → List ℕ → List Span → List ℕ → Type 0
ByTop None t = Refusing WrongTop
ByTop (Some category) t = ByScale (unwrap_or t.scale Sum) (drafted t.draft category) (unwrap_or t.ladder [])

abbrev pub OpenedTold : Opened → List ℕ → Type 0
OpenedTold o answers = LinesTold (ByTop o.told.draft.top o.told) o.sentences o.written answers

-- the answers to a text
abbrev pub Answers : List ℕ → List ℕ → Type 0
Answers text answers = OpenedTold (opened (numbered 0 text) untold []) answers
