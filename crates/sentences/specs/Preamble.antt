-- The lines before the first sentence: what they say, and what is written for those that are refused.
use Rattle.std.specs.Prelude.{◌≡◌, ℕ, true, not, List, [], ◌∷◌, ◌++◌, is_some, Some, None, Ok, Err, Option, Result, option_map, vec_items}
use Rattle.std.specs.declared.ops.ControlFlow.{ControlFlow}
use Rattle.std.specs.declared.ops.ControlFlow.TheVariants.{Continue, Break}
use Rattle.lines.specs.declared.fault.LineFault.{LineFault}
use Rattle.lines.specs.declared.fault.Stop.{Stop}
use Rattle.lines.specs.declared.form.Form.TheVariants.{Top, Chain, Binary, Lexical}
use Rattle.lines.specs.declared.shape.Allowed.{Allowed}
use Rattle.lines.specs.declared.shape.ScaleName.{ScaleName}
use Rattle.lines.specs.Run.{on_ok}
use Rattle.lines.specs.Said.{Stops}
use Rattle.lines.specs.Shape.{Reading, top, chain, binary, lexical, scale, ladder, say}
use Rattle.lines.specs.Form.{line_form}
use Rattle.grammar.specs.Seen.{Seen, empty}
use Rattle.grammar.specs.Drafts.{seen}
use Rattle.grammar.specs.Taking.{taking}
use Rattle.sentences.specs.declared.preamble.Preamble.{Preamble}
use Rattle.sentences.specs.Written.{refusal_line}

-- what was said so far of the grammar, the scale and the ladder
pub record Told : Type 0 where
  pub draft : Seen
  pub scale : Option ScaleName
  pub ladder : Option (List ℕ)

abbrev pub told : Preamble → Told
told p = record { draft = seen p.draft; scale = p.scale; ladder = option_map vec_items p.ladder }

-- nothing yet: the grammar has the number 1, and takes at most 32 categories
abbrev pub untold : Told
untold = record { draft = empty 1 32; scale = None; ladder = None }

-- scale and ladder are said once
abbrev pub heads : Told → Allowed
heads t = record { grammar = true; scale = not (is_some t.scale); ladder = not (is_some t.ladder) }

abbrev pub drafted : Told → Result Seen LineFault → Result (Option Told) LineFault
drafted t d = on_ok d (λ s. Ok (Some (record { draft = s; scale = t.scale; ladder = t.ladder })))

-- what was said after one more line; none where the line is a sentence
abbrev pub said : Told → List ℕ → Option (Reading ℕ) → Result (Option Told) LineFault
said t line None = Ok (Some t)
said t line (Some (top a)) = drafted t (taking t.draft line (Top a))
said t line (Some (chain w a b)) = drafted t (taking t.draft line (Chain w a b))
said t line (Some (binary w a b c)) = drafted t (taking t.draft line (Binary w a b c))
said t line (Some (lexical w a x)) = drafted t (taking t.draft line (Lexical w a x))
said t line (Some (scale s)) = Ok (Some (record { draft = t.draft; scale = Some s; ladder = t.ladder }))
said t line (Some (ladder ts)) = Ok (Some (record { draft = t.draft; scale = t.scale; ladder = Some ts }))
said t line (Some (say ws)) = Ok None

abbrev pub telling : Told → List ℕ → Result (Option Told) LineFault
telling t line = on_ok (line_form (heads t) line) (said t line)

-- one line taken: a sentence breaks off; a refused line, and want of memory, leave all as it was
abbrev pub Takes : Result (Option Told) LineFault → Told → Result (ControlFlow (Unit {0}) (Unit {0})) (Stop LineFault) → Told → Type 0
Takes due before (Ok (Continue x)) after = due ≡ Ok (Some after)
Takes due before (Ok (Break x)) after = (due ≡ Ok None) × (after ≡ before)
Takes due before (Err e) after = (after ≡ before) × Stops e due

-- what is said before the first sentence, the text written then, and the lines from the first sentence on
pub record Opened : Type 0 where
  pub told : Told
  pub written : List ℕ
  pub sentences : List (ℕ × List ℕ)

-- one line, before the others
abbrev pub opens : Result (Option Told) LineFault → ℕ × List ℕ → List (ℕ × List ℕ) → (Told → List ℕ → Opened) → Told → List ℕ → Opened
opens (Ok None) line lines others t out = record { told = t; written = out; sentences = line ∷ lines }
opens (Ok (Some u)) line lines others t out = others u out
opens (Err f) line lines others t out = others t (out ++ refusal_line f.refusal line.0)

abbrev pub opened : List (ℕ × List ℕ) → Told → List ℕ → Opened
opened [] t out = record { told = t; written = out; sentences = [] }
opened (line ∷ lines) t out = opens (telling t line.1) line lines (opened lines) t out
