-- The shape of a line: which brackets, heads and parts follow one another. Numbers are not read here.
use Rattle.std.specs.Prelude.{◌≡◌, ℕ, ◌+◌, ◌-◌, Bool, true, cond, List, [], ◌∷◌, ◌++◌, Some, None, Ok, Err, vec_items, codes, Option, Result, ◌==◌}
use Rattle.std.specs.Slice.Iter.{iter_rest}
use Rattle.std.specs.Str.{bytes_eq}
use Rattle.lines.specs.declared.form.Form.{Form}
use Rattle.lines.specs.declared.form.Form.TheVariants as forms
use Rattle.lines.specs.declared.reader.Span.{Span}
use Rattle.lines.specs.declared.reader.Token.{Token}
use Rattle.lines.specs.declared.reader.Token.TheVariants.{Opening, Closing, Part}
use Rattle.lines.specs.declared.shape.Allowed.{Allowed}
use Rattle.lines.specs.declared.shape.Head.{Head}
use Rattle.lines.specs.declared.shape.Head.TheVariants.{Top, Rule, Lex, Scale, Ladder, Say}
use Rattle.lines.specs.declared.shape.Misfit.{Misfit}
use Rattle.lines.specs.declared.shape.Misfit.TheVariants.{At, Missing}
use Rattle.lines.specs.declared.shape.ScaleName.{ScaleName}
use Rattle.lines.specs.declared.shape.ScaleName.TheVariants.{Sum, Worst}
use Rattle.lines.specs.declared.shape.Cursor.{Cursor}
use Rattle.lines.specs.Run.{on_ok, ◌>>=◌, run}
use Rattle.lines.specs.Tokens.{bytes_at, start_of}

-- what a line says; its numbers are of type N: spans of the line before they are read, then numbers
pub data Reading (N : Type 0) : Type 0 where
  top : Span → Reading N
  chain : N → Span → Span → Reading N
  binary : N → Span → Span → Span → Reading N
  lexical : N → Span → Span → Reading N
  scale : ScaleName → Reading N
  ladder : List N → Reading N
  say : List Span → Reading N

-- a form as the definitions have it, with lists for its vectors
abbrev pub shown : {N : Type 0} → Form N → Reading N
shown (forms.Top a) = top a
shown (forms.Chain w a b) = chain w a b
shown (forms.Binary w a b c) = binary w a b c
shown (forms.Lexical w a x) = lexical w a x
shown (forms.Scale s) = scale s
shown (forms.Ladder ts) = ladder (vec_items ts)
shown (forms.Say ws) = say (vec_items ws)

-- how many brackets are open after a token; a closing one with none open is an error, at its place
abbrev pub deeper : ℕ → Token → Result ℕ ℕ
deeper d (Opening at) = Ok (d + 1)
deeper d (Closing at) = cond (d == 0) (Err at) (Ok (d - 1))
deeper d (Part s) = Ok d

abbrev pub still_open : ℕ → Result ℕ ℕ → Option ℕ
still_open n (Ok d) = cond (d == 0) None (Some n)
still_open n (Err at) = Some at

-- the place of the bracket that does not pair: the first closing one with none open, or the end n of the line where a closing one is missing
abbrev pub unpaired_at : ℕ → List Token → Option ℕ
unpaired_at n ts = still_open n (run deeper 0 ts)

-- what comes next: a token, or the end of the line
abbrev pub first : List Token → Option Token
first [] = None
first (t ∷ ts) = Some t

abbrev pub rest : List Token → List Token
rest [] = []
rest (t ∷ ts) = ts

-- what comes next as what is wanted there. A part or an opening bracket is missing where a closing bracket or the end comes
abbrev pub as_opening : Option Token → Result (Unit {0}) Misfit
as_opening (Some (Opening at)) = Ok tt
as_opening (Some (Closing at)) = Err Missing
as_opening (Some (Part s)) = Err (At s.start)
as_opening None = Err Missing

abbrev pub as_closing : Option Token → Result (Unit {0}) Misfit
as_closing (Some (Opening at)) = Err (At at)
as_closing (Some (Closing at)) = Ok tt
as_closing (Some (Part s)) = Err (At s.start)
as_closing None = Err Missing

abbrev pub as_end : Option Token → Result (Unit {0}) Misfit
as_end (Some t) = Err (At (start_of t))
as_end None = Ok tt

abbrev pub as_part : Option Token → Result Span Misfit
as_part (Some (Opening at)) = Err (At at)
as_part (Some (Closing at)) = Err Missing
as_part (Some (Part s)) = Ok s
as_part None = Err Missing

-- one more part, or the closing bracket
abbrev pub as_more : Option Token → Result (Option Span) Misfit
as_more (Some (Opening at)) = Err (At at)
as_more (Some (Closing at)) = Ok None
as_more (Some (Part s)) = Ok (Some s)
as_more None = Err Missing

-- the answer and the tokens that are left, or a misfit
abbrev pub Parsed : Type 0 → Type 0
Parsed X = Result (X × List Token) Misfit

abbrev pub taken : {X : Type 0} → (Option Token → Result X Misfit) → List Token → Parsed X
taken f ts = on_ok (f (first ts)) (λ x. Ok (x, rest ts))

abbrev pub left : Cursor → List Token
left c = iter_rest c.rest

-- what a function gave, seen by f, and left in a cursor
abbrev pub Gave : {X T : Type 0} → (X → T) → Result X Misfit → List Token → Parsed T → Type 0
Gave f (Ok x) ts s = Ok (f x, ts) ≡ s
Gave f (Err e) ts s = Err e ≡ s

abbrev pub head_of : List ℕ → Option Head
head_of w =
    cond (bytes_eq w (codes "top")) (Some Top)
    (cond (bytes_eq w (codes "rule")) (Some Rule)
    (cond (bytes_eq w (codes "lex")) (Some Lex)
    (cond (bytes_eq w (codes "scale")) (Some Scale)
    (cond (bytes_eq w (codes "ladder")) (Some Ladder)
    (cond (bytes_eq w (codes "say")) (Some Say) None)))))

-- which heads may stand at a place
abbrev pub permits : Allowed → Head → Bool
permits a Top = a.grammar
permits a Rule = a.grammar
permits a Lex = a.grammar
permits a Scale = a.scale
permits a Ladder = a.ladder
permits a Say = true

abbrev pub as_head : Allowed → Span → Option Head → Result Head Misfit
as_head a s (Some h) = cond (permits a h) (Ok h) (Err (At s.start))
as_head a s None = Err (At s.start)

abbrev pub head_part : Allowed → List ℕ → List Token → Parsed Head
head_part a line ts = do
  p ← taken as_part ts
  h ← as_head a p.0 (head_of (bytes_at line p.0))
  Ok (h, p.1)

-- (top A), after its head
abbrev pub top_of : List Token → Parsed (Reading Span)
top_of ts = do
  a ← taken as_part ts
  b ← taken as_closing a.1
  Ok (top a.0, b.1)

-- (A B) or (A B C), after A and B
abbrev pub body_of : Span → Span → Span → Option Span → List Token → Parsed (Reading Span)
body_of w a b None ts = Ok (chain w a b, ts)
body_of w a b (Some c) ts = on_ok (taken as_closing ts) (λ d. Ok (binary w a b c, d.1))

-- (rule W (A B)) or (rule W (A B C)), after its head
abbrev pub rule_of : List Token → Parsed (Reading Span)
rule_of ts = do
  w ← taken as_part ts
  o ← taken as_opening w.1
  a ← taken as_part o.1
  b ← taken as_part a.1
  m ← taken as_more b.1
  f ← body_of w.0 a.0 b.0 m.0 m.1
  d ← taken as_closing f.1
  Ok (f.0, d.1)

-- (lex W (A w)), after its head
abbrev pub lex_of : List Token → Parsed (Reading Span)
lex_of ts = do
  w ← taken as_part ts
  o ← taken as_opening w.1
  a ← taken as_part o.1
  x ← taken as_part a.1
  c ← taken as_closing x.1
  d ← taken as_closing c.1
  Ok (lexical w.0 a.0 x.0, d.1)

abbrev pub scale_named : Span → List ℕ → Result ScaleName Misfit
scale_named s w =
    cond (bytes_eq w (codes "sum")) (Ok Sum)
    (cond (bytes_eq w (codes "worst")) (Ok Worst) (Err (At s.start)))

-- (scale sum) or (scale worst), after its head
abbrev pub scale_of : List ℕ → List Token → Parsed (Reading Span)
scale_of line ts = do
  p ← taken as_part ts
  s ← scale_named p.0 (bytes_at line p.0)
  c ← taken as_closing p.1
  Ok (scale s, c.1)

-- the parts up to a closing bracket, after those that came before
abbrev pub parts_on : List Span → List Token → Parsed (List Span)
parts_on ps [] = Err Missing
parts_on ps (Opening at ∷ ts) = Err (At at)
parts_on ps (Closing at ∷ ts) = Ok (ps, ts)
parts_on ps (Part s ∷ ts) = parts_on (ps ++ s ∷ []) ts

-- (ladder T ..) and (say w ..), after their heads
abbrev pub ladder_of : List Token → Parsed (Reading Span)
ladder_of ts = on_ok (parts_on [] ts) (λ p. Ok (ladder p.0, p.1))

abbrev pub say_of : List Token → Parsed (Reading Span)
say_of ts = on_ok (parts_on [] ts) (λ p. Ok (say p.0, p.1))

abbrev pub by_head : List ℕ → List Token → Head → Parsed (Reading Span)
by_head line ts Top = top_of ts
by_head line ts Rule = rule_of ts
by_head line ts Lex = lex_of ts
by_head line ts Scale = scale_of line ts
by_head line ts Ladder = ladder_of ts
by_head line ts Say = say_of ts

-- one form and nothing after it
abbrev pub shape_of : Allowed → List ℕ → List Token → Result (Reading Span) Misfit
shape_of allowed line ts = do
  o ← taken as_opening ts
  h ← head_part allowed line o.1
  f ← by_head line h.1 h.0
  e ← taken as_end f.1
  Ok f.0
