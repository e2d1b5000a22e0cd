-- Every span of a form lies in the line that it was read from.
use Rattle.std.proofs.Common.{◌≡◌, ℕ, ◌+◌, ◌<◌, ◌≤◌, true, false, cond, eqb, List, [], ◌∷◌, ◌++◌, length, IfOk, Some, None, Ok, Err, Option, Result, sym, refl, subst, zero-add, arith}
use Rattle.std.specs.List.{AllByRecursion}
use Rattle.std.proofs.ByRecursion.{All-append}
use Rattle.std.proofs.lemmas.Bool.{eqb-true}
use Rattle.refusals.specs.declared.Refusal.{Refusal}
use Rattle.lines.specs.declared.bytes.Class.{Class}
use Rattle.lines.specs.declared.bytes.Class.TheVariants.{Open, Close, Blank, LineEnd, Letter, Foreign}
use Rattle.lines.specs.declared.fault.LineFault.{LineFault}
use Rattle.lines.specs.declared.fault.Stop.{Stop}
use Rattle.lines.specs.declared.reader.Span.{Span}
use Rattle.lines.specs.declared.reader.Token.{Token}
use Rattle.lines.specs.declared.reader.Token.TheVariants.{Opening, Closing, Part}
use Rattle.lines.specs.declared.shape.Allowed.{Allowed}
use Rattle.lines.specs.declared.shape.Head.{Head}
use Rattle.lines.specs.declared.shape.Head.TheVariants.{Top, Rule, Lex, Scale, Ladder, Say}
use Rattle.lines.specs.declared.shape.Misfit.{Misfit}
use Rattle.lines.specs.Bytes.{class_of, foreign_at, too_long_at}
use Rattle.lines.specs.Run.{on_ok}
use Rattle.lines.specs.Said.{Says}
use Rattle.lines.specs.Tokens.{bytes_at, part_at, joined, before, tokens_from}
use Rattle.lines.specs.Shape.{Reading, top, chain, binary, lexical, scale, ladder, say, first, rest, as_opening, as_closing, as_end, as_part, as_more, Parsed, taken, head_of, as_head, head_part, top_of, body_of, rule_of, lex_of, scale_named, scale_of, parts_on, by_head, shape_of, unpaired_at}
use Rattle.lines.specs.Form.{unless, fitted, number_at, numbers_at, valued, tokens_form, line_form, Lies, Inside, InsideIf}

abbrev Stands : ℕ → Token → Type 0
Stands n (Opening at) = Unit {0}
Stands n (Closing at) = Unit {0}
Stands n (Part s) = Lies n s

joined_stands : (n s e : ℕ) (ts : List Token) → s < e → e ≤ n → AllByRecursion (Stands n) ts → AllByRecursion (Stands n) (joined s e ts)
joined_stands n s e [] h k a = (record { some = h; inside = k }, tt)
joined_stands n s e (Opening at ∷ ts) h k a = (record { some = h; inside = k }, a)
joined_stands n s e (Closing at ∷ ts) h k a = (record { some = h; inside = k }, a)
joined_stands n s e (Part p ∷ ts) h k a =
    elim (eqb p.start e) as (λ t. eqb p.start e ≡ t → AllByRecursion (Stands n) (cond t (part_at s p.end ∷ ts) (part_at s e ∷ Part p ∷ ts))) [
      | true ↦ λ q. (record { some = omega (arith, a.0.some, eqb-true p.start e q); inside = a.0.inside }, a.1)
      | false ↦ λ _. (record { some = h; inside = k }, a)
    ]
    refl

before_stands : (n i : ℕ) (c : Class) (ts : List Token) → i < n → AllByRecursion (Stands n) ts → AllByRecursion (Stands n) (before i c ts)
before_stands n i Open ts h a = (tt, a)
before_stands n i Close ts h a = (tt, a)
before_stands n i Blank ts h a = a
before_stands n i LineEnd ts h a = a
before_stands n i Letter ts h a = joined_stands n i (i + 1) ts (omega arith) (omega arith) a
before_stands n i Foreign ts h a = a

tokens_stand : (n i : ℕ) (bs : List ℕ) → i + length bs ≡ n → AllByRecursion (Stands n) (tokens_from i bs)
tokens_stand n i [] e = tt
tokens_stand n i (b ∷ bs) e = before_stands n i (class_of b) (tokens_from (i + 1) bs) (omega arith) (tokens_stand n (i + 1) bs (omega arith))

then : {X Y E : Type 0} (P : X → Type 0) (Q : Y → Type 0) (r : Result X E) (f : X → Result Y E) → IfOk r P → ((x : X) → P x → IfOk (f x) Q) → IfOk (on_ok r f) Q
then P Q (Ok x) f h g = g x h
then P Q (Err e) f h g = tt

abbrev Any : {X : Type 0} → X → Type 0
Any x = Unit {0}

any : {X E : Type 0} (r : Result X E) → IfOk r Any
any (Ok x) = tt
any (Err e) = tt

-- what was read has P, and the tokens that are left stand in the line
abbrev Left : {X : Type 0} → ℕ → (X → Type 0) → X × List Token → Type 0
Left n P p = P p.0 × AllByRecursion (Stands n) p.1

rest_stands : (n : ℕ) (ts : List Token) → AllByRecursion (Stands n) ts → AllByRecursion (Stands n) (rest ts)
rest_stands n [] a = tt
rest_stands n (t ∷ ts) a = a.1

next : {X : Type 0} (n : ℕ) (f : Option Token → Result X Misfit) (ts : List Token) → AllByRecursion (Stands n) ts → IfOk (taken f ts) (Left n Any)
next n f ts a = then Any (Left n Any) (f (first ts)) (λ x. Ok (x, rest ts)) (any (f (first ts))) (λ x _. (tt, rest_stands n ts a))

part : (n : ℕ) (ts : List Token) → AllByRecursion (Stands n) ts → IfOk (taken as_part ts) (Left n (Lies n))
part n [] a = tt
part n (Opening at ∷ ts) a = tt
part n (Closing at ∷ ts) a = tt
part n (Part s ∷ ts) a = a

abbrev LiesIf : ℕ → Option Span → Type 0
LiesIf n None = Unit {0}
LiesIf n (Some s) = Lies n s

more : (n : ℕ) (ts : List Token) → AllByRecursion (Stands n) ts → IfOk (taken as_more ts) (Left n (LiesIf n))
more n [] a = tt
more n (Opening at ∷ ts) a = tt
more n (Closing at ∷ ts) a = (tt, a.1)
more n (Part s ∷ ts) a = a

parts : (n : ℕ) (ps : List Span) (ts : List Token) → AllByRecursion (Lies n) ps → AllByRecursion (Stands n) ts → IfOk (parts_on ps ts) (Left n (AllByRecursion (Lies n)))
parts n ps [] l a = tt
parts n ps (Opening at ∷ ts) l a = tt
parts n ps (Closing at ∷ ts) l a = (l, a.1)
parts n ps (Part s ∷ ts) l a = parts n (ps ++ s ∷ []) ts (All-append _ ps _ l (a.0, tt)) a.1

-- the spans of a shape, but for its numbers
abbrev In : ℕ → Reading Span → Type 0
In n (top a) = Lies n a
In n (chain w a b) = Lies n a × Lies n b
In n (binary w a b c) = Lies n a × Lies n b × Lies n c
In n (lexical w a x) = Lies n a × Lies n x
In n (scale s) = Unit {0}
In n (ladder ts) = Unit {0}
In n (say ws) = AllByRecursion (Lies n) ws

module _ (n : ℕ) where
  abbrev Made : Parsed (Reading Span) → Type 0
  Made r = IfOk r (Left n (In n))

  -- the next token is a part, or any that fits
  on_part : (ts : List Token) (f : Span × List Token → Parsed (Reading Span)) → AllByRecursion (Stands n) ts → ((p : Span × List Token) → Left n (Lies n) p → Made (f p)) → Made (on_ok (taken as_part ts) f)
  on_part ts f a g = then (Left n (Lies n)) (Left n (In n)) (taken as_part ts) f (part n ts a) g

  on_next : {X : Type 0} (t : Option Token → Result X Misfit) (ts : List Token) (f : X × List Token → Parsed (Reading Span)) → AllByRecursion (Stands n) ts → ((p : X × List Token) → AllByRecursion (Stands n) p.1 → Made (f p)) → Made (on_ok (taken t ts) f)
  on_next t ts f a g = then (Left n Any) (Left n (In n)) (taken t ts) f (next n t ts a) (λ p h. g p h.1)

  top_in : (ts : List Token) → AllByRecursion (Stands n) ts → Made (top_of ts)
  top_in ts a = on_part ts _ a (λ p h. on_next as_closing p.1 _ h.1 (λ q k. (h.0, k)))

  body_in : (w a b : Span) (c : Option Span) (ts : List Token) → Lies n a → Lies n b → LiesIf n c → AllByRecursion (Stands n) ts → Made (body_of w a b c ts)
  body_in w a b None ts h k l s = ((h, k), s)
  body_in w a b (Some c) ts h k l s = on_next as_closing ts _ s (λ q d. ((h, k, l), d))

  rule_in : (ts : List Token) → AllByRecursion (Stands n) ts → Made (rule_of ts)
  rule_in ts a =
      on_next as_part ts _ a (λ w aw.
      on_next as_opening w.1 _ aw (λ o ao.
      on_part o.1 _ ao (λ p hp.
      on_part p.1 _ hp.1 (λ q hq.
      then (Left n (LiesIf n)) (Left n (In n)) (taken as_more q.1) _ (more n q.1 hq.1) (λ m hm.
      then (Left n (In n)) (Left n (In n)) (body_of w.0 p.0 q.0 m.0 m.1) _ (body_in w.0 p.0 q.0 m.0 m.1 hp.0 hq.0 hm.0 hm.1) (λ f hf.
      on_next as_closing f.1 _ hf.1 (λ d ad. (hf.0, ad))))))))

  lex_in : (ts : List Token) → AllByRecursion (Stands n) ts → Made (lex_of ts)
  lex_in ts a =
      on_next as_part ts _ a (λ w aw.
      on_next as_opening w.1 _ aw (λ o ao.
      on_part o.1 _ ao (λ p hp.
      on_part p.1 _ hp.1 (λ q hq.
      on_next as_closing q.1 _ hq.1 (λ c ac.
      on_next as_closing c.1 _ ac (λ d ad. ((hp.0, hq.0), ad)))))))

  scale_in : (line : List ℕ) (ts : List Token) → AllByRecursion (Stands n) ts → Made (scale_of line ts)
  scale_in line ts a =
      on_next as_part ts _ a (λ p ap.
      then Any (Left n (In n)) (scale_named p.0 (bytes_at line p.0)) _ (any (scale_named p.0 (bytes_at line p.0))) (λ s _.
      on_next as_closing p.1 _ ap (λ c ac. (tt, ac))))

  by_head_lem : (line : List ℕ) (ts : List Token) (h : Head) → AllByRecursion (Stands n) ts → Made (by_head line ts h)
  by_head_lem line ts Top a = top_in ts a
  by_head_lem line ts Rule a = rule_in ts a
  by_head_lem line ts Lex a = lex_in ts a
  by_head_lem line ts Scale a = scale_in line ts a
  by_head_lem line ts Ladder a = then (Left n (AllByRecursion (Lies n))) (Left n (In n)) (parts_on [] ts) _ (parts n [] ts tt a) (λ p h. (tt, h.1))
  by_head_lem line ts Say a = then (Left n (AllByRecursion (Lies n))) (Left n (In n)) (parts_on [] ts) _ (parts n [] ts tt a) (λ p h. h)

  head_in : (allowed : Allowed) (line : List ℕ) (ts : List Token) → AllByRecursion (Stands n) ts → IfOk (head_part allowed line ts) (Left n Any)
  head_in allowed line ts a =
      then (Left n Any) (Left n Any) (taken as_part ts) _ (next n as_part ts a) (λ p h.
      then Any (Left n Any) (as_head allowed p.0 (head_of (bytes_at line p.0))) _ (any (as_head allowed p.0 (head_of (bytes_at line p.0)))) (λ d _. (tt, h.1)))

  shape_in : (allowed : Allowed) (line : List ℕ) (ts : List Token) → AllByRecursion (Stands n) ts → IfOk (shape_of allowed line ts) (In n)
  shape_in allowed line ts a =
      then (Left n Any) (In n) (taken as_opening ts) _ (next n as_opening ts a) (λ o ho.
      then (Left n Any) (In n) (head_part allowed line o.1) _ (head_in allowed line o.1 ho.1) (λ h hh.
      then (Left n (In n)) (In n) (by_head line h.1 h.0) _ (by_head_lem line h.1 h.0 hh.1) (λ f hf.
      then Any (In n) (taken as_end f.1) _ (any (taken as_end f.1)) (λ e _. hf.0))))

  fitted_in : (m : ℕ) (r : Result (Reading Span) Misfit) → IfOk r (In n) → IfOk (fitted m r) (In n)
  fitted_in m (Ok s) h = h
  fitted_in m (Err e) h = tt

  -- numbers have no places
  number_in : (line : List ℕ) (w : Span) (f : ℕ → Reading ℕ) → ((k : ℕ) → Inside n (f k)) → IfOk (on_ok (number_at line w) (λ k. Ok (f k))) (Inside n)
  number_in line w f g = then Any (Inside n) (number_at line w) (λ k. Ok (f k)) (any (number_at line w)) (λ k _. g k)

  valued_in : (line : List ℕ) (s : Reading Span) → In n s → IfOk (valued line s) (Inside n)
  valued_in line (top a) h = h
  valued_in line (chain w a b) h = number_in line w (λ k. chain k a b) (λ _. h)
  valued_in line (binary w a b c) h = number_in line w (λ k. binary k a b c) (λ _. h)
  valued_in line (lexical w a x) h = number_in line w (λ k. lexical k a x) (λ _. h)
  valued_in line (scale s) h = tt
  valued_in line (ladder ts) h = then Any (Inside n) (numbers_at line ts) _ (any (numbers_at line ts)) (λ _ _. tt)
  valued_in line (say ws) h = h

  unless_in : (cause : Refusal) (o : Option ℕ) (r : Result (Option (Reading ℕ)) LineFault) → IfOk r (InsideIf n) → IfOk (unless cause o r) (InsideIf n)
  unless_in cause None r h = h
  unless_in cause (Some at) r h = tt

  tokens_in : (allowed : Allowed) (line : List ℕ) (ts : List Token) → AllByRecursion (Stands n) ts → IfOk (tokens_form allowed line ts) (InsideIf n)
  tokens_in allowed line [] a = tt
  tokens_in allowed line (t ∷ ts) a =
      unless_in _ (unpaired_at (length line) (t ∷ ts)) _ (
      then (In n) (InsideIf n) (fitted (length line) (shape_of allowed line (t ∷ ts))) _ (fitted_in (length line) (shape_of allowed line (t ∷ ts)) (shape_in allowed line (t ∷ ts) a)) (λ s hs.
      then (Inside n) (InsideIf n) (valued line s) _ (valued_in line s hs) (λ f hf. hf)))

pub form_inside : (allowed : Allowed) (line : List ℕ) → IfOk (line_form allowed line) (InsideIf (length line))
form_inside allowed line =
    let n = length line in
    unless_in n _ (foreign_at line) _ (unless_in n _ (too_long_at line) _ (tokens_in n allowed line (tokens_from 0 line) (tokens_stand n 0 line (zero-add n))))

-- an answer that says what a definition says of the line lies where that lies
pub said_inside : {X : Type 0} (n : ℕ) (f : X → Option (Reading ℕ)) (r : Result X (Stop LineFault)) (s : Result (Option (Reading ℕ)) LineFault) → Says f r s → IfOk s (InsideIf n) → IfOk r (λ x. InsideIf n (f x))
said_inside n f (Ok x) s e h = subst (λ q. IfOk q (InsideIf n)) (sym e) h
said_inside n f (Err e) s p h = tt
