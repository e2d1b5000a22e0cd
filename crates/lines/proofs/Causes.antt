-- Each fault is answered exactly where its cause stands first, and no cause before it stands anywhere.
use Rattle.std.proofs.Common.{◌≡◌, ℕ, ◌+◌, ◌<◌, ◌≤◌, List, [], ◌∷◌, length, Some, None, Ok, Err, Option, Result, sym, refl, ap, ◌∙◌, subst, arith}
use Rattle.std.proofs.lemmas.Option.{MatchOption-at_some, MatchOption-at_none}
use Rattle.refusals.specs.Numbers.{number}
use Rattle.refusals.specs.declared.Refusal.{Refusal}
use Rattle.refusals.specs.declared.Refusal.TheVariants.{ForeignByte, TooLong, Unpaired}
use Rattle.lines.specs.declared.fault.LineFault.{LineFault}
use Rattle.lines.specs.declared.reader.Span.{Span}
use Rattle.lines.specs.declared.reader.Token.{Token}
use Rattle.lines.specs.declared.shape.Allowed.{Allowed}
use Rattle.lines.specs.declared.shape.Misfit.{Misfit}
use Rattle.lines.specs.declared.shape.Misfit.TheVariants.{At, Missing}
use Rattle.lines.specs.Bytes.{foreign_at, too_long_at}
use Rattle.lines.specs.Decimal.{number_of}
use Rattle.lines.specs.Run.{on_ok, run}
use Rattle.lines.specs.Tokens.{bytes_at, tokens_from}
use Rattle.lines.specs.Shape.{Reading, top, chain, binary, lexical, scale, ladder, say, shape_of, unpaired_at}
use Rattle.lines.specs.Form.{fault_at, unless, fitted, or_wrong, number_at, number_on, numbers_at, valued, tokens_form, line_form}
use Rattle.lines.specs.Causes.{First, Nowhere, ForeignAt, LongAt, UnpairedAt, Causes, FaultsHaveCauses}
use Rattle.lines.proofs.Firsts.{Finds, finds_some, finds_none, finds_foreign, finds_long}
use Rattle.lines.proofs.Pairing.{finds_unpaired}

-- a fault, if there is one, has at least the number n
abbrev From : {X : Type 0} → ℕ → Result X LineFault → Type 0
From n (Ok x) = Unit {0}
From n (Err e) = n ≤ number e.refusal

then : {X Y : Type 0} (n : ℕ) (r : Result X LineFault) (f : X → Result Y LineFault) → From n r → ((x : X) → From n (f x)) → From n (on_ok r f)
then n (Ok x) f h g = g x
then n (Err e) f h g = h

fitted_from : {X : Type 0} (m : ℕ) (r : Result X Misfit) → From 4 (fitted m r)
fitted_from m (Ok x) = tt
fitted_from m (Err (At at)) = omega arith
fitted_from m (Err Missing) = omega arith

or_wrong_from : (s : Span) (o : Option ℕ) → From 4 (or_wrong s o)
or_wrong_from s (Some n) = tt
or_wrong_from s None = omega arith

number_from : (line : List ℕ) (s : Span) → From 4 (number_at line s)
number_from line s = or_wrong_from s (number_of (bytes_at line s))

numbers_from : (line ns : List ℕ) (ss : List Span) → From 4 (run (number_on line) ns ss)
numbers_from line ns [] = tt
numbers_from line ns (s ∷ ss) = then 4 (number_on line ns s) _ (then 4 (number_at line s) _ (number_from line s) (λ _. tt)) (λ ms. numbers_from line ms ss)

valued_from : (line : List ℕ) (s : Reading Span) → From 4 (valued line s)
valued_from line (top a) = tt
valued_from line (chain w a b) = then 4 (number_at line w) _ (number_from line w) (λ _. tt)
valued_from line (binary w a b c) = then 4 (number_at line w) _ (number_from line w) (λ _. tt)
valued_from line (lexical w a x) = then 4 (number_at line w) _ (number_from line w) (λ _. tt)
valued_from line (scale s) = tt
valued_from line (ladder ts) = then 4 (numbers_at line ts) _ (numbers_from line [] ts) (λ _. tt)
valued_from line (say ws) = tt

-- what is answered once the brackets pair
abbrev body : Allowed → List ℕ → List Token → Result (Option (Reading ℕ)) LineFault
body allowed line [] = Ok None
body allowed line (t ∷ ts) = on_ok (fitted (length line) (shape_of allowed line (t ∷ ts))) (λ s. on_ok (valued line s) (λ f. Ok (Some f)))

body_from : (allowed : Allowed) (line : List ℕ) (ts : List Token) → From 4 (body allowed line ts)
body_from allowed line [] = tt
body_from allowed line (t ∷ ts) = then 4 (fitted (length line) (shape_of allowed line (t ∷ ts))) _ (fitted_from (length line) (shape_of allowed line (t ∷ ts))) (λ s. then 4 (valued line s) _ (valued_from line s) (λ _. tt))

split : (allowed : Allowed) (line : List ℕ) (ts : List Token) → tokens_form allowed line ts ≡ unless Unpaired (unpaired_at (length line) ts) (body allowed line ts)
split allowed line [] = refl
split allowed line (t ∷ ts) = refl

module _ {X : Type 0} where
  from_less : (m n : ℕ) (r : Result X LineFault) → m ≤ n → From n r → From m r
  from_less m n (Ok x) h p = tt
  from_less m n (Err e) h p = omega arith

  unless_from : (n : ℕ) (cause : Refusal) (o : Option ℕ) (r : Result X LineFault) → n ≤ number cause → From n r → From n (unless cause o r)
  unless_from n cause None r h p = p
  unless_from n cause (Some at) r h p = h

  same_fault : (e f : LineFault) → ◌≡◌ {A = Result X LineFault} (Err e) (Err f) → e ≡ f
  same_fault e f h = cc

  -- a cause is answered where it has a place
  told : (cause : Refusal) (n : ℕ) (o : Option ℕ) (r : Result X LineFault) (k : ℕ) → number cause < n → From n r → unless cause o r ≡ Err (fault_at cause k) → o ≡ Some k
  told cause n None r k h p e = absurd (let q : n ≤ number cause = subst (From n) e p in omega arith)
  told cause n (Some j) r k h p e =
      let b : j + 1 ≡ k + 1 = ap (λ (f : LineFault). f.byte) (same_fault _ _ e) in
      ap Some (omega arith)

  -- another is answered where it has none
  passed : (cause later : Refusal) (o : Option ℕ) (r : Result X LineFault) (k : ℕ) → number cause < number later → unless cause o r ≡ Err (fault_at later k) → (o ≡ None) × (r ≡ Err (fault_at later k))
  passed cause later None r k h e = (refl, e)
  passed cause later (Some j) r k h e = absurd (let q : number cause ≡ number later = ap (λ (f : LineFault). number f.refusal) (same_fault _ _ e) in omega arith)

module _ (allowed : Allowed) (line : List ℕ) (k : ℕ) where
  abbrev foreign : Option ℕ
  foreign = foreign_at line

  abbrev long : Option ℕ
  long = too_long_at line

  abbrev unpaired : Option ℕ
  unpaired = unpaired_at (length line) (tokens_from 0 line)

  abbrev inner : Result (Option (Reading ℕ)) LineFault
  inner = body allowed line (tokens_from 0 line)

  abbrev whole : Result (Option (Reading ℕ)) LineFault
  whole = unless ForeignByte foreign (unless TooLong long (unless Unpaired unpaired inner))

  is : line_form allowed line ≡ whole
  is = ap (λ r. unless ForeignByte foreign (unless TooLong long r)) (split allowed line (tokens_from 0 line))

  inner_from : From 4 inner
  inner_from = body_from allowed line (tokens_from 0 line)

  third_from : From 3 (unless Unpaired unpaired inner)
  third_from = unless_from 3 Unpaired unpaired inner (omega arith) (from_less 3 4 inner (omega arith) inner_from)

  second_from : From 2 (unless TooLong long (unless Unpaired unpaired inner))
  second_from = unless_from 2 TooLong long _ (omega arith) (from_less 2 3 (unless Unpaired unpaired inner) (omega arith) third_from)

  first_at : (P : ℕ → Type 0) (o : Option ℕ) → Finds P o → o ≡ Some k → First P k
  first_at P o h e = MatchOption-at_some (Nowhere P) (First P) k e h

  nowhere : (P : ℕ → Type 0) (o : Option ℕ) → Finds P o → o ≡ None → Nowhere P
  nowhere P o h e = MatchOption-at_none (Nowhere P) (First P) e h

  causes : Causes allowed line k
  causes = record {
    foreign = λ e. first_at (ForeignAt line) foreign (finds_foreign line) (told ForeignByte 2 foreign _ k (omega arith) second_from (sym is ∙ e));
    foreign_told = λ p. is ∙ ap (λ o. unless ForeignByte o (unless TooLong long (unless Unpaired unpaired inner))) (finds_some (ForeignAt line) foreign k (finds_foreign line) p);
    long = λ e.
        let one = passed ForeignByte TooLong foreign _ k (omega arith) (sym is ∙ e) in
        (nowhere (ForeignAt line) foreign (finds_foreign line) one.0, first_at (LongAt line) long (finds_long line) (told TooLong 3 long _ k (omega arith) third_from one.1));
    long_told = λ n p.
        is
        ∙ ap (λ o. unless ForeignByte o (unless TooLong long (unless Unpaired unpaired inner))) (finds_none (ForeignAt line) foreign (finds_foreign line) n)
        ∙ ap (λ o. unless TooLong o (unless Unpaired unpaired inner)) (finds_some (LongAt line) long k (finds_long line) p);
    unpaired = λ e.
        let one = passed ForeignByte Unpaired foreign _ k (omega arith) (sym is ∙ e) in
        let two = passed TooLong Unpaired long _ k (omega arith) one.1 in (
          nowhere (ForeignAt line) foreign (finds_foreign line) one.0,
          nowhere (LongAt line) long (finds_long line) two.0,
          first_at (UnpairedAt line) unpaired (finds_unpaired line) (told Unpaired 4 unpaired _ k (omega arith) inner_from two.1),
        );
    unpaired_told = λ n m p.
        is
        ∙ ap (λ o. unless ForeignByte o (unless TooLong long (unless Unpaired unpaired inner))) (finds_none (ForeignAt line) foreign (finds_foreign line) n)
        ∙ ap (λ o. unless TooLong o (unless Unpaired unpaired inner)) (finds_none (LongAt line) long (finds_long line) m)
        ∙ ap (λ o. unless Unpaired o inner) (finds_some (UnpairedAt line) unpaired k (finds_unpaired line) p);
  }

pub faults_have_causes_lem : FaultsHaveCauses
faults_have_causes_lem allowed line k = causes allowed line k
