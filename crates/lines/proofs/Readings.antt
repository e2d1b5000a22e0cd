-- A reader that moves by state and class reads the tokens of its line.
use Rattle.std.proofs.Common.{◌≡◌, ℕ, ◌+◌, ◌<◌, ◌≤◌, true, false, cond, eqb, List, [], ◌∷◌, ◌++◌, length, get_or, drop, Some, None, Option, sym, refl, ap, ◌∙◌, append_assoc, arith}
use Rattle.std.proofs.lemmas.List.{at_drop_more, at_drop_all}
use Rattle.std.proofs.lemmas.Bool.{eq-eqb, ne_eqb, cond-true, cond-false}
use Rattle.lines.specs.declared.bytes.Class.{Class}
use Rattle.lines.specs.declared.bytes.Class.TheVariants.{Open, Close, Blank, LineEnd, Letter, Foreign}
use Rattle.lines.specs.declared.reader.Token.{Token}
use Rattle.lines.specs.declared.reader.Token.TheVariants.{Opening, Closing, Part}
use Rattle.lines.specs.Bytes.{class_of}
use Rattle.lines.specs.Tokens.{part_at, joined, before, tokens_from}
use Rattle.lines.specs.Moves.{Sofar, ended, after, given, moved}

-- a part under way, before the tokens that follow
abbrev under : Option ℕ → ℕ → List Token → List Token
under None i ts = ts
under (Some start) i ts = joined start i ts

-- what a reader ends with, where bs follow
abbrev pub read_on : Sofar → List ℕ → List Token
read_on r bs = r.tokens ++ under r.part r.at (tokens_from r.at bs)

-- the first part among tokens starts at i or later
abbrev From : ℕ → List Token → Type 0
From i [] = Unit {0}
From i (Opening at ∷ ts) = Unit {0}
From i (Closing at ∷ ts) = Unit {0}
From i (Part s ∷ ts) = i ≤ s.start

from_less : (i j : ℕ) (ts : List Token) → i ≤ j → From j ts → From i ts
from_less i j [] h p = tt
from_less i j (Opening at ∷ ts) h p = tt
from_less i j (Closing at ∷ ts) h p = tt
from_less i j (Part s ∷ ts) h p = omega arith

from_joined : (i j : ℕ) (ts : List Token) → From i (joined i j ts)
from_joined i j [] = omega arith
from_joined i j (Opening at ∷ ts) = omega arith
from_joined i j (Closing at ∷ ts) = omega arith
from_joined i j (Part s ∷ ts) =
    elim (eqb s.start j) as (λ t. From i (cond t (part_at i s.end ∷ ts) (part_at i j ∷ Part s ∷ ts))) [ true ↦ omega arith | false ↦ omega arith ]

from_before : (i : ℕ) (c : Class) (ts : List Token) → From (i + 1) ts → From i (before i c ts)
from_before i Open ts h = tt
from_before i Close ts h = tt
from_before i Blank ts h = from_less i (i + 1) ts (omega arith) h
from_before i LineEnd ts h = from_less i (i + 1) ts (omega arith) h
from_before i Letter ts h = from_joined i (i + 1) ts
from_before i Foreign ts h = from_less i (i + 1) ts (omega arith) h

from_tokens : (i : ℕ) (bs : List ℕ) → From i (tokens_from i bs)
from_tokens i [] = tt
from_tokens i (b ∷ bs) = from_before i (class_of b) (tokens_from (i + 1) bs) (from_tokens (i + 1) bs)

-- a blank ends a part
apart : (s i : ℕ) (ts : List Token) → From (i + 1) ts → joined s i ts ≡ part_at s i ∷ ts
apart s i [] h = refl
apart s i (Opening at ∷ ts) h = refl
apart s i (Closing at ∷ ts) h = refl
apart s i (Part p ∷ ts) h = cond-false _ _ _ (ne_eqb p.start i (λ e. omega arith))

-- a letter goes on with it
onto : (s i : ℕ) (ts : List Token) → joined s i (joined i (i + 1) ts) ≡ joined s (i + 1) ts
onto s i [] = cond-true _ _ _ (eq-eqb i i refl)
onto s i (Opening at ∷ ts) = cond-true _ _ _ (eq-eqb i i refl)
onto s i (Closing at ∷ ts) = cond-true _ _ _ (eq-eqb i i refl)
onto s i (Part p ∷ ts) =
    elim (eqb p.start (i + 1)) as (λ t. joined s i (cond t (part_at i p.end ∷ ts) (part_at i (i + 1) ∷ Part p ∷ ts)) ≡ cond t (part_at s p.end ∷ ts) (part_at s (i + 1) ∷ Part p ∷ ts))
    [ true ↦ cond-true _ _ _ (eq-eqb i i refl) | false ↦ cond-true _ _ _ (eq-eqb i i refl) ]

step : (s : Option ℕ) (i : ℕ) (c : Class) (ts : List Token) → From (i + 1) ts → given s i c ++ under (after s i c) (i + 1) ts ≡ under s i (before i c ts)
step None i Open ts h = refl
step None i Close ts h = refl
step None i Blank ts h = refl
step None i LineEnd ts h = refl
step None i Letter ts h = refl
step None i Foreign ts h = refl
step (Some s) i Open ts h = refl
step (Some s) i Close ts h = refl
step (Some s) i Blank ts h = sym (apart s i ts h)
step (Some s) i LineEnd ts h = sym (apart s i ts h)
step (Some s) i Letter ts h = sym (onto s i ts)
step (Some s) i Foreign ts h = sym (apart s i ts h)

pub moves : (r : Sofar) (b : ℕ) (bs : List ℕ) → read_on (moved r (class_of b)) bs ≡ read_on r (b ∷ bs)
moves r b bs = append_assoc r.tokens (given r.part r.at (class_of b)) _ ∙ ap (λ ts. r.tokens ++ ts) (step r.part r.at (class_of b) (tokens_from (r.at + 1) bs) (from_tokens (r.at + 1) bs))

-- one turn of the reader over a line, and the end
pub more : (r s : Sofar) (c : Class) (i : ℕ) (line : List ℕ) {ts : List Token} → i < length line → c ≡ class_of (get_or line i 0) → s ≡ moved r c → read_on r (drop i line) ≡ ts → read_on s (drop (i + 1) line) ≡ ts
more r s c i line h k e inv = ap (λ q. read_on q (drop (i + 1) line)) (e ∙ ap (moved r) k) ∙ moves r (get_or line i 0) (drop (i + 1) line) ∙ sym (at_drop_more (read_on r) line i 0 h) ∙ inv

pub moves_on : (r s : Sofar) (c : Class) → s ≡ moved r c → s.at ≡ r.at + 1
moves_on r s c e = ap (λ (q : Sofar). q.at) e

end : (r : Sofar) → r.tokens ++ ended r.part r.at ≡ read_on r []
end r = elim r.part as (λ s. r.tokens ++ ended s r.at ≡ r.tokens ++ under s r.at []) [ None ↦ refl | Some start ↦ refl ]

pub ends : (r : Sofar) (i : ℕ) (line : List ℕ) {ts : List Token} → length line ≤ i → read_on r (drop i line) ≡ ts → r.tokens ++ ended r.part r.at ≡ ts
ends r i line h inv = end r ∙ sym (at_drop_all (read_on r) line i h) ∙ inv
