-- What it is to add a line to a draft: its names get their numbers, and then the rule or the top stands there.
-- The checks come in the order of the refusals' numbers.
use Rattle.std.specs.Prelude.{ℕ, Bool, false, cond, ◌&&◌, List, [], ◌∷◌, ◌++◌, length, is_some, Some, Ok, Err, Result, ◌==◌, nat_lt}
use Rattle.std.specs.List.{list_any}
use Rattle.refusals.specs.declared.Refusal.{Refusal}
use Rattle.refusals.specs.declared.Refusal.TheVariants.{GrammarFull, Duplicate, SelfChain, WrongTop}
use Rattle.derivation.specs.declared.rules.WordRule.{WordRule}
use Rattle.derivation.specs.declared.rules.ChainRule.{ChainRule}
use Rattle.derivation.specs.declared.rules.BinaryRule.{BinaryRule}
use Rattle.lines.specs.Run.{on_ok}
use Rattle.grammar.specs.declared.flaw.Flaw.{Flaw}
use Rattle.grammar.specs.declared.flaw.Part.{Part}
use Rattle.grammar.specs.declared.flaw.Part.TheVariants.{Line, Category, First, Second}
use Rattle.grammar.specs.Listed.{number_of}
use Rattle.grammar.specs.Seen.{Seen, rules}

-- a refusal at a part of the line
abbrev pub at_part : {X : Type 0} → Part → Result X Refusal → Result X Flaw
at_part part (Ok x) = Ok x
at_part part (Err e) = Err (record { refusal = e; part = part })

-- a refusal of the line as a whole
abbrev pub whole : {X : Type 0} → Refusal → Result X Flaw
whole e = Err (record { refusal = e; part = Line })

-- the number of a name, and the names with it among them: a new name comes after the others, if there is room for it
abbrev pub entering : ℕ → List (List ℕ) → List ℕ → Result (ℕ × List (List ℕ)) Refusal
entering most names name =
    cond (nat_lt (number_of names name) (length names)) (Ok (number_of names name, names))
    (cond (nat_lt (length names) most) (Ok (length names, names ++ name ∷ [])) (Err GrammarFull))

abbrev pub with_categories : Seen → List (List ℕ) → Seen
with_categories s names = record { number = s.number; limit = s.limit; top = s.top; categories = names; words = s.words; lexical = s.lexical; chains = s.chains; binaries = s.binaries }

abbrev pub with_words : Seen → List (List ℕ) → Seen
with_words s names = record { number = s.number; limit = s.limit; top = s.top; categories = s.categories; words = names; lexical = s.lexical; chains = s.chains; binaries = s.binaries }

-- the number of the category or the word at a part of the line
abbrev pub naming : Part → Seen → List ℕ → Result (ℕ × Seen) Flaw
naming part s name = on_ok (at_part part (entering s.limit s.categories name)) (λ p. Ok (p.0, with_categories s p.1))

abbrev pub wording : Seen → List ℕ → Result (ℕ × Seen) Flaw
wording s name = on_ok (at_part First (entering 512 s.words name)) (λ p. Ok (p.0, with_words s p.1))

abbrev pub room : Seen → Result (Unit {0}) Flaw
room s = cond (nat_lt (rules s) 1024) (Ok tt) (whole GrammarFull)

-- the number of the category that a rule is for, if there is room for one more rule
abbrev pub heading : Seen → List ℕ → Result (ℕ × Seen) Flaw
heading s name = on_ok (room s) (λ _. naming Category s name)

-- rules with the same symbols, whatever their weights
abbrev pub same_lexical : WordRule → WordRule → Bool
same_lexical r o = r.category == o.category && r.word == o.word

abbrev pub same_chains : ChainRule → ChainRule → Bool
same_chains r o = r.category == o.category && r.part == o.part

abbrev pub same_binaries : BinaryRule → BinaryRule → Bool
same_binaries r o = r.category == o.category && (r.left == o.left && r.right == o.right)

-- a rule after those of its kind: none with the same symbols is among them, and it chains no category to itself
abbrev pub putting : {R : Type 0} → (R → R → Bool) → (R → Bool) → List R → R → Result (List R) Flaw
putting same loops rules r =
    cond (list_any (same r) rules) (whole Duplicate)
    (cond (loops r) (whole SelfChain)
    (Ok (rules ++ r ∷ [])))

abbrev pub with_lexical : Seen → List WordRule → Seen
with_lexical s rules = record { number = s.number; limit = s.limit; top = s.top; categories = s.categories; words = s.words; lexical = rules; chains = s.chains; binaries = s.binaries }

abbrev pub with_chains : Seen → List ChainRule → Seen
with_chains s rules = record { number = s.number; limit = s.limit; top = s.top; categories = s.categories; words = s.words; lexical = s.lexical; chains = rules; binaries = s.binaries }

abbrev pub with_binaries : Seen → List BinaryRule → Seen
with_binaries s rules = record { number = s.number; limit = s.limit; top = s.top; categories = s.categories; words = s.words; lexical = s.lexical; chains = s.chains; binaries = rules }

abbrev pub put_lexical : Seen → WordRule → Result Seen Flaw
put_lexical s r = on_ok (putting same_lexical (λ _. false) s.lexical r) (λ rules. Ok (with_lexical s rules))

abbrev pub put_chain : Seen → ChainRule → Result Seen Flaw
put_chain s r = on_ok (putting same_chains (λ o. o.category == o.part) s.chains r) (λ rules. Ok (with_chains s rules))

abbrev pub put_binary : Seen → BinaryRule → Result Seen Flaw
put_binary s r = on_ok (putting same_binaries (λ _. false) s.binaries r) (λ rules. Ok (with_binaries s rules))

abbrev pub put_top : Seen → ℕ → Result Seen Flaw
put_top s t =
    cond (is_some s.top) (whole WrongTop)
    (Ok (record { number = s.number; limit = s.limit; top = Some t; categories = s.categories; words = s.words; lexical = s.lexical; chains = s.chains; binaries = s.binaries }))

-- (top A)
abbrev pub adding_top : Seen → List ℕ → Result Seen Flaw
adding_top s a =
    on_ok (naming Category s a) (λ c.
    put_top c.1 c.0)

-- (lex W (A w))
abbrev pub adding_lexical : Seen → ℕ → List ℕ → List ℕ → Result Seen Flaw
adding_lexical s weight a w =
    on_ok (heading s a) (λ c.
    on_ok (wording c.1 w) (λ p.
    put_lexical p.1 (record { category = c.0; word = p.0; weight = weight })))

-- (rule W (A B))
abbrev pub adding_chain : Seen → ℕ → List ℕ → List ℕ → Result Seen Flaw
adding_chain s weight a b =
    on_ok (heading s a) (λ c.
    on_ok (naming First c.1 b) (λ p.
    put_chain p.1 (record { category = c.0; part = p.0; weight = weight })))

-- (rule W (A B C))
abbrev pub adding_binary : Seen → ℕ → List ℕ → List ℕ → List ℕ → Result Seen Flaw
adding_binary s weight a b c =
    on_ok (heading s a) (λ x.
    on_ok (naming First x.1 b) (λ y.
    on_ok (naming Second y.1 c) (λ z.
    put_binary z.1 (record { category = x.0; left = y.0; right = z.0; weight = weight }))))
