-- What a sentence is answered: the first refusal of its words or of the request, a cheapest tree, or that there is none.
use Rattle.std.specs.Prelude.{◌≡◌, ℕ, ◌&&◌, ◌⊎◌, cond, List, [], ◌∷◌, ◌++◌, length, Some, None, Ok, Err, Option, Result, ◌==◌, nat_le, nat_lt}
use Rattle.refusals.specs.declared.Refusal.{Refusal}
use Rattle.refusals.specs.declared.Refusal.TheVariants.{UnknownWord, SessionFull, NoWords, WrongLadder, NoDerivation}
use Rattle.derivation.specs.Scale.{Scale}
use Rattle.derivation.specs.Grammar.{Grammar, grammar}
use Rattle.bound.specs.Floor.{floor_entry}
use Rattle.tree.specs.declared.node.Node.{Node}
use Rattle.search.specs.declared.best.Tree.{Tree}
use Rattle.lines.specs.declared.reader.Span.{Span}
use Rattle.lines.specs.Run.{run}
use Rattle.lines.specs.Tokens.{bytes_at}
use Rattle.grammar.specs.declared.closed.Closed.{Closed}
use Rattle.grammar.specs.Listed.{listed, lookup}
use Rattle.grammar.specs.Seen.{Seen}
use Rattle.session.specs.Request.{rises}
use Rattle.session.specs.Cheapest.{Whole, Handed}
use Rattle.render.specs.Render.{render}
use Rattle.sentences.specs.Written.{refusal_line, tree_line, title, spelled}

-- a grammar with the names of its categories and its words
pub record Language : Type 0 where
  pub grammar : Grammar
  pub categories : List (List ℕ)
  pub words : List (List ℕ)

abbrev pub language : Closed → Language
language g = record { grammar = grammar g.rules; categories = listed g.categories; words = listed g.words }

-- that of a draft with a top
abbrev pub drafted : Seen → ℕ → Language
drafted s top = record { grammar = record { top = top; categories = length s.categories; vocabulary = length s.words; lexical = s.lexical; chains = s.chains; binaries = s.binaries }; categories = s.categories; words = s.words }

-- one word more, if it is known; a 21st is too many
abbrev pub one_more : List ℕ → Option ℕ → Result (List ℕ) Refusal
one_more held None = Err UnknownWord
one_more held (Some word) = cond (nat_lt (length held) 20) (Ok (held ++ word ∷ [])) (Err SessionFull)

-- the numbers of the words at some places of a line, put in turn
abbrev pub heard : List (List ℕ) → List ℕ → List Span → Result (List ℕ) Refusal
heard names line words = run (λ held word. one_more held (lookup names (bytes_at line word))) [] words

-- what is in the way of a tree
abbrev pub hindrance : {Cost : Type 0} → Scale Cost → List Cost → List ℕ → Option Refusal
hindrance s ladder held = cond (length held == 0) (Some NoWords) (cond (nat_le (length ladder) 16 && rises s ladder) None (Some WrongLadder))

module _ {Cost : Type 0} (s : Scale Cost) (cost_text : Cost → Option (List ℕ)) (l : Language) (ladder : List Cost) (number : ℕ) where
  -- the line of a cheapest tree of the words held
  pub record TreeTold (held text : List ℕ) : Type 0 where
    pub tree : Tree Cost
    pub nodes : List Node
    pub handed : Handed s l.grammar (λ _. floor_entry s) ladder held nodes tree
    pub line : (cost : List ℕ) → cost_text tree.cost ≡ Some cost → text ≡ tree_line cost tree.rung tree.kept (render (title l.categories) (spelled l.words held) handed.derivation)

  -- or a refusal, as there is none
  pub record NoneTold (held text : List ℕ) : Type 0 where
    pub none : Whole l.grammar held → ⊥
    pub line : text ≡ refusal_line NoDerivation number

  abbrev pub Requested : Option Refusal → List ℕ → List ℕ → Type 0
  Requested (Some r) held text = text ≡ refusal_line r number
  Requested None held text = TreeTold held text ⊎ NoneTold held text

  abbrev pub Heard : Result (List ℕ) Refusal → List ℕ → Type 0
  Heard (Ok held) text = Requested (hindrance s ladder held) held text
  Heard (Err r) text = text ≡ refusal_line r number

  abbrev pub SentenceTold : List ℕ → List Span → List ℕ → Type 0
  SentenceTold line words text = Heard (heard l.words line words) text
