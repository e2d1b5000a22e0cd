-- What is seen of a session, and of the closed grammar that is handed to its calls.
use Rattle.std.specs.Prelude.{ℕ, List, []}
use Rattle.derivation.specs.Grammar.{Grammar, grammar}
use Rattle.grammar.specs.declared.closed.Closed.{Closed}
use Rattle.session.specs.declared.state.Session.{Session}

-- the words held, the tally of trees handed out, and the number of its grammar
pub record State : Type 0 where
  pub held : List ℕ
  pub tally : ℕ
  pub number : ℕ

abbrev pub state : Session → State
state s = record { held = s.words.items; tally = s.tally; number = s.number }

-- the same session, holding other words
abbrev pub holding : State → List ℕ → State
holding s ws = record { held = ws; tally = s.tally; number = s.number }

-- a closed grammar by its number and its rules
pub record Over : Type 0 where
  pub number : ℕ
  pub grammar : Grammar

abbrev pub over : Closed → Over
over g = record { number = g.number; grammar = grammar g.rules }

-- a session just opened over a grammar
abbrev pub opened : Over → State
opened o = record { held = []; tally = 0; number = o.number }
