use Rattle.derivation.specs.Grammar.{grammar}
use Rattle.summary.specs.Filling.{Insides, Outsides}
use Rattle.summary.specs.Kept.{Kept}
use Rattle.summary.proofs.Summary.fill_pairs.Given as goal

abbrev pub invariant-loop-n : goal.invariant-loop-n
invariant-loop-n g l =
    record {
      kept : Kept l.initial.self l.self;
      lengths : Insides g.S.Scale.scale (grammar l.rules) l.initial.self.categories l.initial.self.span l.self.memory.now;
      exact : Outsides g.S.Scale.scale (grammar l.rules) l.initial.self.categories l.initial.self.span l.n 0 l.self.memory.now;
    }
