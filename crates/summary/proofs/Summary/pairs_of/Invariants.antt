use Rattle.std.proofs.Common.{◌+◌, ◌≤◌}
use Rattle.derivation.specs.Grammar.{grammar}
use Rattle.summary.specs.Filling.{Insides, Outsides}
use Rattle.summary.specs.Kept.{Kept}
use Rattle.summary.proofs.Summary.pairs_of.Given as goal

abbrev pub invariant-loop-left : goal.invariant-loop-left
invariant-loop-left g l =
    record {
      under : l.left ≤ l.n + 1;
      kept : Kept l.initial.self l.self;
      lengths : Insides g.S.Scale.scale (grammar l.rules) l.initial.self.categories l.initial.self.span l.self.memory.now;
      exact : Outsides g.S.Scale.scale (grammar l.rules) l.initial.self.categories l.initial.self.span l.n l.left l.self.memory.now;
    }
