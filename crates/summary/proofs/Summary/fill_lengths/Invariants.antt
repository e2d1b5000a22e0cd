use Rattle.std.proofs.Common.{◌≡◌, ℕ, ◌+◌, ◌-◌, ◌*◌, ◌≤◌}
use Rattle.derivation.specs.Grammar.{grammar}
use Rattle.settle.specs.Offers.{cell}
use Rattle.summary.specs.Filling.{Insides}
use Rattle.summary.specs.Kept.{Kept}
use Rattle.summary.proofs.Summary.fill_lengths.Given as goal

abbrev pub invariant-loop-n : goal.invariant-loop-n
invariant-loop-n g l =
    record {
      under : l.n ≤ l.n-end + 1;
      kept : Kept l.initial.self l.self;
      exact : Insides g.S.Scale.scale (grammar l.rules) l.initial.self.categories (l.n - 1) l.self.memory.now;
      past : (k : ℕ) → l.initial.self.span * l.initial.self.categories ≤ k → cell l.self.memory.now k ≡ cell l.initial.self.memory.now k;
    }
