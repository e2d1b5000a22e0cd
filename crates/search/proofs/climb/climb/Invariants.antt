use Rattle.std.proofs.Common.{◌≡◌, ℕ, ◌*◌, ◌<◌, ◌≤◌, length, get_or}
use Rattle.derivation.specs.Grammar.{grammar}
use Rattle.derivation.specs.Ladder.{Fails}
use Rattle.chart.specs.Triangle.{tri}
use Rattle.search.proofs.climb.climb.Given as goal

abbrev pub invariant-loop-rung : goal.invariant-loop-rung
invariant-loop-rung g l =
    let s = g.S.Scale.scale in
    let seen = g.C.Chart.seen in
    record {
      room : (seen l.chart).room ≡ (seen l.initial.chart).room;
      beyond : (k : ℕ) → tri (length l.text) * l.rules.categories ≤ k → get_or l.costs k s.neutral ≡ get_or l.initial.costs k s.neutral;
      failed : (j : ℕ) → j < l.rung → Fails s (grammar l.rules) (g.B.Bound.limit l.bound) l.ladder l.text j;
    }
