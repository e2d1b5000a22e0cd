use Rattle.std.proofs.Common.{◌≡◌, ℕ, drop}
use Rattle.settle.proofs.Closing.{ClosedTo}
use Rattle.settle.proofs.Going.{Going, left}
use Rattle.settle.proofs.settle.Given as goal

abbrev pub invariant-loop-least : goal.invariant-loop-least
invariant-loop-least g l =
    record {
      beside : g.R.Row.beside l.initial.row l.row;
      going : Going g.S.Scale.scale (g.R.Row.enters l.initial.row) l.direction l.chains (g.R.Row.size l.initial.row) (g.R.Row.costs l.initial.row) (g.R.Row.costs l.row) l.settled;
      front : (j : ℕ) × (l.rules ≡ drop j l.chains) × ClosedTo g.S.Scale.scale l.direction l.chains (g.R.Row.costs l.row) j;
    }

abbrev pub decreases-loop-least : goal.decreases-loop-least
decreases-loop-least g l = left l.settled
