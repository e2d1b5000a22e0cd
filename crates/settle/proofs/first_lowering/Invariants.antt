use Rattle.std.proofs.Common.{◌≡◌, ℕ, true, false, get_or, None}
use Rattle.settle.proofs.Closing.{ClosedTo}
use Rattle.settle.proofs.first_lowering.Given as goal

abbrev pub invariant-loop-place : goal.invariant-loop-place
invariant-loop-place g l =
    record {
      bare : (a : ℕ) → get_or l.bare a false ≡ true → g.R.Row.costs l.row a ≡ None;
      closed : ClosedTo g.S.Scale.scale l.direction l.chains (g.R.Row.costs l.row) l.place;
    }
