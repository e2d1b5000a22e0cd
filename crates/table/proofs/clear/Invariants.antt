use Rattle.std.proofs.Common.{◌≡◌, ℕ, ◌<◌, get_or}
use Rattle.table.proofs.clear.Given as goal

abbrev pub invariant-loop-cost : goal.invariant-loop-cost
invariant-loop-cost g l = let d = g.S.Scale.scale.neutral in (k : ℕ) → k < l.cost-index → get_or l.cost-items k d ≡ d
