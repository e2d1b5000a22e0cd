use Rattle.std.proofs.Common.{◌≡◌, ◌≤◌, drop}
use Rattle.lines.specs.Run.{run}
use Rattle.lines.specs.Shape.{deeper}
use Rattle.lines.proofs.shape.depth.Given as goal

abbrev pub invariant-loop-token : goal.invariant-loop-token
invariant-loop-token l = (run deeper l.depth (drop l.token-index l.tokens) ≡ run deeper 0 l.tokens) × (l.depth ≤ l.token-index)
