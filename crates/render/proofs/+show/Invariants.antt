use Rattle.std.proofs.Common.{length}
use Rattle.render.proofs.+show.Given as goal

-- the nodes left
abbrev pub decreases-show : goal.decreases-show
decreases-show g l = length l.nodes.now
