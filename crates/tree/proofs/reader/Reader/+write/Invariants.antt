use Rattle.std.proofs.Common.{◌+◌, ◌-◌, ◌*◌, unwrap_or}
use Rattle.tree.specs.Ways.{rank}
use Rattle.tree.proofs.reader.Reader.+write.Given as goal

-- first the words, then the rank
abbrev pub decreases-write : goal.decreases-write
decreases-write g l = 66 * (l.span.end - l.span.begin) + 65

abbrev pub decreases-write_ranked : goal.decreases-write_ranked
decreases-write_ranked g l = 66 * (l.span.end - l.span.begin) + unwrap_or (rank l.ranks.now l.category) 0
