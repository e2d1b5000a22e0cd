use Rattle.std.proofs.Common.{sym}
use Rattle.chart.proofs.Triangles.{tri_closed}
use Rattle.chart.proofs.cells.cells_of.Goals as goal

pub returns-clause-sum : goal.returns-clause-sum
returns-clause-sum c = sym (tri_closed c.args.n)
