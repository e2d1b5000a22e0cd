use Rattle.std.proofs.Common.{◌+◌, arith}
use Rattle.summary.proofs.Order.{tri_double}
use Rattle.summary.proofs.pair.row_of.Goals as goal

pub returns : goal.returns
returns c = omega (arith, tri_double (c.args.left + c.args.right))
