use Rattle.summary.proofs.Order.{rows_is}
use Rattle.summary.proofs.rows_for.Goals as goal

pub returns : goal.returns
returns c = rows_is c.args.span
