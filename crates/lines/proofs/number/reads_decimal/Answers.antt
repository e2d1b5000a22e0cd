use Rattle.lines.proofs.Written.{reads_decimal_lem}
use Rattle.lines.proofs.number.reads_decimal.Goals as goal

pub returns : goal.returns
returns c = reads_decimal_lem
