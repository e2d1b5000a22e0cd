use Rattle.std.proofs.Common.{arith}
use Rattle.chart.specs.Bytes.{marked}
use Rattle.chart.proofs.Within.{limited_empty}
use Rattle.chart.proofs.bytes.ByteChart.new.Goals as goal

pub returns-clause-empty : goal.returns-clause-empty
returns-clause-empty c = limited_empty 0 0 (marked c.args.bytes.now) (λ b e a i. absurd (omega (arith, i.kind)))
