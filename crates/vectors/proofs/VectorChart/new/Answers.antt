-- `new`: with no words and no categories nothing is held, whatever the vectors are.
use Rattle.std.proofs.Common.{arith}
use Rattle.chart.proofs.Within.{limited_empty}
use Rattle.vectors.specs.Vectors.{by_start}
use Rattle.vectors.proofs.VectorChart.new.Goals as goal

pub returns-clause-empty : goal.returns-clause-empty
returns-clause-empty c = limited_empty 0 0 (by_start c.args.vectors.now) (λ b e a i. absurd (omega (arith, i.kind)))
