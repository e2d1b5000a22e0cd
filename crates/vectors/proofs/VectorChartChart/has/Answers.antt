-- `has`: the bit that is read says what is held.
use Rattle.std.proofs.Common.{◌≡◌, false, get_or, sym, ap, ◌∙◌}
use Rattle.chart.specs.Meaning.{inside}
use Rattle.chart.proofs.Within.{limited_inside, limited_outside}
use Rattle.vectors.specs.Bit.{bit}
use Rattle.vectors.specs.Vectors.{by_start}
use Rattle.vectors.proofs.Digits.{bit-read}
use Rattle.vectors.proofs.VectorChartChart.has.Goals as goal

pub returns-then-takes : goal.returns-then-takes
returns-then-takes c =
    let s = c.args.self.now in
    let i = c.takes.ensures.fact c.if-takes.true in
    bit-read c.args.e (get_or s.vectors.now c.vector_of.result 0) ∙ ap (λ k. bit c.args.e (get_or s.vectors.now k 0)) c.vector_of.ensures
    ∙ sym (limited_inside s.extent.words s.extent.categories (by_start s.vectors.now) c.args.b c.args.e c.args.a i)

pub returns-else-takes : goal.returns-else-takes
returns-else-takes c =
    let s = c.args.self.now in
    let out : inside s.extent.words s.extent.categories c.args.b c.args.e c.args.a ≡ false = cc in
    c.if-takes.false ∙ sym (limited_outside s.extent.words s.extent.categories (by_start s.vectors.now) c.args.b c.args.e c.args.a out)
