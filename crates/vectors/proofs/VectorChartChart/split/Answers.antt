-- `split`: the trailing zeros of the "and" are the lowest split, or all bits where there is none.
use Rattle.std.proofs.Common.{◌<◌, sym, ◌∙◌, arith}
use Rattle.chart.proofs.Within.{outside_tells}
use Rattle.vectors.proofs.Marks.{split_inside, shared_lowest, shared_before}
use Rattle.vectors.proofs.VectorChartChart.split.Goals as goal
use Rattle.vectors.proofs.VectorChartChart.split.Goals.{else-takes-via-then-takes+else-q-self, else-takes-via-else-takes}

pub returns-then-m-lt-BITS : goal.returns-then-m-lt-BITS
returns-then-m-lt-BITS c =
    let s = c.args.self.now in
    let i = c.takes.ensures.fact c.if-takes.true in (
      shared_lowest s.vectors.now s.extent.words s.extent.categories c.args.p c.args.q c.args.b c.args.e c.vector_of.result c.vector_of-then-q-self.result
          s.starts s.ends i c.if-q-self.true c.vector_of.ensures c.vector_of-then-q-self.ensures 64 c.if-m-lt-BITS.true,
      shared_before s.vectors.now s.extent.words s.extent.categories c.args.p c.args.q c.args.b c.args.e c.vector_of.result c.vector_of-then-q-self.result
          s.starts s.ends i c.if-q-self.true c.vector_of.ensures c.vector_of-then-q-self.ensures 64,
    )

pub returns-else-m-lt-BITS : goal.returns-else-m-lt-BITS
returns-else-m-lt-BITS c m split =
    let s = c.args.self.now in
    let i = c.takes.ensures.fact c.if-takes.true in
    let high : m < c.args.e = split.1 in
    shared_before s.vectors.now s.extent.words s.extent.categories c.args.p c.args.q c.args.b c.args.e c.vector_of.result c.vector_of-then-q-self.result
    s.starts s.ends i c.if-q-self.true c.vector_of.ensures c.vector_of-then-q-self.ensures 64 m
    (omega (arith, i.last, s.extent.within, s.extent.most, c.if-m-lt-BITS.false)) split

pub returns-else-takes : goal.returns-else-takes
returns-else-takes c m split =
    let s = c.args.self.now in
    let i = split_inside s.vectors.now s.extent.words s.extent.categories c.args.p c.args.q c.args.b c.args.e m split in
    elim c.else-takes.branch [
      | else-takes-via-then-takes+else-q-self w ↦ omega (arith, i.1, w.if-q-self.false)
      | else-takes-via-else-takes w ↦
          outside_tells s.extent.words s.extent.categories c.args.b c.args.e c.args.p (sym c.takes.ensures.answer ∙ w.if-takes.false) i.0
    ]
