use Rattle.std.proofs.Common.{◌≡◌, false, eqb, get_or, sym, ap, ◌∙◌, arith}
use Rattle.chart.specs.Meaning.{inside}
use Rattle.chart.specs.Bytes.{marked}
use Rattle.chart.proofs.Within.{limited_inside, limited_outside}
use Rattle.chart.proofs.Marks.{place_below}
use Rattle.chart.proofs.bytes.ByteChartChart.has.Goals as goal

pub bounds-self-place_of : goal.bounds-self-place_of
bounds-self-place_of c =
    let s = c.args.self.now in
    let i = c.takes.ensures.fact c.if-takes.true in
    omega (arith, place_below s.extent.words s.extent.categories s.extent.capacity c.args.b c.args.e c.args.a s.extent.kinds s.extent.within i, s.fits, c.place_of.ensures)

pub returns-then-takes : goal.returns-then-takes
returns-then-takes c =
    let s = c.args.self.now in
    let i = c.takes.ensures.fact c.if-takes.true in
    ap (λ k. eqb (get_or s.bytes.now k 0) 1) c.place_of.ensures
    ∙ sym (limited_inside s.extent.words s.extent.categories (marked s.bytes.now) c.args.b c.args.e c.args.a i)

pub returns-else-takes : goal.returns-else-takes
returns-else-takes c =
    let s = c.args.self.now in
    let out : inside s.extent.words s.extent.categories c.args.b c.args.e c.args.a ≡ false = cc in
    c.if-takes.false ∙ sym (limited_outside s.extent.words s.extent.categories (marked s.bytes.now) c.args.b c.args.e c.args.a out)
