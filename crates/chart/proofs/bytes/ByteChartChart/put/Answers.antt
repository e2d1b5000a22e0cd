use Rattle.std.proofs.Common.{ℕ, ◌<◌, true, length, set, sym, refl, subst, arith}
use Rattle.chart.specs.Meaning.{Adds}
use Rattle.chart.specs.Bytes.{place, held}
use Rattle.chart.proofs.Marks.{place_below, set_adds}
use Rattle.chart.proofs.bytes.ByteChartChart.put.Goals as goal

pub bounds-self-place_of : goal.bounds-self-place_of
bounds-self-place_of c =
    let s = c.args.self.now in
    let i = c.takes.ensures.fact c.if-takes.true in
    omega (arith, place_below s.extent.words s.extent.categories s.extent.capacity c.args.b c.args.e c.args.a s.extent.kinds s.extent.within i, s.fits, c.place_of.ensures)

pub returns-then-takes : goal.returns-then-takes
returns-then-takes c =
    let s = c.args.self.now in
    let b = c.args.b in
    let e = c.args.e in
    let a = c.args.a in
    let i = c.takes.ensures.fact c.if-takes.true in
    let fits : place b e a < length s.bytes.now = omega (arith, place_below s.extent.words s.extent.categories s.extent.capacity b e a s.extent.kinds s.extent.within i, s.fits) in
    let P : ℕ → Type 0 = λ k. Adds (held s.bytes.now s.extent.words s.extent.categories) (held (set s.bytes.now k 1) s.extent.words s.extent.categories) true b e a in
    record {
      told = cc;
      room = refl;
      words = refl;
      categories = refl;
      adds = subst P (sym c.place_of.ensures) (set_adds s.bytes.now s.extent.words s.extent.categories b e a s.extent.kinds fits i);
    }
