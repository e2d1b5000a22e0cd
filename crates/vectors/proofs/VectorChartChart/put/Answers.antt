-- `put`: with both bits set the two ways agree again, and one constituent is added.
use Rattle.std.proofs.Common.{refl, arith, length-set}
use Rattle.vectors.proofs.Marks.{marks_adds, marks_starts, marks_ends}
use Rattle.vectors.proofs.VectorChartChart.put.Goals as goal

pub invariant_of-self-then-takes-3 : goal.invariant_of-self-then-takes-3
invariant_of-self-then-takes-3 c =
    let s = c.args.self.now in
    let i = c.takes.ensures.fact c.if-takes.true in
    let starts = marks_starts 64 s.vectors.now s.extent.words s.extent.categories c.args.b c.args.e c.args.a c.vector_of-by_start.result c.vector_of-by_end.result
    (omega (arith, s.extent.most, s.extent.within)) s.extent.kinds (omega (arith, s.fits, s.extent.within)) i c.vector_of-by_start.ensures c.vector_of-by_end.ensures s.starts in
    let ends = marks_ends 64 s.vectors.now s.extent.words s.extent.categories c.args.b c.args.e c.args.a c.vector_of-by_start.result c.vector_of-by_end.result
    (omega (arith, s.extent.most, s.extent.within)) s.extent.kinds (omega (arith, s.fits, s.extent.within)) i c.vector_of-by_start.ensures c.vector_of-by_end.ensures s.ends in
    record { fits = simp length-set s.fits; starts = starts; ends = ends }

pub returns-then-takes : goal.returns-then-takes
returns-then-takes c =
    let s = c.args.self.now in
    let i = c.takes.ensures.fact c.if-takes.true in
    record {
      told = cc;
      room = refl;
      words = refl;
      categories = refl;
      adds = marks_adds 64 s.vectors.now s.extent.words s.extent.categories c.args.b c.args.e c.args.a c.vector_of-by_start.result c.vector_of-by_end.result
          (omega (arith, s.extent.most, s.extent.within)) s.extent.kinds (omega (arith, s.fits, s.extent.within)) i c.vector_of-by_start.ensures c.vector_of-by_end.ensures;
    }
