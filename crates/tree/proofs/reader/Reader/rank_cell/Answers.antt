use Rattle.std.proofs.Common.{◌≡◌, ◌<◌, Some, None, ap, arith, get_or-set_same}
use Rattle.std.specs.Option.{is_some}
use Rattle.tree.specs.Ways.{rank}
use Rattle.tree.proofs.Held.{placed}
use Rattle.tree.proofs.Marks.{many, many_most}
use Rattle.tree.proofs.Ranking.{no_ranks, has_rank, cost_of, given, absent, ranked_none, ranked_one, ranked_up, more_ranked}
use Rattle.tree.proofs.reader.Reader.rank_cell.Goals as goal

pub returns-then-is_some-clause-ranked : goal.returns-then-is_some-clause-ranked
returns-then-is_some-clause-ranked g c =
    let p = placed c.args.self.now.table.now g.C.Chart.sound _ _ _ (cost_of c.requires.grounded).1 in
    let kinds = c.args.self.now.kinds in
    let (step, way) = given c.way.result c.if-is_some.ensures _ _ c.way.ensures.found in
    rw c.from.ensures (ranked_one c.args.category c.args.self.now.rules.now.categories (omega (arith, p.kind)) (omega (arith, p.few)) step way)

pub returns-then-is_some-clause-some : goal.returns-then-is_some-clause-some
returns-then-is_some-clause-some g c =
    let p = placed c.args.self.now.table.now g.C.Chart.sound _ _ _ (cost_of c.requires.grounded).1 in
    rw c.from.ensures (ap is_some (get_or-set_same no_ranks c.args.category (Some 1) None (omega (arith, p.kind, p.few))))

pub loop-span-init : goal.loop-span-init
loop-span-init g c = (ranked_none, omega arith)

pub bounds-ranks-from-in-loop-span : goal.bounds-ranks-from-in-loop-span
bounds-ranks-from-in-loop-span g c =
    let p = placed c.args.self.now.table.now g.C.Chart.sound _ _ _ (cost_of c.requires.grounded).1 in
    omega (arith, p.kind, p.few)

-- a sweep gives one more rank
more : (g : _) (c : goal.After-sweep g) → many (has_rank c.loop-span.ranks) c.args.self.now.rules.now.categories < many (has_rank c.sweep.new.ranks) c.args.self.now.rules.now.categories
more g c =
    let few = c.args.self.now.kinds in
    let fresh : rank c.loop-span.ranks c.args.category ≡ None = absent _ (simp c.from-in-loop-span.ensures at c.loop-span-test.ensures) in
    more_ranked c.loop-span.ranks c.sweep.new.ranks c.loop-span.level c.args.self.now.rules.now.categories (λ x y is. omega (arith, (placed c.args.self.now.table.now g.C.Chart.sound _ _ _ is).kind)) c.loop-span.invariant.0 c.requires.grounded fresh c.sweep.ensures

pub loop-span-smaller : goal.loop-span-smaller
loop-span-smaller g c = omega (arith, more g c, many_most (has_rank c.sweep.new.ranks) c.args.self.now.rules.now.categories)

pub loop-span-preserved : goal.loop-span-preserved
loop-span-preserved g c = (c.sweep.ensures.ranked, omega (arith, more g c, c.loop-span.invariant.1))

pub overflow_add-level : goal.overflow_add-level
overflow_add-level g c =
    let few = c.args.self.now.rules.now.few in
    omega (arith, c.loop-span.invariant.1, many_most (has_rank c.loop-span.ranks) c.args.self.now.rules.now.categories)

pub returns-clause-ranked : goal.returns-clause-ranked
returns-clause-ranked g c = ranked_up c.loop-span.level _ (omega (arith, c.loop-span.invariant.1, many_most (has_rank c.loop-span.ranks) c.args.self.now.rules.now.categories)) c.loop-span.invariant.0
