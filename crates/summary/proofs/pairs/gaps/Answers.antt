use Rattle.std.proofs.Common.{◌≡◌, ◌+◌, ◌-◌, ◌*◌, ap, ◌∙◌, arith}
use Rattle.summary.specs.Memory.{view, place}
use Rattle.summary.specs.Filling.{across}
use Rattle.summary.proofs.Placing.{row_before, grown_pile, combined}
use Rattle.summary.proofs.Order.{shorter_before, across_few}
use Rattle.summary.proofs.pairs.gaps.Goals as goal

pub row_at-requires : goal.row_at-requires
row_at-requires g c =
    let pair = c.args.pair in
    let size = c.categories-size.result in
    let low = row_before size c.row_without.result (place pair.span pair.left pair.right) (omega (arith, c.row_without.ensures, shorter_before c.args.side pair.span pair.left pair.right c.loop-m.m c.loop-m.auto.m (omega (arith, c.across-m-end.ensures)))) in
    omega (arith, low, c.requires.room, ap (λ k. place pair.span pair.left pair.right * k) c.categories-size.ensures)

pub row_at-requires-in-loop-m : goal.row_at-requires-in-loop-m
row_at-requires-in-loop-m g c =
    let pair = c.args.pair in
    let size = c.categories-size.result in
    let low = row_before size (c.loop-m.m - 1) (place pair.span pair.left pair.right) (omega (arith, pair.short, c.across-m-end.ensures, across_few c.args.side pair.left pair.right)) in
    omega (arith, low, c.requires.room, ap (λ k. place pair.span pair.left pair.right * k) c.categories-size.ensures)

pub loop-m-preserved : goal.loop-m-preserved
loop-m-preserved g c =
    let lawful = g.met.S.Scale.lawful in
    let laws = g.met.R.Row.laws in
    let before = c.loop-m.invariant in
    let around = c.row_at.ensures.row ∙ ap (λ i. view c.categories-size.result c.args.before.now (i * c.categories-size.result)) c.row_without.ensures in
    record {
      under = omega arith;
      beside = laws.then _ _ _ before.beside c.combine.ensures.beside;
      grown = grown_pile lawful c.loop-m.auto.m before.grown (combined lawful laws before.beside around c.row_at-in-loop-m.ensures.row c.combine.ensures.grown);
    }

pub returns-clause-grown : goal.returns-clause-grown
returns-clause-grown g c =
    let all : c.loop-m.m ≡ across c.args.side c.args.pair.left c.args.pair.right + 1 = omega (arith, c.loop-m.invariant.under, c.across-m-end.ensures) in
    rw (← c.categories-size.ensures) (rw all at c.loop-m.invariant.grown)

pub returns-2-clause-grown : goal.returns-2-clause-grown
returns-2-clause-grown g c =
    let lawful = g.met.S.Scale.lawful in
    let before = c.loop-m.invariant in
    let around = c.row_at.ensures.row ∙ ap (λ i. view c.categories-size.result c.args.before.now (i * c.categories-size.result)) c.row_without.ensures in
    let grown = grown_pile lawful c.loop-m.auto.m before.grown (combined lawful g.met.R.Row.laws before.beside around c.row_at-in-loop-m.ensures.row c.combine.ensures.grown) in
    let all : c.loop-m.m ≡ across c.args.side c.args.pair.left c.args.pair.right = omega (arith, c.across-m-end.ensures) in
    rw (← c.categories-size.ensures) (rw all at grown)
