use Rattle.std.proofs.Common.{◌≡◌, ◌-◌, ◌*◌, ap, arith}
use Rattle.summary.proofs.Placing.{row_before, grown_pile, combined}
use Rattle.summary.proofs.lengths.pair_lengths.Goals as goal

pub row_at-requires-in-loop-m : goal.row_at-requires-in-loop-m
row_at-requires-in-loop-m g c = omega (arith, row_before c.categories-size.result (c.args.n - c.loop-m.m - 1) (c.args.n - 1) (omega (arith, c.loop-m.auto.m)), c.requires.room, ap (λ k. (c.args.n - 1) * k) c.categories-size.ensures)

pub loop-m-preserved : goal.loop-m-preserved
loop-m-preserved g c =
    let lawful = g.met.S.Scale.lawful in
    let laws = g.met.R.Row.laws in
    let before = c.loop-m.invariant in
    record {
      beside = laws.then _ _ _ before.beside c.combine.ensures.beside;
      grown = grown_pile lawful c.loop-m.auto.m before.grown (combined lawful laws before.beside c.row_at.ensures.row c.row_at-in-loop-m.ensures.row c.combine.ensures.grown);
    }

pub returns-clause-grown : goal.returns-clause-grown
returns-clause-grown g c =
    let all : c.loop-m.m ≡ c.args.n = omega (arith, c.loop-m.auto.m, c.loop-m.auto.m-end, c.requires.some) in
    rw (← c.categories-size.ensures) (rw all at c.loop-m.invariant.grown)
