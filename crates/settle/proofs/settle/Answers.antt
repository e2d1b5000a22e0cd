use Rattle.std.proofs.Common.{◌<◌, List, length, set, false, true, replicate, drop, Some, None, sym, refl, subst, arith}
use Rattle.derivation.specs.declared.rules.ChainRule.{ChainRule}
use Rattle.std.proofs.lemmas.List.{take_rest}
use Rattle.settle.specs.Column.{Grown}
use Rattle.settle.specs.Offers.{By}
use Rattle.settle.specs.Chains.{Picked, Steps}
use Rattle.settle.proofs.Rows.{grown_since}
use Rattle.settle.proofs.Closing.{front_take}
use Rattle.settle.proofs.Going.{fresh, settled_same, going_none, going_more, going_all, grown_front, left_falls}
use Rattle.settle.proofs.settle.Goals as goal

pub returns-in_default-clause-settled : goal.returns-in_default-clause-settled
returns-in_default-clause-settled g c = settled_same g.met.S.Scale.lawful (g.R.Row.costs c.args.row.now) c.in_default.ensures.closed

pub loop-least-init : goal.loop-least-init
loop-least-init g c = record {
  beside = g.met.R.Row.laws.same c.args.row.now;
  going = going_none g.met.S.Scale.lawful (g.R.Row.size c.args.row.now) (g.R.Row.costs c.args.row.now) (replicate 64 false) (fresh 64);
  front = (c.in-Some.first, take_rest c.args.chains.now c.in-Some.first, front_take g.S.Scale.scale c.args.direction c.args.chains.now (g.R.Row.costs c.args.row.now) c.in-Some.first c.in-Some.ensures.closed);
}

pub loop-least-smaller : goal.loop-least-smaller
loop-least-smaller g c =
    let picked = c.in-Some-pick.ensures in
    let sized = g.met.R.Row.laws.sized _ _ c.loop-least.invariant.beside in
    left_falls c.loop-least.settled c.in-Some-pick.least.0 (omega (arith, picked.0, sized)) picked.1

pub loop-least-preserved : goal.loop-least-preserved
loop-least-preserved g c =
    let m = g.R.Row in
    let s = g.S.Scale.scale in
    let lawful = g.met.S.Scale.lawful in
    let laws = g.met.R.Row.laws in
    let row = c.loop-least.row in
    let first = c.args.row.now in
    let before = c.loop-least.invariant in
    let least = c.in-Some-pick.least in
    let sized = laws.sized first row before.beside in
    let picked : Picked s (m.costs row) c.loop-least.settled (m.size first) (Some least) = rw (sym sized) c.in-Some-pick.ensures in
    let inside : least.0 < length c.loop-least.settled = omega (arith, picked.0) in
    let offers = λ (rules : List ChainRule). Grown s (m.enters first) (By rules (length rules) (Steps s c.args.direction (set c.loop-least.settled least.0 true) least.0 least.1)) (m.costs row) (m.costs c.relax.new.row) in
    let some : offers (drop before.front.0 c.args.chains.now) = subst offers before.front.1 (grown_since lawful laws before.beside c.relax.ensures.grown) in
    let relaxed : offers c.args.chains.now = grown_front lawful before.front.2 picked.2 some in
    record {
      beside = laws.then _ _ _ before.beside c.relax.ensures.beside;
      going = going_more lawful {ok = m.enters first} {after = m.costs c.relax.new.row} least.0 least.1 inside before.going picked relaxed;
      front = (0, refl, record { by = λ k r x below at is. absurd (omega arith) });
    }

pub returns : goal.returns
returns g c =
    let sized = g.met.R.Row.laws.sized _ _ c.loop-least.invariant.beside in
    let none : Picked g.S.Scale.scale (g.R.Row.costs c.loop-least.row) c.loop-least.settled (g.R.Row.size c.args.row.now) None = rw (sym sized) c.in_default-pick.ensures in
    record {
      beside = c.loop-least.invariant.beside;
      settled = going_all g.met.S.Scale.lawful c.requires.named c.loop-least.invariant.going none;
    }
