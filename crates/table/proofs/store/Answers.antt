use Rattle.std.proofs.Common.{◌≡◌, ℕ, ◌<◌, Bool, true, length, set, sym, ◌∙◌, subst, arith, rules}
use Rattle.chart.specs.Meaning.{Inside, Adds}
use Rattle.chart.proofs.Within.{inside_from}
use Rattle.table.specs.Memory.{slot, Stored}
use Rattle.table.proofs.Slots.{slot_below}
use Rattle.table.proofs.Views.{stored, held_inside, inside_placed}
use Rattle.table.proofs.store.Goals as goal

pub offset_bounds-costs-slot_of : goal.offset_bounds-costs-slot_of
offset_bounds-costs-slot_of g c =
    let below : c.slot_of.result < length c.args.costs.now = omega (arith, slot_below _ _ _ _ _ (inside_placed c.requires.placed c.requires.kind), c.slot_of.ensures, c.requires.placed.ready.fits) in
    search rules

pub bounds-costs-slot_of : goal.bounds-costs-slot_of
bounds-costs-slot_of g c = omega (arith, slot_below _ _ _ _ _ (inside_placed c.requires.placed c.requires.kind), c.slot_of.ensures, c.requires.placed.ready.fits)

pub returns : goal.returns
returns g c =
    let m = g.C.Chart in
    let chart = m.seen c.args.chart.now in
    let after = m.seen c.put.new.self in
    let did = c.put.ensures in
    let costs = c.args.costs.now in
    let d = g.S.Scale.scale.neutral in
    let kinds = c.args.kinds in
    let b = c.args.b in
    let e = c.args.e in
    let a = c.args.a in
    let ready = c.requires.placed.ready in
    let here = inside_placed c.requires.placed c.requires.kind in
    let inside : Inside chart.words chart.categories b e a = subst (λ k. Inside chart.words k b e a) (sym ready.same) here in
    let yes : c.put.result ≡ true = did.told ∙ inside_from _ _ _ _ _ inside in
    let adds : Adds chart.holds after.holds true b e a = subst (λ (t : Bool). Adds chart.holds after.holds t b e a) yes did.adds in
    let bounded = λ (x y z : ℕ) (t : chart.holds x y z ≡ true). held_inside ready (m.sound.bounded c.args.chart.now x y z t) in
    let fits : slot kinds b e a < length costs = omega (arith, slot_below _ _ _ _ _ here, ready.fits) in
    subst (λ (i : ℕ). Stored d kinds b e a c.args.cost chart costs after (set costs i c.args.cost)) (sym c.slot_of.ensures)
    (stored d kinds chart after costs bounded b e a c.args.cost here fits (record { room = did.room; words = did.words; categories = did.categories }) adds)
