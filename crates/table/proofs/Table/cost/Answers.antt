use Rattle.std.proofs.Common.{◌<◌, length, get_or, Some, sym, ap, ◌∙◌, arith, rules}
use Rattle.std.proofs.lemmas.List.{get_or_read}
use Rattle.table.proofs.Views.{view_true, below_costs}
use Rattle.table.proofs.Table.cost.Goals as goal

pub offset_bounds-self-slot_of : goal.offset_bounds-self-slot_of
offset_bounds-self-slot_of g c =
    let below : c.slot_of.result < length c.args.self.now.costs.now = omega (arith, below_costs g.C.Chart.sound c.args.self.now.ready c.requires, c.slot_of.ensures) in
    search rules

pub bounds-self-slot_of : goal.bounds-self-slot_of
bounds-self-slot_of g c = omega (arith, below_costs g.C.Chart.sound c.args.self.now.ready c.requires, c.slot_of.ensures)

pub returns : goal.returns
returns g c =
    let d = g.S.Scale.scale.neutral in
    let table = c.args.self.now in
    let costs = table.costs.now in
    let read = c.index-self-slot_of in
    let inside : c.slot_of.result < length costs = omega (arith, below_costs g.C.Chart.sound table.ready c.requires, c.slot_of.ensures) in
    view_true d table.kinds (g.C.Chart.seen table.chart.now) costs c.args.a c.args.b c.args.e c.requires
    ∙ ap Some (ap (λ k. get_or costs k d) (sym c.slot_of.ensures) ∙ sym (get_or_read costs c.slot_of.result read.result inside read.is d) ∙ read.is)
