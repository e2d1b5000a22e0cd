use Rattle.std.proofs.Common.{rules, length, Ok}
use Rattle.chart.proofs.Triangles.{tri_closed}
use Rattle.session.specs.declared.sizes.Sizes.{Sizes}
use Rattle.session.specs.State.{state, over}
use Rattle.session.specs.Request.{Memory}
use Rattle.session.proofs.Promise.{promised}
use Rattle.session.proofs.state.Session.tree.Goals as goal

pub returns-in_err-allows-clause-cheapest : goal.returns-in_err-allows-clause-cheapest
returns-in_err-allows-clause-cheapest g c calls leads made =
    let o = over c.args.grammar.now in
    let before : Memory g.row.S-Cost.Denot = record { session = state c.args.self.now; chart = g.C.Chart.seen c.args.chart.now; costs = c.args.costs.now; nodes = c.args.nodes.now } in
    let z : Sizes = record { room = before.chart.room; span = g.B.Bound.reach c.args.bound.now; costs = length before.costs; nodes = length before.nodes } in
    promised g.met.S.Scale.lawful o (g.B.Bound.limit c.args.bound.now) c.args.ladder.now before before z calls c.from_residual.result (c.span.ensures.law o.grammar made) leads (search rules)

pub best-requires-clause-long : goal.best-requires-clause-long
best-requires-clause-long g c = rw (tri_closed (length c.deref.result.now)) (search rules)

pub returns-in_err-tree-clause-cheapest : goal.returns-in_err-tree-clause-cheapest
returns-in_err-tree-clause-cheapest g c calls leads made =
    let o = over c.args.grammar.now in
    let before : Memory g.row.S-Cost.Denot = record { session = state c.args.self.now; chart = g.C.Chart.seen c.args.chart.now; costs = c.args.costs.now; nodes = c.args.nodes.now } in
    let after : Memory g.row.S-Cost.Denot = record { session = state c.args.self.now; chart = g.C.Chart.seen c.best.new.chart; costs = c.best.new.costs; nodes = c.best.new.nodes } in
    let z : Sizes = record { room = before.chart.room; span = g.B.Bound.reach c.args.bound.now; costs = length before.costs; nodes = length before.nodes } in
    promised g.met.S.Scale.lawful o (g.B.Bound.limit c.args.bound.now) c.args.ladder.now before after z calls c.from_residual-in_err-tree.result (c.span.ensures.law o.grammar made) leads (search rules)

pub returns-clause-cheapest : goal.returns-clause-cheapest
returns-clause-cheapest g c calls leads made =
    let o = over c.args.grammar.now in
    let before : Memory g.row.S-Cost.Denot = record { session = state c.args.self.now; chart = g.C.Chart.seen c.args.chart.now; costs = c.args.costs.now; nodes = c.args.nodes.now } in
    let after : Memory g.row.S-Cost.Denot = record { session = record { held = before.session.held; tally = c.saturating_add-self.result; number = before.session.number }; chart = g.C.Chart.seen c.best.new.chart; costs = c.best.new.costs; nodes = c.best.new.nodes } in
    let z : Sizes = record { room = before.chart.room; span = g.B.Bound.reach c.args.bound.now; costs = length before.costs; nodes = length before.nodes } in
    promised g.met.S.Scale.lawful o (g.B.Bound.limit c.args.bound.now) c.args.ladder.now before after z calls (Ok c.in_ok-tree.tree) (c.span.ensures.law o.grammar made) leads (search rules)
