use Rattle.std.proofs.Common.{◌≡◌, ℕ, None, rules}
use Rattle.derivation.specs.Grammar.{grammar}
use Rattle.table.specs.Memory.{view, Framed}
use Rattle.cell.specs.Cell.{Closes}
use Rattle.cell.specs.Open.{costs_in}
use Rattle.cell.proofs.Filled.{of_made, kept-all, filled}
use Rattle.cell.proofs.whole.fill.Goals as goal

pub returns : goal.returns
returns g c =
    let s = g.S.Scale.scale in
    let d = s.neutral in
    let lawful = g.met.S.Scale.lawful in
    let limit = g.B.Bound.limit in
    let seen = g.C.Chart.seen in
    let made = c.new-cell.ensures in
    let first = c.new-cell.result in
    let last = c.links.new.self in
    let one = c.single.ensures in
    let two = c.pairs.ensures in
    let three = c.links.ensures in
    let kept = kept-all lawful limit first c.single.new.self c.pairs.new.self last one.beside two.beside three.beside in
    let blank : (A : ℕ) → costs_in first A first.b first.e ≡ None = λ A. let h = c.requires.blank A in cc in
    let closes = filled lawful limit first c.single.new.self c.pairs.new.self last one.beside two.beside three.beside blank one.grown two.grown three.settled in
    let lent = kept.chart in
    let lent' = kept.costs in
    of_made (λ task b e chart costs chart' costs'. record {
      framed : Framed d task.now.rules.now.categories b e (seen chart) costs (seen chart') costs';
      closes : Closes s (grammar task.now.rules.now) (limit task.now.bound.now) task.now.ceiling task.now.text.now (view d task.now.rules.now.categories (seen chart) costs) (view d task.now.rules.now.categories (seen chart') costs') b e;
    }) first made.task made.first made.last made.chart made.costs (search rules) (search rules) (record { framed = kept.framed; closes = closes })
