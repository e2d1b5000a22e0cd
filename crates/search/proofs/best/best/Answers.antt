use Rattle.std.proofs.Common.{◌≡◌, length, sym, ◌∙◌, subst}
use Rattle.derivation.specs.Grammar.{grammar}
use Rattle.derivation.specs.Table.{Table}
use Rattle.tree.specs.Extracted.{Finished}
use Rattle.table.specs.Memory.{view}
use Rattle.table.specs.Tables.{entries}
use Rattle.derivation.proofs.Reading.{none_some}
use Rattle.table.proofs.Views.{view_true}
use Rattle.search.proofs.Rounds.{closed, reached}
use Rattle.search.proofs.best.best.Goals as goal

pub unreachable-requires : goal.unreachable-requires
unreachable-requires g c =
    let d = g.S.Scale.scale.neutral in
    let rules = c.args.rules.now in
    let chart = g.C.Chart.seen c.climb.new.chart in
    let same : entries c.over-table.result c.from.result 1 (length c.args.text.now) ≡ view d rules.categories chart c.climb.new.costs rules.top 1 (length c.args.text.now) = cc in
    none_some (sym c.known.ensures ∙ c.in_default.is) (same ∙ view_true d rules.categories chart c.climb.new.costs rules.top 1 (length c.args.text.now) c.in_ok-last.ensures.climb.keeps.held)

pub extract-nodes-requires-clause-finished : goal.extract-nodes-requires-clause-finished
extract-nodes-requires-clause-finished g c =
    let s = g.S.Scale.scale in
    let rules = c.args.rules.now in
    let round = c.in_ok-last.ensures.climb.keeps.round in
    let costs : Table g.row.S-Cost.Denot = view s.neutral rules.categories (g.C.Chart.seen c.climb.new.chart) c.climb.new.costs in
    let same : costs ≡ entries c.over-table.result = cc in
    subst (Finished s (grammar rules) c.args.text.now) same (record { entry = g.B.Bound.limit c.args.bound.now; ceiling = _; closed = closed round; reached = reached round })
