use Rattle.std.proofs.Common.{filter, length, sym, ap, ◌∙◌, rules, arith}
use Rattle.std.specs.List.{range_with_len}
use Rattle.std.proofs.lemmas.Iterator.{YieldsList-from_range}
use Rattle.std.proofs.lemmas.Iterator.Consumers.{count_from_yields_List, YieldsList-from_filter}
use Rattle.std.proofs.lemmas.List.{map-id}
use Rattle.round.proofs.Counts.{tally_counts}
use Rattle.round.proofs.count.Goals as goal

pub returns : goal.returns
returns g c =
    let h = (g.C.Chart.seen c.args.chart.now).holds c.args.b c.args.e in
    let source = YieldsList-from_range 0 c.args.kinds c.args.kinds c.filter.ensures.source (omega arith) in
    let is = count_from_yields_List c.filter.result c.count.result c.count.ensures.ran
    (YieldsList-from_filter _ h source c.filter.ensures.closure (λ x b q k. search rules)) in
    is ∙ ap (λ As. length (filter h As)) (sym (map-id (range_with_len 0 c.args.kinds)))
    ∙ tally_counts (g.C.Chart.seen c.args.chart.now).holds c.args.b c.args.e c.args.kinds
