use Rattle.std.proofs.Common.{rules, tests, ◌∙◌}
use Rattle.std.proofs.lemmas.Iterator.{YieldsList-from_slice}
use Rattle.std.proofs.lemmas.Iterator.Consumers.{YieldsList-at, YieldsList-from_scan}
use Rattle.std.proofs.lemmas.Iterator.Search.{position_from_yields_List}
use Rattle.lines.proofs.Counted.{counted, past, counts}
use Rattle.lines.proofs.bytes.seventeenth.Goals as goal

pub returns-clause-value : goal.returns-clause-value
returns-clause-value c =
    position_from_yields_List past _ _ c.position.result c.position.ensures.ran
    (YieldsList-from_scan _ counted counted 0 (YieldsList-at c.scan.ensures.source (YieldsList-from_slice c.args.line.now cc)) c.scan.ensures.state c.scan.ensures.closure (λ b x r q d k. search (rules, tests)))
    (λ x b q k. search (rules, tests))
    ∙ counts c.args.line.now
