use Rattle.std.proofs.Common.{codes, sym, ap, rules}
use Rattle.lines.specs.Shape.{scale_named}
use Rattle.lines.proofs.Spelt.{spelt}
use Rattle.lines.proofs.shape.scale_named.Goals as goal

-- the search meets its limits at the longest word
pub returns-in-worst : goal.returns-in-worst
returns-in-worst c = sym (ap (scale_named c.args.span) (spelt c.args.word.now (codes "worst") (search rules)))
