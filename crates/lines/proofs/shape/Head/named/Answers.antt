use Rattle.std.proofs.Common.{codes, sym, ap, rules}
use Rattle.lines.specs.Shape.{head_of}
use Rattle.lines.proofs.Spelt.{spelt}
use Rattle.lines.proofs.shape.Head.named.Goals as goal

-- the search meets its limits at the longest words
pub returns-in-scale : goal.returns-in-scale
returns-in-scale c = sym (ap head_of (spelt c.args.word.now (codes "scale") (search rules)))

pub returns-in-ladder : goal.returns-in-ladder
returns-in-ladder c = sym (ap head_of (spelt c.args.word.now (codes "ladder") (search rules)))
