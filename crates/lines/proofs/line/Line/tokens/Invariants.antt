use Rattle.std.proofs.Common.{◌≡◌, drop}
use Rattle.lines.specs.Tokens.{tokens_from}
use Rattle.lines.specs.Moves.{sofar}
use Rattle.lines.proofs.Readings.{read_on}
use Rattle.lines.proofs.line.Line.tokens.Given as goal

abbrev pub invariant-loop-b : goal.invariant-loop-b
invariant-loop-b l = (read_on (sofar l.reader) (drop l.b-index l.self.bytes.now) ≡ tokens_from 0 l.self.bytes.now) × (l.reader.at ≡ l.b-index)
