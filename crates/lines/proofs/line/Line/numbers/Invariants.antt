use Rattle.std.proofs.Common.{◌≡◌, [], drop, vec_items}
use Rattle.lines.specs.Run.{run}
use Rattle.lines.specs.Form.{number_on}
use Rattle.lines.proofs.line.Line.numbers.Given as goal

abbrev pub invariant-loop-span : goal.invariant-loop-span
invariant-loop-span l = run (number_on l.self.bytes.now) (vec_items l.numbers) (drop l.span-index l.spans) ≡ run (number_on l.self.bytes.now) [] l.spans
