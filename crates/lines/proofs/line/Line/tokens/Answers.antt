use Rattle.std.proofs.Common.{arith}
use Rattle.lines.specs.Moves.{sofar}
use Rattle.lines.proofs.Readings.{more, moves_on}
use Rattle.lines.proofs.line.Line.tokens.Goals as goal

pub loop-b-preserved : goal.loop-b-preserved
loop-b-preserved c =
    let step = c.in_ok-take.ensures in
    (more (sofar c.loop-b.reader) (sofar c.take.new.self) _ c.loop-b.b-index c.args.self.now.bytes.now c.loop-b-test.true c.from.ensures step c.loop-b.invariant.0, omega (arith, moves_on (sofar c.loop-b.reader) (sofar c.take.new.self) c.from.result step))
