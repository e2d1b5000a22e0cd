use Rattle.std.proofs.Common.{◌≡◌}
use Rattle.sentences.specs.Lines.{numbered}
use Rattle.sentences.specs.Preamble.{told, opened}
use Rattle.sentences.proofs.preamble.Preamble.read.Given as goal

abbrev pub invariant-loop-line : goal.invariant-loop-line
invariant-loop-line l = (goal.iterator-loop-line).can_next l.line-iterator × (goal.iterator-loop-line).is_finite l.line-iterator
    × (numbered l.sentences.passed l.sentences.rest.now ≡ numbered l.line-iterator.passed l.line-iterator.rest.now)
    × (opened (numbered l.line-iterator.passed l.line-iterator.rest.now) (told l.self) l.out.items ≡ opened (numbered l.fn.lines.passed l.fn.lines.rest.now) (told l.fn.self) l.fn.out.items)
