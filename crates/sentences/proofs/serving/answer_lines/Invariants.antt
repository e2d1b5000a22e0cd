use Rattle.std.proofs.Common.{◌≡◌, ℕ, List}
use Rattle.lines.specs.declared.reader.Span.{Span}
use Rattle.sentences.specs.Lines.{numbered}
use Rattle.sentences.specs.Answers.{LinesTold}
use Rattle.sentences.proofs.serving.answer_lines.Given as goal

abbrev pub invariant-loop-line : goal.invariant-loop-line
invariant-loop-line g l = (goal.iterator-loop-line g).can_next l.line-iterator × (goal.iterator-loop-line g).is_finite l.line-iterator
    × ((number : ℕ) (bytes : List ℕ) (places : List Span) (text : List ℕ) → g.A.Answering.answers l.desk number bytes places text → g.A.Answering.answers l.fn.desk number bytes places text)
    × (g.A.Answering.session l.desk ≡ g.A.Answering.session l.fn.desk)
    × ((after : List ℕ) → LinesTold (g.A.Answering.answers l.fn.desk) (numbered l.line-iterator.passed l.line-iterator.rest.now) l.out.items after → LinesTold (g.A.Answering.answers l.fn.desk) (numbered l.fn.lines.passed l.fn.lines.rest.now) l.fn.out.items after)
