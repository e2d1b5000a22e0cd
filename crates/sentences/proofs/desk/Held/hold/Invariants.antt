use Rattle.std.proofs.Common.{◌≡◌, drop}
use Rattle.lines.specs.Run.{run}
use Rattle.lines.specs.Tokens.{bytes_at}
use Rattle.grammar.specs.Listed.{listed, lookup}
use Rattle.session.specs.State.{state}
use Rattle.sentences.specs.Sentence.{heard, one_more}
use Rattle.sentences.proofs.desk.Held.hold.Given as goal

abbrev pub invariant-loop-span : goal.invariant-loop-span
invariant-loop-span l = record {
  grammar : l.self.grammar ≡ l.fn.self.grammar;
  due : run (λ held word. one_more held (lookup (listed l.fn.self.grammar.now.words) (bytes_at l.line word))) (state l.self.session).held (drop l.span-index l.words) ≡ heard (listed l.fn.self.grammar.now.words) l.line l.words;
}
