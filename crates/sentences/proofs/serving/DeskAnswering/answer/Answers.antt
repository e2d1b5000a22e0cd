use Rattle.std.proofs.Common.{Bor, ap}
use Rattle.std.proofs.lemmas.Result.{on_ok_weaker}
use Rattle.grammar.specs.declared.closed.Closed.{Closed}
use Rattle.grammar.specs.Listed.{listed}
use Rattle.session.specs.State.{state}
use Rattle.sentences.specs.Sentence.{language, heard}
use Rattle.sentences.proofs.Telling.{answered_by}
use Rattle.sentences.proofs.serving.DeskAnswering.answer.Goals as goal

pub returns-in-Ok-clause-text : goal.returns-in-Ok-clause-text
returns-in-Ok-clause-text g c =
    let desk = c.args.self.now in
    let after = c.parse.new.self in
    on_ok_weaker c.handed.result
    (answered_by g.S.Scale.scale g.S.Cost.Display.output (language desk.held.grammar.now) desk.ladder.items c.args.line.number (state after.held.session).held after.room.nodes.items c.in-Ok.tree c.args.out.now.items c.handed.new.out.items
    (heard (listed desk.held.grammar.now.words) c.args.line.bytes.now c.args.words.now) (language after.held.grammar.now) c.words.result.now c.nodes.result.now
    (ap (λ (b : Bor Closed). language b.now) c.in-Ok.ensures.grammar) c.words.ensures c.nodes.ensures c.in-Ok.ensures.found)
    c.handed.ensures
