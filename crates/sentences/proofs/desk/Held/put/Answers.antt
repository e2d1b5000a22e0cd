use Rattle.std.proofs.Common.{length, ap, arith}
use Rattle.session.specs.State.{state, over}
use Rattle.sentences.proofs.Holding.{puts_more}
use Rattle.sentences.proofs.desk.Held.put.Goals as goal

pub returns-clause-put : goal.returns-clause-put
returns-clause-put c =
    let g = c.args.self.now.grammar.now in
    let s = state c.args.self.now.session in
    puts_more (over g) s (state c.put.new.self) c.in-Some.word _ _ c.args.self.now.fits (omega (arith, c.in-Some.ensures.spelled.0, g.known)) (omega (arith, ap length c.words.ensures)) c.in-Some.ensures.value c.put.ensures.answer c.put.ensures.after
