use Rattle.std.proofs.Common.{Bor, length, ap, ◌∙◌, ◌≤◌, subst, arith, sym}
use Rattle.std.proofs.lemmas.Grind.{common_steps}
use Rattle.grammar.specs.declared.closed.Closed.{Closed}
use Rattle.grammar.specs.Listed.{listed}
use Rattle.session.specs.State.{state, over}
use Rattle.sentences.specs.Sentence.{language, heard}
use Rattle.sentences.proofs.Asking.{found}
use Rattle.sentences.proofs.Reaching.{reached, Known}
use Rattle.sentences.proofs.Hearing.{heard_fine}
use Rattle.sentences.proofs.desk.Desk.parse.Goals as goal

pub ask-requires-clause-few : goal.ask-requires-clause-few
ask-requires-clause-few g c = (heard_fine (listed c.args.self.now.held.grammar.now.words) c.args.line.now c.args.words.now _ c.in_ok-hold.ensures.held).few

pub returns-clause-found : goal.returns-clause-found
returns-clause-found g c =
    let grammar = c.args.self.now.held.grammar.now in
    let held = c.hold.new.self in
    let s = state held.session in
    let fine = heard_fine (listed grammar.words) c.args.line.now c.args.words.now s.held c.in_ok-hold.ensures.held in
    let vocabulary = held.grammar.now.known ∙ ap (λ (b : Bor Closed). length (listed b.now.words)) c.in_ok-hold.ensures.grammar in
    let known = subst (λ v. Known v s.held) (sym vocabulary) fine.known in
    let counted : s.tally ≤ 4294967295 = omega (arith, c.tally-tally.ensures) in
    let calls = reached (over held.grammar.now) s held.fits counted known (omega (arith, fine.few)) in
    let length_same = c.ask.auto.nodes in
    found g.S.Scale.scale (language grammar) (language held.grammar.now) _ _ _ _ _ _ (heard (listed grammar.words) c.args.line.now c.args.words.now) c.ask.result
    c.in_ok-hold.ensures.held (ap (λ (b : Bor Closed). language b.now) c.in_ok-hold.ensures.grammar) c.deref.ensures.value (grind (arith, common_steps, length_same, c.deref_mut-3.ensures.len)) (c.ask.ensures.asked calls.0 calls.1)
