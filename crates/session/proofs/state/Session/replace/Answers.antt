use Rattle.std.proofs.Common.{◌-◌, ◌≤◌, length, get_or, ap, rules}
use Rattle.session.specs.State.{state}
use Rattle.session.proofs.Words.{written, written_back}
use Rattle.session.proofs.state.Session.replace.Goals as goal

pub returns-clause-undone : goal.returns-clause-undone
returns-clause-undone c =
    let s = c.args.self.now in
    let p = c.args.place in
    let inside : (1 ≤ p) × (p ≤ length s.words.items) = search rules in
    written_back (state s) _ p c.args.word (get_or c.deref.result.now (p - 1) 0) (written s.words.items c.deref_mut.result.now (p - 1) c.args.word c.deref_mut.ensures.value) (ap (λ xs. get_or xs (p - 1) 0) c.deref.ensures.0) inside.0 inside.1
