use Rattle.std.proofs.Common.{◌≡◌, sym, rules}
use Rattle.grammar.specs.Listed.{listed, lookup}
use Rattle.grammar.proofs.Numbers.{spelled}
use Rattle.grammar.proofs.closed.Closed.word.Goals as goal

pub returns-clause-spelled : goal.returns-clause-spelled
returns-clause-spelled c =
    let names = listed c.args.self.now.words in
    let is : c.map.result ≡ lookup names c.args.spelling.now = search rules in
    spelled names c.args.spelling.now c.map.result (sym is)
