use Rattle.std.proofs.Common.{subst}
use Rattle.grammar.specs.Drafts.{seen}
use Rattle.grammar.specs.Adding.{adding_top}
use Rattle.grammar.specs.Answers.{Alters}
use Rattle.grammar.proofs.draft.Draft.add.Goals as goal

pub returns-in-Top : goal.returns-in-Top
returns-in-Top c =
    let s = seen c.args.self.now in
    rw c.in-Top.is (subst (λ a. Alters (adding_top s a) s c.add_top.result (seen c.add_top.new.self)) c.of.ensures c.add_top.ensures)
