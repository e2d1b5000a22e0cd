use Rattle.derivation.specs.Grammar.{grammar}
use Rattle.table.specs.Tables.{entries}
use Rattle.tree.specs.Ranks.{Swept}
use Rattle.tree.proofs.reader.Reader.sweep.Given as goal

abbrev pub invariant-loop-category : goal.invariant-loop-category
invariant-loop-category g l = Swept g.S.Scale.scale (grammar l.self.rules.now) l.self.text.now (entries l.self.table.now) l.initial.ranks l.ranks l.level l.category l.span.begin l.span.end
