use Rattle.std.proofs.Common.{◌-◌, ◌≤◌}
use Rattle.derivation.specs.Grammar.{grammar}
use Rattle.table.specs.Tables.{entries}
use Rattle.tree.specs.Ranks.{Ranked}
use Rattle.tree.proofs.Marks.{many}
use Rattle.tree.proofs.Ranking.{has_rank}
use Rattle.tree.proofs.reader.Reader.rank_cell.Given as goal

-- each level so far gave at least one rank
abbrev pub invariant-loop-span : goal.invariant-loop-span
invariant-loop-span g l = Ranked g.S.Scale.scale (grammar l.self.rules.now) l.self.text.now (entries l.self.table.now) l.ranks l.level l.span.begin l.span.end × (l.level ≤ many (has_rank l.ranks) l.self.rules.now.categories)

-- the categories that have no rank yet
abbrev pub decreases-loop-span : goal.decreases-loop-span
decreases-loop-span g l = l.self.rules.now.categories - many (has_rank l.ranks) l.self.rules.now.categories
