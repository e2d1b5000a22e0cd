use Rattle.std.proofs.Common.{ℕ, ◌<◌}
use Rattle.table.specs.Tables.{entries}
use Rattle.tree.specs.Ways.{OfParts, ByBinary}
use Rattle.tree.proofs.reader.Reader.first_pair.Given as goal

-- no rule before this one gives the cost
abbrev pub invariant-loop-k : goal.invariant-loop-k
invariant-loop-k g l = (j m : ℕ) → j < l.k → ByBinary g.S.Scale.scale (entries l.self.table.now) l.self.rules.now.binaries.items l.span.begin l.span.end l.category l.cost j m → ⊥

-- nor does this rule with any split before this one
abbrev pub invariant-loop-split : goal.invariant-loop-split
invariant-loop-split g l = (m : ℕ) → m < l.split → OfParts g.S.Scale.scale (entries l.self.table.now) l.span.begin l.span.end l.cost l.rule m → ⊥
