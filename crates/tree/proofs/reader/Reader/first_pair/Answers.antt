use Rattle.std.proofs.Common.{◌≡◌, ℕ, None, sym, arith, below_more}
use Rattle.std.proofs.lemmas.Option.{MatchOption-at_none}
use Rattle.table.specs.Tables.{entries}
use Rattle.tree.specs.Ways.{ByBinary}
use Rattle.tree.proofs.Held.{splits_of}
use Rattle.tree.proofs.reader.Reader.first_pair.Goals as goal
use Rattle.tree.proofs.reader.Reader.first_pair.Goals.{then-rule-category+in-Some+else-loop-split-test, else-rule-category, else-rule-category-via-else-rule-category, else-rule-category-via-then-rule-category+in-None-1}

pub loop-split-init : goal.loop-split-init
loop-split-init g c m low of = c.in-Some.ensures.1 m low (splits_of c.args.self.now.table.now of)

pub loop-k-preserved : goal.loop-k-preserved
loop-k-preserved g c j m h by =
    below_more (λ k. (m : ℕ) → ByBinary g.S.Scale.scale (entries c.args.self.now.table.now) c.args.self.now.rules.now.binaries.items c.args.span.begin c.args.span.end c.args.category c.args.cost k m → ⊥) c.loop-k.k
    (λ k l m. c.loop-k.invariant k m l)
    (λ m by. let by' = simp (sym c.deref-rule-items.ensures.value) at by in elim c.if-rule-category.branch [
      | then-rule-category+in-Some+else-loop-split-test w ↦ let last = by'.2.last in w.loop-split.invariant m (omega arith) by'.2
      | else-rule-category w ↦ elim w.else-rule-category.branch [
        | else-rule-category-via-else-rule-category w' ↦ w'.if-rule-category.false by'.1
        | else-rule-category-via-then-rule-category+in-None-1 w' ↦ let is : w'.lowest_split.result ≡ None = cc in MatchOption-at_none _ _ is w'.lowest_split.ensures m (splits_of c.args.self.now.table.now by'.2)
      ]
    ])
    j h m by

pub returns-then-splits_at : goal.returns-then-splits_at
returns-then-splits_at g c = let is = c.deref-rule-items.ensures.value in ((omega (arith, c.loop-k-test.true), simp is at c.if-rule-category.true, simp is at (c.splits_at.ensures.0 c.if-splits_at.true)), c.loop-k.invariant, λ m low by. c.loop-split.invariant m low (simp (sym is) at by.2))

pub returns-after-loop-k : goal.returns-after-loop-k
returns-after-loop-k g c k m by = let low = by.0 in let is = c.deref-rule-items.ensures.len in c.loop-k.invariant k m (omega arith) by
