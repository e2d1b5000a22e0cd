use Rattle.std.proofs.Common.{is_ok, vec_items, arith}
use Rattle.derivation.specs.declared.rules.BinaryRule.{BinaryRule}
use Rattle.grammar.specs.declared.flaw.Part.TheVariants.{First, Second}
use Rattle.grammar.specs.Drafts.{seen}
use Rattle.grammar.proofs.Named.{head_named, category_named, counted}
use Rattle.grammar.proofs.Fits.{fit_binaries}
use Rattle.grammar.proofs.draft.fn.Draft.add_binary.attempt.Goals as goal

pub invariant_of-draft : goal.invariant_of-draft
invariant_of-draft c =
    let s = seen c.args.draft.now in
    let t = seen c.head.new.self in
    let u = seen c.category.new.self in
    let v = seen c.category-2.new.self in
    let rule : BinaryRule = record { category = c.in_ok-category.category; left = c.in_ok-left.left; right = c.in_ok-right.right; weight = c.captures.weight } in
    let h = head_named s c.captures.category.now (rule.category, t) c.in_ok-category.ensures in
    let n = counted s _ _ t h.category in
    let m = counted t _ _ u (category_named First t c.captures.left.now (rule.left, u) c.in_ok-left.ensures) in
    let o = counted u _ _ v (category_named Second u c.captures.right.now (rule.right, v) c.in_ok-right.ensures) in
    record { fit = fit_binaries v (is_ok c.put.result) c.category-2.new.self.fit (omega (arith, h.room, n.same, m.same, o.same)) (vec_items c.put.new.rules) rule c.put.ensures.items (omega (arith, n.below, m.longer, o.longer), omega (arith, m.below, o.longer), o.below) }
