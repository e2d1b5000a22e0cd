use Rattle.std.proofs.Common.{is_ok, vec_items, arith}
use Rattle.derivation.specs.declared.rules.ChainRule.{ChainRule}
use Rattle.grammar.specs.declared.flaw.Part.TheVariants.{First}
use Rattle.grammar.specs.Drafts.{seen}
use Rattle.grammar.proofs.Named.{head_named, category_named, counted}
use Rattle.grammar.proofs.Fits.{fit_chains}
use Rattle.grammar.proofs.draft.fn.Draft.add_chain.attempt.Goals as goal

pub invariant_of-draft : goal.invariant_of-draft
invariant_of-draft c =
    let s = seen c.args.draft.now in
    let t = seen c.head.new.self in
    let u = seen c.category.new.self in
    let rule : ChainRule = record { category = c.in_ok-category.category; part = c.in_ok-part.part; weight = c.captures.weight } in
    let h = head_named s c.captures.category.now (rule.category, t) c.in_ok-category.ensures in
    let n = counted s _ _ t h.category in
    let m = counted t _ _ u (category_named First t c.captures.part.now (rule.part, u) c.in_ok-part.ensures) in
    record { fit = fit_chains u (is_ok c.put.result) c.category.new.self.fit (omega (arith, h.room, n.same, m.same)) (vec_items c.put.new.rules) rule c.put.ensures.items (omega (arith, n.below, m.longer), m.below) }
