use Rattle.std.proofs.Common.{is_ok, vec_items, arith}
use Rattle.derivation.specs.declared.rules.WordRule.{WordRule}
use Rattle.grammar.specs.Drafts.{seen}
use Rattle.grammar.proofs.Named.{head_named, word_named, counted, counted_word}
use Rattle.grammar.proofs.Fits.{fit_lexical}
use Rattle.grammar.proofs.draft.fn.Draft.add_lexical.attempt.Goals as goal

pub invariant_of-draft : goal.invariant_of-draft
invariant_of-draft c =
    let s = seen c.args.draft.now in
    let t = seen c.head.new.self in
    let u = seen c.word.new.self in
    let rule : WordRule = record { category = c.in_ok-category.category; word = c.in_ok-word.word; weight = c.captures.weight } in
    let h = head_named s c.captures.category.now (rule.category, t) c.in_ok-category.ensures in
    let n = counted s _ _ t h.category in
    let m = counted_word t _ _ u (word_named t c.captures.word.now (rule.word, u) c.in_ok-word.ensures) in
    record { fit = fit_lexical u (is_ok c.put.result) c.word.new.self.fit (omega (arith, h.room, n.same, m.0.same)) (vec_items c.put.new.rules) rule c.put.ensures.items (omega (arith, n.below, m.1), m.0.below) }
