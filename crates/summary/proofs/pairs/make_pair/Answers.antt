use Rattle.std.proofs.Common.{rules, ◌≡◌, ℕ, length, sym, ◌∙◌, subst}
use Rattle.derivation.specs.Grammar.{grammar}
use Rattle.settle.specs.Offers.{cell}
use Rattle.summary.specs.Least.{LeastOutside}
use Rattle.summary.proofs.Around.{around_exact}
use Rattle.summary.proofs.pairs.make_pair.Goals as goal

pub returns : goal.returns
returns g c =
    let s = g.S.Scale.scale in
    let all = c.args.rules.now in
    let size = all.categories in
    let pair = c.args.pair in
    let long : length c.seed.new.row.0.now ≡ size = c.seed.ensures.beside.1 ∙ c.empty.auto.row ∙ c.requires.long in
    let longer : length c.gaps.new.row.0.now ≡ size = c.gaps.ensures.beside.1 ∙ long in
    let seeded = rw c.from.ensures at c.seed.ensures.grown in
    let lefts = rw (c.as_slice-binaries.ensures.value, long) at c.gaps.ensures.grown in
    let rights = rw (c.as_slice-binaries.ensures.value, longer) at c.gaps-2.ensures.grown in
    let settled = rw c.as_slice.ensures.value at c.settle.ensures.settled in
    let made : (A : ℕ) → LeastOutside s (grammar all) A pair.left pair.right (cell c.settle.new.row.0.now A) = around_exact g.met.S.Scale.lawful (grammar all) size pair.span pair.left pair.right pair.short c.args.before.now c.requires.lengths c.requires.pairs c.empty.ensures seeded lefts rights settled in
    let lent = sym (c.settle.ensures.beside.0 ∙ c.gaps-2.ensures.beside.0 ∙ c.gaps.ensures.beside.0 ∙ c.seed.ensures.beside.0) in
    subst (λ row. (A : ℕ) → LeastOutside s (grammar all) A pair.left pair.right (cell row A)) (search rules) made
