use Rattle.std.proofs.Common.{ℕ, ◌+◌, ◌*◌, ◌<◌, ◌≤◌, length, sym, refl, ap, ◌∙◌, subst, arith}
use Rattle.summary.specs.Memory.{view}
use Rattle.summary.proofs.Order.{place_fits}
use Rattle.summary.proofs.Placing.{cell_read}
use Rattle.summary.proofs.Around.{outer_at}
use Rattle.summary.proofs.SummaryCostBound.entry.Goals as goal

pub row_at-requires : goal.row_at-requires
row_at-requires g c =
    let b = c.args.self.now in
    let fits = place_fits b.categories b.span (c.args.left + c.args.right) c.args.left c.args.right refl (omega arith) in
    subst (λ (i : ℕ). i * b.categories + b.categories ≤ length b.memory.now) (sym c.row_of-row.ensures) (omega (arith, fits, b.room))

pub returns-clause-value : goal.returns-clause-value
returns-clause-value g c =
    let b = c.args.self.now in
    let inside : c.args.category < length c.row_at.result.now = omega (arith, c.row_at.ensures.long) in
    let there = ap (λ col. col c.args.category) c.row_at.ensures.row ∙ ap (λ i. view b.categories b.memory.now (i * b.categories) c.args.category) c.row_of-row.ensures in
    sym (cell_read c.row_at.result.now c.args.category _ inside c.index-row_at-category.is) ∙ there ∙ sym (outer_at b.categories b.span b.memory.now c.args.category c.args.left c.args.right (omega arith))
