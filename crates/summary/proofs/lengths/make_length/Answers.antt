use Rattle.std.proofs.Common.{rules, ◌≡◌, ℕ, length, sym, ◌∙◌, subst}
use Rattle.derivation.specs.Grammar.{grammar}
use Rattle.settle.specs.Offers.{cell}
use Rattle.summary.specs.Least.{LeastInside}
use Rattle.summary.proofs.Longer.{longer_exact}
use Rattle.summary.proofs.lengths.make_length.Goals as goal

pub returns : goal.returns
returns g c =
    let s = g.S.Scale.scale in
    let all = c.args.rules.now in
    let long : length c.seed.new.row.0.now ≡ all.categories = c.seed.ensures.beside.1 ∙ c.empty.auto.row ∙ c.requires.long in
    let seeded = rw c.as_slice.ensures.value at c.seed.ensures.grown in
    let paired = rw (c.as_slice-2.ensures.value, long) at c.pair_lengths.ensures.grown in
    let settled = rw c.as_slice-3.ensures.value at c.settle.ensures.settled in
    let made : (A : ℕ) → LeastInside s (grammar all) A c.args.n (cell c.settle.new.row.0.now A) = longer_exact g.met.S.Scale.lawful (grammar all) all.categories c.args.n c.args.shorter.now c.requires.before c.empty.ensures seeded paired settled in
    let lent = sym (c.settle.ensures.beside.0 ∙ c.pair_lengths.ensures.beside.0 ∙ c.seed.ensures.beside.0) in
    subst (λ row. (A : ℕ) → LeastInside s (grammar all) A c.args.n (cell row A)) (search rules) made
