use Rattle.std.proofs.Common.{◌≡◌, ℕ, ◌+◌, ◌-◌, ◌≤◌, List, length, drop, None, Option, sym, ap, ap₂, ◌∙◌, arith, length-drop}
use Rattle.std.proofs.lemmas.List.{ext_get_or, get_or-drop}
use Rattle.settle.specs.Offers.{cell}
use Rattle.summary.specs.Memory.{entries_for}
use Rattle.summary.proofs.Order.{entries_is}
use Rattle.summary.proofs.summarize.Goals as goal

-- memories that are as long and the same from n on have the same rest
rest_same : {Cost : Type 0} (n : ℕ) (before after : List (Option Cost)) → length after ≡ length before → ((k : ℕ) → n ≤ k → cell after k ≡ cell before k) → drop n after ≡ drop n before
rest_same n before after long same = ext_get_or None (drop n after) (drop n before) (length-drop n after ∙ ap (λ k. k - n) long ∙ sym (length-drop n before))
    (λ i h. get_or-drop n after i None ∙ same (n + i) (omega arith) ∙ sym (get_or-drop n before i None))

pub invariant_of-summary : goal.invariant_of-summary
invariant_of-summary g c = record {
  few = c.widest-span.ensures.few;
  room = omega (arith, entries_is c.args.rules.now.categories c.widest-span.result, c.widest-span.ensures.fits);
}

pub returns-clause-remains : goal.returns-clause-remains
returns-clause-remains g c =
    let one = c.fill_lengths.ensures.kept in
    let two = c.fill_pairs.ensures.kept in
    let size = c.args.rules.now.categories in
    let span = c.widest-span.result in
    let rows = ap₂ entries_for (two.categories ∙ one.categories) (two.span ∙ one.span) in
    rw rows (rest_same (entries_for size span) c.args.memory.now c.fill_pairs.new.self.memory.now (two.long ∙ one.long)
    (λ k h. two.past k (omega (arith, ap₂ entries_for one.categories one.span)) ∙ one.past k h))
