-- What a round leaves.
use Rattle.std.proofs.Common.{◌≡◌, ℕ, ◌*◌, true, List, length, Option, sym, ◌∙◌, subst, ⊎_elim, arith}
use Rattle.derivation.specs.Grammar.{Grammar}
use Rattle.derivation.specs.Scale.{Scale, Lawful, Within}
use Rattle.derivation.specs.Derivation.{cost}
use Rattle.derivation.specs.Bounds.{Entries, Filled}
use Rattle.derivation.specs.Table.{Closed, Reached}
use Rattle.derivation.proofs.Laws.{not_both}
use Rattle.derivation.proofs.Table.{covers, found}
use Rattle.chart.specs.Meaning.{Seen, Inside}
use Rattle.chart.specs.Triangle.{tri}
use Rattle.table.specs.Memory.{slot, view, Moved, Framed, Cleared}
use Rattle.table.proofs.Slots.{slot_below, slot_apart}
use Rattle.table.proofs.Views.{view_true, view_held, held_same, alike_then, moved_then}
use Rattle.round.specs.Filling.{Spread}
use Rattle.round.specs.Round.{Round}

pub spread_cell : {Cost : Type 0} (d : Cost) (kinds : ℕ) {b e : ℕ} {one two three : Seen} {costs costs' costs'' : List Cost} → Spread d kinds e one costs two costs' → Framed d kinds b e two costs' three costs'' → Spread d kinds e one costs three costs''
spread_cell d kinds {one = one} {two} {three} {costs' = costs'} {costs'' = costs''} first then = record {
  alike = alike_then first.alike then.alike;
  earlier = λ x y A l. held_same d kinds two three costs' costs'' A x y (then.elsewhere A x y (λ _ q. omega arith)) ∙ first.earlier x y A l;
  moved = moved_then d kinds one.words first.moved (subst (λ n. Moved d n kinds two costs' three costs'') first.alike.words then.moved);
}

module _ {Cost : Type 0} {s : Scale Cost} (lawful : Lawful s) (g : Grammar) (entry : Entries Cost) (ceiling : Option Cost) (ws : List ℕ) (start chart : Seen) (before clean after : List Cost)
    (closed : Closed s g entry ceiling ws (view s.neutral g.categories chart after))
    (reached : Reached s g entry ceiling ws (view s.neutral g.categories chart after))
    (bounded : (b e A : ℕ) → chart.holds b e A ≡ true → Inside (length ws) g.categories b e A)
    (cleared : Cleared s.neutral (tri (length ws) * g.categories) before clean)
    (moved : Moved s.neutral (length ws) g.categories start clean chart after)
    (words-is : chart.words ≡ length ws) (categories-is : chart.categories ≡ g.categories) where
  pub round_left : Round s g entry ceiling ws before chart after
  round_left =
      let d = s.neutral in
      let n = length ws in
      let kinds = g.categories in
      record {
        words = words-is;
        categories = categories-is;
        passing = λ A b e deriv pass.
            let (x, is, low) = found (view d kinds chart after A b e) (covers lawful closed deriv pass) in
            (view_held d kinds chart after A b e x is).0;
        kept = λ A b e held.
            let is = view_true d kinds chart after A b e held in
            let (deriv, costs, pass) = reached.by A b e _ is in
            record { tree = deriv; costs = costs; passes = pass; least = λ f pf. subst (λ o. Filled o (λ x. Within s x (cost s f))) is (covers lawful closed f pf) };
        blank = λ A b e inside free. ⊎_elim
            (λ same. same ∙ cleared.first (slot kinds b e A) (slot_below n kinds b e A inside))
            (λ at.
            let q = slot_apart n kinds b e A at.0 at.1 at.2 inside at.3 at.4 in
            let there : chart.holds b e A ≡ true = subst (λ k. chart.holds b e k ≡ true) (sym q.2) (subst (λ k. chart.holds b k at.2 ≡ true) (sym q.1) (subst (λ k. chart.holds k at.1 at.2 ≡ true) (sym q.0) at.5)) in
            absurd (not_both there free))
            (moved.same (slot kinds b e A));
        rest = λ k past. ⊎_elim
            (λ same. same ∙ cleared.rest k past)
            (λ at. let low = slot_below n kinds at.0 at.1 at.2 at.3 in let is = at.4 in absurd (omega arith))
            (moved.same k);
      }
