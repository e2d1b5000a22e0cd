-- A round, column by column.
use Rattle.std.proofs.Common.{◌≡◌, ℕ, ◌+◌, ◌-◌, ◌*◌, ◌<◌, ◌≤◌, true, List, length, Option, sym, ap, ◌∙◌, subst, ap₂, arith}
use Rattle.derivation.specs.Grammar.{Grammar}
use Rattle.derivation.specs.Kept.{KeptNumber}
use Rattle.derivation.specs.Scale.{Scale, Lawful}
use Rattle.derivation.specs.Bounds.{Entries}
use Rattle.derivation.specs.Table.{Table}
use Rattle.chart.specs.Meaning.{Seen, Inside}
use Rattle.chart.specs.Triangle.{tri}
use Rattle.table.specs.Memory.{view, Moved, Alike, Cleared}
use Rattle.table.proofs.Views.{alike_then, moved_then}
use Rattle.round.specs.Counting.{ending, number}
use Rattle.round.specs.Filling.{Sofar, Spread}
use Rattle.round.specs.Round.{Round}
use Rattle.round.proofs.Counts.{number_more, number_same}
use Rattle.round.proofs.Ends.{round_left}
use Rattle.round.proofs.Listing.{kept_number}
use Rattle.round.proofs.Spans.{sofar_column, sofar_all}

module _ {Cost : Type 0} (s : Scale Cost) (g : Grammar) (entry : Entries Cost) (ceiling : Option Cost) (ws : List ℕ) (start : Seen) (clean : List Cost) where
  -- the columns before e are filled, and hold so many constituents
  pub record Columns (chart : Seen) (costs : List Cost) (e held : ℕ) : Type 0 where
    pub alike : Alike start chart
    pub moved : Moved s.neutral start.words g.categories start clean chart costs
    pub sofar : Sofar s g entry ceiling ws (view s.neutral g.categories chart costs) e 0
    pub count : held ≡ number chart.holds g.categories (e - 1)

  pub columns_more : (old new : Seen) (costs costs' : List Cost) (e held made : ℕ) → 1 ≤ e → Columns old costs e held → Spread s.neutral g.categories e old costs new costs' → Sofar s g entry ceiling ws (view s.neutral g.categories new costs') e e → made ≡ ending new.holds g.categories e e → Columns new costs' (e + 1) (held + made)
  columns_more old new costs costs' e held made one before spread sofar is =
      let d = s.neutral in
      let kinds = g.categories in
      let v' : Table Cost = view d kinds new costs' in
      let at : (e - 1) + 1 ≡ e = omega arith in
      let next : e ≡ e + 1 - 1 = omega arith in
      let kept = number_same old.holds new.holds kinds (e - 1) (λ x y A l. spread.earlier x y A (omega arith)) in
      let more : number new.holds kinds e ≡ number new.holds kinds (e - 1) + ending new.holds kinds e e = subst (λ (k : ℕ). number new.holds kinds k ≡ number new.holds kinds (e - 1) + ending new.holds kinds k k) at (number_more new.holds kinds (e - 1)) in
      record {
        alike = alike_then before.alike spread.alike;
        moved = moved_then d kinds start.words before.moved (subst (λ (n : ℕ). Moved d n kinds old costs new costs') before.alike.words spread.moved);
        sofar = sofar_column v' e sofar;
        count = ap₂ (λ (x y : ℕ). x + y) (before.count ∙ sym kept) is ∙ sym more ∙ ap (λ (k : ℕ). number new.holds kinds k) next;
      }

  module _ (lawful : Lawful s) (before : List Cost) (chart : Seen) (costs : List Cost) (e held : ℕ)
      (words-is : start.words ≡ length ws) (kinds-is : start.categories ≡ g.categories)
      (cleared : Cleared s.neutral (tri (length ws) * g.categories) before clean)
      (bounded : (b e A : ℕ) → chart.holds b e A ≡ true → Inside chart.words chart.categories b e A)
      (all : e ≡ length ws + 1) (columns : Columns chart costs e held) where
    here : (b e A : ℕ) → chart.holds b e A ≡ true → Inside (length ws) g.categories b e A
    here b e A t =
        subst (λ (k : ℕ). Inside (length ws) k b e A) (columns.alike.categories ∙ kinds-is) (subst (λ (n : ℕ). Inside n chart.categories b e A) (columns.alike.words ∙ words-is) (bounded b e A t))

    columns_round : Round s g entry ceiling ws before chart costs
    columns_round =
        let d = s.neutral in
        let v : Table Cost = view d g.categories chart costs in
        let past : length ws < e = omega arith in
        let moved = subst (λ (k : ℕ). Moved d k g.categories start clean chart costs) words-is columns.moved in
        round_left lawful g entry ceiling ws start chart before clean costs (sofar_all v e past columns.sofar) columns.sofar.reached here cleared moved (columns.alike.words ∙ words-is) (columns.alike.categories ∙ kinds-is)

    count_is : held ≡ number chart.holds g.categories (length ws)
    count_is = let at : e - 1 ≡ length ws = omega arith in columns.count ∙ ap (λ (k : ℕ). number chart.holds g.categories k) at

    pub columns_all : Round s g entry ceiling ws before chart costs × (held ≡ number chart.holds g.categories (length ws)) × KeptNumber s g entry ceiling ws held
    columns_all = (columns_round, count_is, subst (λ (k : ℕ). KeptNumber s g entry ceiling ws k) (sym count_is) (kept_number columns_round here))
