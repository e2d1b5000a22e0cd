-- What a round leaves is closed under the rules and reached by derivations, so that a tree can be taken out of it.
use Rattle.std.proofs.Common.{◌≡◌, ℕ, ◌+◌, ◌-◌, List, length, Some, Option, sym, ap, subst, ap₂, subst₂}
use Rattle.derivation.specs.Grammar.{Grammar}
use Rattle.derivation.specs.Scale.{Scale, Within}
use Rattle.derivation.specs.Derivation.{Derivation, cost, word, chain, binary}
use Rattle.derivation.specs.Bounds.{Entries, Filled}
use Rattle.derivation.specs.Passing.{Admits, Passes}
use Rattle.derivation.specs.Kept.{Kept}
use Rattle.derivation.specs.Table.{Closed, Reached}
use Rattle.chart.specs.Meaning.{Seen}
use Rattle.table.specs.Memory.{view}
use Rattle.table.proofs.Views.{view_true, view_held}
use Rattle.round.specs.Round.{Round}

module _ {Cost : Type 0} {s : Scale Cost} {g : Grammar} {entry : Entries Cost} {ceiling : Option Cost} {ws : List ℕ} {before after : List Cost} {chart : Seen} (round : Round s g entry ceiling ws before chart after) where
  -- what the table has is kept
  pub kept_in : {A b e : ℕ} {x : Cost} → view s.neutral g.categories chart after A b e ≡ Some x → Kept s g entry ceiling ws A b e x
  kept_in {A} {b} {e} {x} is =
      let held = view_held s.neutral g.categories chart after A b e x is in
      subst (λ y. Kept s g entry ceiling ws A b e y) held.1 (round.kept A b e held.0)

  -- a derivation that passes is in the table, at no more than its cost
  pub taken : {A b e : ℕ} (d : Derivation g ws A b e) → Passes s entry ceiling (length ws) d → Filled (view s.neutral g.categories chart after A b e) (λ x. Within s x (cost s d))
  taken {A} {b} {e} d passes =
      let held = round.passing A b e d passes in
      let is = view_true s.neutral g.categories chart after A b e held in
      subst (λ o. Filled o (λ x. Within s x (cost s d))) (sym is) ((round.kept A b e held).least d passes)

  pub reached : Reached s g entry ceiling ws (view s.neutral g.categories chart after)
  reached = record { by = λ A b e x is. let k = kept_in is in (k.tree, k.costs, k.passes) }

  pub closed : Closed s g entry ceiling ws (view s.neutral g.categories chart after)
  closed = record {
    at = λ b e first order last. record {
      words = λ k i r at here bi ei fine.
          let n = length ws in
          let v = view s.neutral g.categories chart after in
          let P : ℕ → ℕ → Type 0 = λ b e. Admits s ceiling (entry r.category (b - 1) (n - e)) (s.price r.weight) → Filled (v r.category b e) (λ x. Within s x (s.price r.weight)) in
          let base : P (i + 1) (i + 1) = λ ok. taken (word r at here) ok in
          subst₂ P (sym bi) (sym ei) base fine;
      chains = λ k r x at is fine.
          let d = kept_in is in
          let q = s.price r.weight in
          let same : s.join q (cost s d.tree) ≡ s.join q x = ap (s.join q) d.costs in
          let ok = subst (λ c. Admits s ceiling (entry r.category (b - 1) (length ws - e)) c) (sym same) fine in
          subst (λ c. Filled (view s.neutral g.categories chart after r.category b e) (λ y. Within s y c)) same (taken (chain r at d.tree) (ok, d.passes));
      binaries = λ k m r x y at low high is_x is_y fine.
          let d = kept_in is_x in
          let f = kept_in is_y in
          let q = s.price r.weight in
          let same : s.join q (s.join (cost s d.tree) (cost s f.tree)) ≡ s.join q (s.join x y) = ap (s.join q) (ap₂ s.join d.costs f.costs) in
          let ok = subst (λ c. Admits s ceiling (entry r.category (b - 1) (length ws - e)) c) (sym same) fine in
          subst (λ c. Filled (view s.neutral g.categories chart after r.category b e) (λ z. Within s z c)) same (taken (binary r at d.tree f.tree) (ok, d.passes, f.passes));
    };
  }
