-- A table that holds exactly the kept constituents, each at its kept cost, is that of a finished round.
use Rattle.std.proofs.Common.{◌≡◌, ℕ, ◌+◌, ◌-◌, List, length, Some, Option, sym, subst}
use Rattle.derivation.specs.Scale.{Scale, Within}
use Rattle.derivation.specs.Grammar.{Grammar}
use Rattle.derivation.specs.Derivation.{Derivation, cost, word, chain, binary}
use Rattle.derivation.specs.Bounds.{Entries, Filled}
use Rattle.derivation.specs.Passing.{Admits, Passes}
use Rattle.derivation.specs.Kept.{Kept}
use Rattle.derivation.specs.Table.{Table}
use Rattle.tree.specs.Extracted.{Finished}

module _ {Cost : Type 0} {s : Scale Cost} {g : Grammar} {ws : List ℕ} {v : Table Cost} (entry : Entries Cost) (ceiling : Option Cost)
    (passing : (A b e : ℕ) (d : Derivation g ws A b e) → Passes s entry ceiling (length ws) d → (x : Cost) × (v A b e ≡ Some x))
    (kept : (A b e : ℕ) (x : Cost) → v A b e ≡ Some x → Kept s g entry ceiling ws A b e x)
  where
    takes : {A b e : ℕ} (d : Derivation g ws A b e) → Passes s entry ceiling (length ws) d → Filled (v A b e) (λ x. Within s x (cost s d))
    takes {A} {b} {e} d pass =
        let (x, is) = passing A b e d pass in
        subst (λ o. Filled o (λ x. Within s x (cost s d))) (sym is) ((kept A b e x is).least d pass)

    pub finishes : Finished s g ws v
    finishes = record {
      entry = entry;
      ceiling = ceiling;
      closed = record {
        at = λ b e first order last. record {
          words = λ k i r at here is_b is-e fine.
              let T : ℕ → ℕ → Type 0 = λ B E. Admits s ceiling (entry r.category (B - 1) (length ws - E)) (s.price r.weight) → Filled (v r.category B E) (λ x. Within s x (s.price r.weight)) in
              subst (λ E. T b E) (sym is-e) (subst (λ B. T B (i + 1)) (sym is_b) (takes (word r at here))) fine;
          chains = λ k r x at is fine.
              let part = kept r.part b e x is in
              let T : Cost → Type 0 = λ y. Admits s ceiling (entry r.category (b - 1) (length ws - e)) (s.join (s.price r.weight) y) → Filled (v r.category b e) (λ z. Within s z (s.join (s.price r.weight) y)) in
              subst T part.costs (λ fine. takes (chain r at part.tree) (fine, part.passes)) fine;
          binaries = λ k m r x y at low high is is' fine.
              let left = kept r.left b m x is in
              let right = kept r.right (m + 1) e y is' in
              let T : Cost → Cost → Type 0 = λ x y. Admits s ceiling (entry r.category (b - 1) (length ws - e)) (s.join (s.price r.weight) (s.join x y)) → Filled (v r.category b e) (λ z. Within s z (s.join (s.price r.weight) (s.join x y))) in
              subst (λ y. T x y) right.costs (subst (λ x. T x (cost s right.tree)) left.costs (λ fine. takes (binary r at left.tree right.tree) (fine, left.passes, right.passes))) fine;
        };
      };
      reached = record { by = λ A b e x is. let k = kept A b e x is in (k.tree, k.costs, k.passes) };
    }
