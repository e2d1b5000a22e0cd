-- The cells that are filled so far.
use Rattle.std.proofs.Common.{◌≡◌, ℕ, ◌+◌, ◌-◌, ◌<◌, ◌≤◌, ◌⊎◌, List, length, Some, None, Option, sym, ◌∙◌, subst, subst₂, inl, inr, arith}
use Rattle.std.proofs.lemmas.Bool.{cases_eq}
use Rattle.derivation.specs.Grammar.{Grammar}
use Rattle.derivation.specs.Scale.{Scale, Within}
use Rattle.derivation.specs.Bounds.{Entries, Filled}
use Rattle.derivation.specs.Table.{Table, ClosedAt, Closed}
use Rattle.derivation.proofs.Reading.{none_some}
use Rattle.cell.specs.Cell.{Closes}
use Rattle.round.specs.Filling.{Late, Sofar}
use Rattle.round.proofs.Builds.{Found, build}

cases_span : (x y b e : ℕ) → ((x ≡ b) × (y ≡ e)) ⊎ (x ≡ b → y ≡ e → ⊥)
cases_span x y b e =
    elim (cases_eq x b) [
      | inl p ↦ elim (cases_eq y e) [ inl q ↦ inl (p, q) | inr n ↦ inr (λ _ q. n q) ]
      | inr n ↦ inr (λ p _. n p)
    ]

module _ {Cost : Type 0} {s : Scale Cost} {g : Grammar} {entry : Entries Cost} {ceiling : Option Cost} {ws : List ℕ} where
  closed_moves : {v : Table Cost} (v' : Table Cost) (x y : ℕ) → ((A : ℕ) → v' A x y ≡ v A x y) → ((A m : ℕ) → x ≤ m → m < y → v' A x m ≡ v A x m) → ((A m : ℕ) → x ≤ m → m < y → v' A (m + 1) y ≡ v A (m + 1) y) → ClosedAt s g entry ceiling ws v x y → ClosedAt s g entry ceiling ws v' x y
  closed_moves v' x y here left right c = record {
    words = λ k i r at at-word bi ei fine. subst (λ o. Filled o (λ z. Within s z (s.price r.weight))) (sym (here r.category)) (c.words k i r at at-word bi ei fine);
    chains = λ k r z at is fine. subst (λ o. Filled o (λ u. Within s u (s.join (s.price r.weight) z))) (sym (here r.category)) (c.chains k r z at (sym (here r.part) ∙ is) fine);
    binaries = λ k m r z u at low high is-z is-u fine. subst (λ o. Filled o (λ t. Within s t (s.join (s.price r.weight) (s.join z u)))) (sym (here r.category)) (c.binaries k m r z u at low high (sym (left r.left m low high) ∙ is-z) (sym (right r.right m low high) ∙ is-u) fine);
  }

  pub sofar_none : (v : Table Cost) → ((A x y : ℕ) → v A x y ≡ None) → Sofar s g entry ceiling ws v 1 0
  sofar_none v none = record {
    closed = λ x y l. let f = l.first in let o = l.order in let c = l.column in let b = l.back (omega arith) in absurd (omega arith);
    reached = record { by = λ A b e x is. absurd (none_some (none A b e) is) };
    rest = λ A x y _. none A x y;
  }

  pub sofar_column : (v : Table Cost) (e : ℕ) → Sofar s g entry ceiling ws v e e → Sofar s g entry ceiling ws v (e + 1) 0
  sofar_column v e f = record {
    closed = λ x y l. f.closed x y (to x y l);
    reached = f.reached;
    rest = λ A x y n. f.rest A x y (λ l. n (from x y l));
  } where
    to : (x y : ℕ) → Late (e + 1) 0 x y → Late e e x y
    to x y l =
        let a = l.first in
        let o = l.order in
        let c = l.column in
        let below : y ≤ e = elim (cases_eq y (e + 1)) [ inl q ↦ let b = l.back q in omega arith | inr n ↦ omega (arith, n) ] in
        record { first = a; order = o; column = below; back = λ _. omega arith }

    from : (x y : ℕ) → Late e e x y → Late (e + 1) 0 x y
    from x y l =
        let a = l.first in
        let o = l.order in
        let c = l.column in
        record { first = a; order = o; column = omega arith; back = λ q. omega arith }

  module _ (v v' : Table Cost) (e k : ℕ) (before : k < e) (f : Sofar s g entry ceiling ws v e k) (c : Closes s g entry ceiling ws v v' (e - k) e) where
    earlier : (x y : ℕ) → Late e (k + 1) x y → (x ≡ e - k → y ≡ e → ⊥) → Late e k x y
    earlier x y l ne = record { first = l.first; order = l.order; column = l.column; back = λ q. let b = l.back q in let n : x ≡ e - k → ⊥ = λ p. ne p q in omega (arith, n) }

    now_late : (x y : ℕ) → x ≡ e - k → y ≡ e → Late e (k + 1) x y
    now_late x y p q = record { first = omega arith; order = omega arith; column = omega arith; back = λ _. omega arith }

    later : (x y : ℕ) → Late e k x y → Late e (k + 1) x y
    later x y l = record { first = l.first; order = l.order; column = l.column; back = λ q. let b = l.back q in omega arith }

    pub sofar_step : Sofar s g entry ceiling ws v' e (k + 1)
    sofar_step = record {
      closed = λ x y l. elim (cases_span x y (e - k) e) [
        | inl q ↦ subst₂ (λ (u w : ℕ). ClosedAt s g entry ceiling ws v' u w) (sym q.0) (sym q.1) c.closed
        | inr n ↦
            let col = l.column in
            let at = l.back in
            closed_moves v' x y (λ A. c.elsewhere A x y n) (λ A m low high. c.elsewhere A x m (λ _ q. omega arith)) (λ A m low high. c.elsewhere A (m + 1) y (λ p q. let b = at q in omega arith)) (f.closed x y (earlier x y l n))
      ];
      reached = record {
        by = λ A x y z is. elim (cases_span x y (e - k) e) [
          | inl q ↦
              let there : v' A (e - k) e ≡ Some z = subst₂ (λ (u w : ℕ). v' A u w ≡ Some z) q.0 q.1 is in
              subst₂ (λ (u w : ℕ). Found s g entry ceiling ws A u w z) (sym q.0) (sym q.1) (build f.reached (c.made A z there))
          | inr n ↦ f.reached.by A x y z (sym (c.elsewhere A x y n) ∙ is)
        ];
      };
      rest = λ A x y n. c.elsewhere A x y (λ p q. n (now_late x y p q)) ∙ f.rest A x y (λ l. n (later x y l));
    }

  pub sofar_all : (v : Table Cost) (e : ℕ) → length ws < e → Sofar s g entry ceiling ws v e 0 → Closed s g entry ceiling ws v
  sofar_all v e past f = record { at = λ x y a o l. f.closed x y (record { first = a; order = o; column = omega arith; back = λ q. omega arith }) }
