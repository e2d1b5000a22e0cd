-- Whether a column is closed under the rules, rule by rule.
use Rattle.std.proofs.Common.{◌≡◌, ℕ, ◌+◌, ◌<◌, Bool, true, false, List, length, get_or, take, Some, None, Option, sym, refl, ◌∙◌, subst, arith}
use native.Mathlib.Decide.{ℕ_discrete}
use Rattle.std.proofs.lemmas.List.{get_or-take, length-take}
use Rattle.derivation.specs.declared.rules.ChainRule.{ChainRule}
use Rattle.derivation.specs.Named.{At}
use Rattle.derivation.specs.Scale.{Scale, Within}
use Rattle.derivation.specs.Bounds.{Filled}
use Rattle.derivation.proofs.Laws.{not_both}
use Rattle.settle.specs.declared.direction.Direction.{Direction}
use Rattle.settle.specs.declared.direction.Direction.TheVariants.{Up, Down}
use Rattle.settle.specs.Column.{Column, AllOpen, cheaper}
use Rattle.settle.specs.Chains.{source, target, lowered, Closed}
use Rattle.derivation.proofs.Reading.{none_some, some_same, at_read, at_same}

pub named_small : (direction : Direction) (r : ChainRule) (n : ℕ) → (r.category < n) × (r.part < n) → (source direction r < n) × (target direction r < n)
named_small Up r n h = (h.1, h.0)
named_small Down r n h = h

module _ {Cost : Type 0} (s : Scale Cost) (weight : ℕ) where
  lowered_no : (from to : Option Cost) → lowered s weight from to ≡ false → (x : Cost) → from ≡ Some x → Filled to (λ y. Within s y (s.join (s.price weight) x))
  lowered_no None to h x is = absurd (none_some refl is)
  lowered_no (Some c) None h x is = absurd (not_both refl h)
  lowered_no (Some c) (Some y) h x is = subst (λ z. Within s y (s.join (s.price weight) z)) (some_same refl is) h

  pub lowered_none : (from to : Option Cost) → from ≡ None → lowered s weight from to ≡ false
  lowered_none None to is = refl
  lowered_none (Some c) to is = absurd (none_some is refl)

  pub lowered_some : (from to : Option Cost) (x : Cost) (b : Bool) → from ≡ Some x → cheaper s to (s.join (s.price weight) x) ≡ b → lowered s weight from to ≡ b
  lowered_some None to x b is h = absurd (none_some refl is)
  lowered_some (Some c) to x b is h = subst (λ z. cheaper s to (s.join (s.price weight) z) ≡ b) (some_same is refl) h

  lowered_yes : (from to : Option Cost) → lowered s weight from to ≡ true → ((x : Cost) → from ≡ Some x → Filled to (λ y. Within s y (s.join (s.price weight) x))) → ⊥
  lowered_yes None to h closed = not_both h refl
  lowered_yes (Some c) None h closed = closed c refl
  lowered_yes (Some c) (Some y) h closed = not_both h (closed c refl)

module _ {Cost : Type 0} (s : Scale Cost) (direction : Direction) (chains : List ChainRule) (row : Column Cost) where
  -- closed under the first j rules
  pub record ClosedTo (j : ℕ) : Type 0 where
    pub by : (k : ℕ) (r : ChainRule) (x : Cost) → k < j → At chains k r → row (source direction r) ≡ Some x → Filled (row (target direction r)) (λ y. Within s y (s.join (s.price r.weight) x))

  -- whether a rule lowers a cost of the column
  abbrev pub lowering : ChainRule → Bool
  lowering r = lowered s r.weight (row (source direction r)) (row (target direction r))

  pub closed_more : (j : ℕ) (d : ChainRule) → lowering (get_or chains j d) ≡ false → ClosedTo j → ClosedTo (j + 1)
  closed_more j d idle closed = record {
    by = λ k r x h at is. elim (ℕ_discrete k j) [
      | yes e ↦
          let same = at_same j r d (subst (λ (n : ℕ). At chains n r) e at) in
          lowered_no s r.weight (row (source direction r)) (row (target direction r)) (subst (λ (q : ChainRule). lowering q ≡ false) (sym same) idle) x is
      | no ne ↦ closed.by k r x (omega arith) at is
    ];
  }

  pub closed_stop : (j : ℕ) (d : ChainRule) → j < length chains → lowering (get_or chains j d) ≡ true → Closed s AllOpen direction chains row → ⊥
  closed_stop j d inside active closed =
      let r = get_or chains j d in
      lowered_yes s r.weight (row (source direction r)) (row (target direction r)) active (λ x is. closed.by j r x (at_read chains j d inside) is tt)

  -- what is closed under the rules before j
  pub front_take : (j : ℕ) → Closed s AllOpen direction (take j chains) row → ClosedTo j
  front_take j closed = record {
    by = λ k r x below at is. closed.by k r x (record { inside = omega (arith, at.inside, length-take j chains); is = get_or-take j chains k r below ∙ at.is }) is tt;
  }
