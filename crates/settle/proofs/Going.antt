-- What holds while a column of n categories is settled, category by category, the cheapest first.
use Rattle.std.proofs.Common.{◌≡◌, ℕ, zero, suc, ◌<◌, Bool, true, false, ◌⊎◌, List, [], ◌∷◌, length, get_or, set, drop, replicate, Some, None, sym, refl, ap, ◌+◌, ◌-◌, ◌∙◌, subst, inl, inr, ⊎_elim, arith, get_or-set_other, get_or-set_same}
use native.Mathlib.Decide.{ℕ_discrete, dec_lt}
use lib.ListN.{get_or-replicate, length-replicate}
use Rattle.std.proofs.lemmas.List.{get_or_past, get_or-drop, length-drop}
use Rattle.derivation.specs.declared.rules.ChainRule.{ChainRule}
use Rattle.derivation.specs.Named.{At, NamedChains}
use Rattle.derivation.specs.Scale.{Scale, Lawful, Within}
use Rattle.derivation.specs.Bounds.{Filled}
use Rattle.derivation.proofs.Laws.{not_both}
use Rattle.derivation.proofs.Pruning.{grows}
use Rattle.settle.specs.declared.direction.Direction.{Direction}
use Rattle.settle.specs.Column.{Column, AllOpen, Grown}
use Rattle.settle.specs.Offers.{By}
use Rattle.settle.specs.Chains.{source, target, Steps, Picked, Closed, Chained, here, further, Settled}
use Rattle.derivation.proofs.Reading.{none_some, some_same}
use Rattle.settle.proofs.Growing.{lower_than, filled_is, sinks}
use Rattle.settle.proofs.Closing.{named_small, ClosedTo}

pub fresh : (n k : ℕ) → get_or (replicate n false) k false ≡ false
fresh n k = elim (dec_lt k n) [ yes h ↦ get_or-replicate n k false false h | no h ↦ get_or_past (replicate n false) k false (omega (arith, length-replicate n false)) ]

-- how many are not settled
abbrev pub left : List Bool → ℕ
left [] = 0
left (true ∷ bs) = left bs
left (false ∷ bs) = suc (left bs)

pub left_falls : (settled : List Bool) (a : ℕ) → a < length settled → get_or settled a false ≡ false → left (set settled a true) < left settled
left_falls [] a h e = absurd (omega arith)
left_falls (true ∷ bs) zero h e = absurd (not_both refl e)
left_falls (false ∷ bs) zero h e = omega arith
left_falls (true ∷ bs) (suc a) h e = left_falls bs a (omega arith) e
left_falls (false ∷ bs) (suc a) h e = omega (arith, left_falls bs a (omega arith) e)

pub record Going {Cost : Type 0} (s : Scale Cost) (ok : ℕ → Cost → Type 0) (direction : Direction) (chains : List ChainRule) (n : ℕ) (before row : Column Cost) (settled : List Bool) : Type 0 where
  -- no cost that is settled is above one that is not
  pub front : (A B : ℕ) (y : Cost) → B < n → get_or settled A false ≡ true → get_or settled B false ≡ false → row B ≡ Some y → Filled (row A) (λ x. Within s x y)
  pub closed : (k : ℕ) (r : ChainRule) (x : Cost) → At chains k r → get_or settled (source direction r) false ≡ true → row (source direction r) ≡ Some x → ok (target direction r) (s.join (s.price r.weight) x) → Filled (row (target direction r)) (λ y. Within s y (s.join (s.price r.weight) x))
  pub lower : (A : ℕ) (y : Cost) → before A ≡ Some y → Filled (row A) (λ x. Within s x y)
  pub origin : (A : ℕ) (x : Cost) → row A ≡ Some x → Chained s ok direction chains before A x

-- a join is never below its part
dearer : {Cost : Type 0} {s : Scale Cost} (lawful : Lawful s) (p x : Cost) → Within s x (s.join p x)
dearer lawful p x = rw (lawful.comm p x) (grows lawful x p)

module _ {Cost : Type 0} {s : Scale Cost} (lawful : Lawful s) {ok : ℕ → Cost → Type 0} {direction : Direction} {chains : List ChainRule} where
  pub settled_same : (row : Column Cost) → Closed s AllOpen direction chains row → Settled s ok direction chains row row
  settled_same row closed = record { closed = record { by = λ k r x at is _. closed.by k r x at is tt }; lower = λ A y is. filled_is lawful is; origin = λ A x is. here is }

  pub going_none : (n : ℕ) (row : Column Cost) (settled : List Bool) → ((k : ℕ) → get_or settled k false ≡ false) → Going s ok direction chains n row row settled
  going_none n row settled fresh = record {
    front = λ A B y _ h. absurd (not_both h (fresh A));
    closed = λ k r x at h. absurd (not_both h (fresh (source direction r)));
    lower = λ A y is. filled_is lawful is;
    origin = λ A x is. here is;
  }

  module _ {n : ℕ} {before row after : Column Cost} {settled : List Bool} (a : ℕ) (x : Cost) (inside : a < length settled) (going : Going s ok direction chains n before row settled) (picked : Picked s row settled n (Some (a, x))) (relaxed : Grown s ok (By chains (length chains) (Steps s direction (set settled a true) a x)) row after) where
    -- settled now: a, or settled before
    split : (A : ℕ) → get_or (set settled a true) A false ≡ true → (A ≡ a) ⊎ (get_or settled A false ≡ true)
    split A h = elim (ℕ_discrete A a) [ yes e ↦ inl e | no ne ↦ inr (sym (get_or-set_other settled a A true false ne) ∙ h) ]

    -- not settled now, so not settled before
    still : (B : ℕ) → get_or (set settled a true) B false ≡ false → get_or settled B false ≡ false
    still B h = elim (ℕ_discrete B a) [
      | yes e ↦ absurd (not_both (get_or-set_same settled a true false inside) (subst (λ k. get_or (set settled a true) k false ≡ false) e h))
      | no ne ↦ sym (get_or-set_other settled a B true false ne) ∙ h
    ]

    -- what is settled stays
    kept : (A : ℕ) → get_or (set settled a true) A false ≡ true → after A ≡ row A
    kept A h = relaxed.rest A (λ y by. not_both h by.offered.unsettled)

    -- what is settled is not above x
    under : (A : ℕ) → get_or (set settled a true) A false ≡ true → Filled (after A) (λ y. Within s y x)
    under A h = subst (λ o. Filled o (λ y. Within s y x)) (sym (kept A h)) (⊎_elim
        (λ e. subst (λ k. Filled (row k) (λ y. Within s y x)) (sym e) (filled_is lawful picked.2))
        (λ was. going.front A a x picked.0 was picked.1 picked.2)
        (split A h))

    -- what is not settled is not below x
    over : (B : ℕ) (y : Cost) → B < n → get_or (set settled a true) B false ≡ false → after B ≡ Some y → Within s x y
    over B y inside h is = ⊎_elim
        (λ was. picked.3 B y inside (still B h) was)
        (λ new. subst (λ z. Within s x z) (sym new.0.offered.is) (dearer lawful (s.price new.0.one.weight) x))
        (relaxed.origin B y is)

    -- the rules that lead from a
    new : (k : ℕ) (r : ChainRule) → At chains k r → source direction r ≡ a → ok (target direction r) (s.join (s.price r.weight) x) → Filled (after (target direction r)) (λ y. Within s y (s.join (s.price r.weight) x))
    new k r at e fine = go (get_or (set settled a true) (target direction r) false) refl
      where
        go : (b : Bool) → get_or (set settled a true) (target direction r) false ≡ b → Filled (after (target direction r)) (λ y. Within s y (s.join (s.price r.weight) x))
        go true h = lower_than lawful (after (target direction r)) _ _ (dearer lawful (s.price r.weight) x) (under (target direction r) h)
        go false h = relaxed.made (target direction r) _ (record { place = k; one = r; under = at.inside; at = at; offered = record { begins = e; ends = refl; unsettled = h; is = refl } }) fine

    pub going_more : Going s ok direction chains n before after (set settled a true)
    going_more = record {
      front = λ A B y inside h und is. lower_than lawful (after A) _ _ (over B y inside und is) (under A h);
      closed = λ k r z at h is fine.
          let was : row (source direction r) ≡ Some z = sym (kept (source direction r) h) ∙ is in
          ⊎_elim
          (λ e.
          let same : x ≡ z = some_same (subst (λ n. row n ≡ Some x) (sym e) picked.2) was in
          let fine' : ok (target direction r) (s.join (s.price r.weight) x) = subst (λ c. ok (target direction r) (s.join (s.price r.weight) c)) (sym same) fine in
          subst (λ c. Filled (after (target direction r)) (λ y. Within s y (s.join (s.price r.weight) c))) same (new k r at e fine'))
          (λ old. sinks lawful relaxed (target direction r) _ (going.closed k r z at old was fine))
          (split (source direction r) h);
      lower = λ A y is. sinks lawful relaxed A y (going.lower A y is);
      origin = λ A y is. ⊎_elim
          (λ was. going.origin A y was)
          (λ new.
          let by = new.0 in
          let r = by.one in
          let step = by.offered in
          let base : Chained s ok direction chains before (source direction r) x = subst (λ n. Chained s ok direction chains before n x) (sym step.begins) (going.origin a x picked.2) in
          let fine : ok (target direction r) (s.join (s.price r.weight) x) = subst (λ c. ok (target direction r) c) step.is (subst (λ n. ok n y) (sym step.ends) new.1) in
          subst (λ n. Chained s ok direction chains before n y) step.ends (subst (λ c. Chained s ok direction chains before (target direction r) c) (sym step.is) (further r by.at base fine)))
          (relaxed.origin A y is);
    }

  -- where the rules before j lower nothing, what the others offer is what all offer
  pub grown_front : {j a : ℕ} {x : Cost} {settled : List Bool} {row after : Column Cost} → ClosedTo s direction chains row j → row a ≡ Some x → Grown s ok (By (drop j chains) (length (drop j chains)) (Steps s direction settled a x)) row after → Grown s ok (By chains (length chains) (Steps s direction settled a x)) row after
  grown_front {j} {a} {x} {settled} {row} {after} front is grown = record {
    rest = λ A none. grown.rest A (λ c h. none c (up A c h));
    lower = grown.lower;
    made = λ A c h fine. elim (dec_lt h.place j) [
      | yes below ↦
          let r = h.one in
          let step = h.offered in
          let base : row (source direction r) ≡ Some x = ap row step.begins ∙ is in
          let low : Filled (row (target direction r)) (λ y. Within s y (s.join (s.price r.weight) x)) = front.by h.place r x below h.at base in
          let low' : Filled (row A) (λ y. Within s y (s.join (s.price r.weight) x)) = subst (λ n. Filled (row n) (λ y. Within s y (s.join (s.price r.weight) x))) step.ends low in
          sinks lawful grown A c (subst (λ z. Filled (row A) (λ y. Within s y z)) (sym step.is) low')
      | no past ↦
          let k = h.place - j in
          let inside : k < length (drop j chains) = omega (arith, h.at.inside, length-drop j chains) in
          let there : j + k ≡ h.place = omega arith in
          let at : At (drop j chains) k h.one = record { inside = inside; is = get_or-drop j chains k h.one ∙ ap (λ n. get_or chains n h.one) there ∙ h.at.is } in
          grown.made A c (record { place = k; one = h.one; under = inside; at = at; offered = h.offered }) fine
    ];
    origin = λ A y e. ⊎_elim inl (λ new. inr (up A y new.0, new.1)) (grown.origin A y e);
  }
    where
      up : (A : ℕ) (c : Cost) → By (drop j chains) (length (drop j chains)) (Steps s direction settled a x) A c → By chains (length chains) (Steps s direction settled a x) A c
      up A c h =
          let inside : j + h.place < length chains = omega (arith, h.at.inside, length-drop j chains) in
          record { place = j + h.place; one = h.one; under = inside; at = record { inside = inside; is = sym (get_or-drop j chains h.place h.one) ∙ h.at.is }; offered = h.offered }

  pub going_all : {n : ℕ} {before row : Column Cost} {settled : List Bool} → NamedChains chains n → Going s ok direction chains n before row settled → Picked s row settled n None → Settled s ok direction chains before row
  going_all {n} {before} {row} {settled} named going none = record {
    closed = record { by = λ k r x at is. go k r x at is (get_or settled (source direction r) false) refl };
    lower = going.lower;
    origin = going.origin;
  }
    where
      go : (k : ℕ) (r : ChainRule) (x : Cost) → At chains k r → row (source direction r) ≡ Some x → (b : Bool) → get_or settled (source direction r) false ≡ b → ok (target direction r) (s.join (s.price r.weight) x) → Filled (row (target direction r)) (λ y. Within s y (s.join (s.price r.weight) x))
      go k r x at is true h = going.closed k r x at h is
      go k r x at is false h = absurd (none_some (none (source direction r) (named_small direction r n (named k r at)).0 h) is)
