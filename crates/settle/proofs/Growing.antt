-- What offers make of a column.
use Rattle.std.proofs.Common.{◌≡◌, ℕ, ◌+◌, ◌<◌, true, ◌⊎◌, List, length, get_or, Some, None, Option, sym, refl, ◌∙◌, subst, inl, inr, ⊎_elim, arith}
use native.Mathlib.Decide.{ℕ_discrete}
use Rattle.derivation.specs.Scale.{Scale, Lawful, Within}
use Rattle.derivation.specs.Bounds.{Filled}
use Rattle.derivation.specs.Named.{At}
use Rattle.derivation.proofs.Laws.{within_refl, above_within}
use Rattle.derivation.proofs.Pruning.{filled_map}
use Rattle.derivation.proofs.Reading.{none_some, some_same, at_read, at_same}
use Rattle.settle.specs.Column.{Column, cheaper, Offered, Grown}
use Rattle.settle.specs.Offers.{Only, By, joined}

-- what is there, with its equation
pub found : {Cost : Type 0} {P : Cost → Type 0} (o : Option Cost) → Filled o P → (x : Cost) × (o ≡ Some x) × P x
found None h = absurd h
found (Some x) h = (x, refl, h)

-- the two costs that a rule joined
pub parts : {Cost : Type 0} (s : Scale Cost) (weight : ℕ) (first second : Option Cost) (x : Cost) → joined s weight first second ≡ Some x → (y z : Cost) × (first ≡ Some y) × (second ≡ Some z) × (x ≡ s.join (s.price weight) (s.join y z))
parts s weight (Some y) (Some z) x is = (y, z, refl, refl, some_same is refl)
parts s weight (Some y) None x is = absurd (none_some refl is)
parts s weight None second x is = absurd (none_some refl is)

module _ {Cost : Type 0} {s : Scale Cost} (lawful : Lawful s) where
  pub lower_than : (o : Option Cost) (x y : Cost) → Within s x y → Filled o (λ z. Within s z x) → Filled o (λ z. Within s z y)
  lower_than o x y low h = filled_map o (λ z k. lawful.trans _ _ _ k low) h

  pub filled_is : {o : Option Cost} {x : Cost} → o ≡ Some x → Filled o (λ z. Within s z x)
  filled_is {x = x} is = subst (λ q. Filled q (λ z. Within s z x)) (sym is) (within_refl lawful x)

  wins : (o : Option Cost) (cost : Cost) → cheaper s o cost ≡ true → (y : Cost) → o ≡ Some y → Within s cost y
  wins None cost h y is = absurd (none_some refl is)
  wins (Some old) cost h y is = subst (λ z. Within s cost z) (some_same refl is) (above_within lawful old cost h)

  module _ {ok : ℕ → Cost → Type 0} where
    -- one offer, where the cost enters
    pub offered_set : (col after : Column Cost) (at : ℕ) (cost : Cost) → cheaper s (col at) cost ≡ true → ok at cost → after at ≡ Some cost → ((k : ℕ) → (k ≡ at → ⊥) → after k ≡ col k) → Offered s ok col after at cost
    offered_set col after at cost cheap fine is others =
        record {
          others = others;
          low = λ _. filled_is is;
          lower = λ y was. subst (λ o. Filled o (λ x. Within s x y)) (sym is) (wins _ cost cheap y was);
          origin = λ x now. inr (some_same now is, fine);
        }

    -- the same offer, where the same may enter
    pub offered_as : {ok' : ℕ → Cost → Type 0} {before after : Column Cost} {at : ℕ} {cost : Cost} → ((A : ℕ) (c : Cost) → ok A c → ok' A c) → ((A : ℕ) (c : Cost) → ok' A c → ok A c) → Offered s ok before after at cost → Offered s ok' before after at cost
    offered_as {at = at} {cost = cost} to from off = record {
      others = off.others;
      low = λ fine. off.low (from at cost fine);
      lower = off.lower;
      origin = λ x is. ⊎_elim inl (λ (new : (x ≡ cost) × ok at cost). inr (new.0, to at cost new.1)) (off.origin x is);
    }

    pub sinks : {Src : ℕ → Cost → Type 0} {before after : Column Cost} → Grown s ok Src before after → (A : ℕ) (y : Cost) → Filled (before A) (λ x. Within s x y) → Filled (after A) (λ x. Within s x y)
    sinks {before = before} {after = after} grown A y h =
        let (x, is, low) = found (before A) h in
        lower_than (after A) x y low (grown.lower A x is)

    -- nothing offered
    pub grown_none : {Src : ℕ → Cost → Type 0} (col : Column Cost) → ((A : ℕ) (c : Cost) → Src A c → ⊥) → Grown s ok Src col col
    grown_none col none = record {
      rest = λ A _. refl;
      lower = λ A y is. filled_is is;
      made = λ A c h _. absurd (none A c h);
      origin = λ A x is. inl is;
    }

    -- one cost offered
    pub grown_one : {before after : Column Cost} {at : ℕ} {cost : Cost} → Offered s ok before after at cost → Grown s ok (Only at cost) before after
    grown_one {before} {after} {at} {cost} off = record {
      rest = λ A none. off.others A (λ e. none cost (sym e, refl));
      lower = λ A y is. elim (ℕ_discrete A at) [
        | yes e ↦ subst (λ k. Filled (after k) (λ x. Within s x y)) (sym e) (off.lower y (subst (λ k. before k ≡ Some y) e is))
        | no ne ↦ filled_is (off.others A ne ∙ is)
      ];
      made = λ A c only fine.
          let there : Filled (after at) (λ x. Within s x c) = subst (λ z. Filled (after at) (λ x. Within s x z)) (sym only.1) (off.low (subst (λ z. ok at z) only.1 (subst (λ k. ok k c) (sym only.0) fine))) in
          subst (λ k. Filled (after k) (λ x. Within s x c)) only.0 there;
      origin = λ A x is. elim (ℕ_discrete A at) [
        | yes e ↦ ⊎_elim
            (λ was. inl (subst (λ k. before k ≡ Some x) (sym e) was))
            (λ (new : (x ≡ cost) × ok at cost). inr ((sym e, new.0), subst (λ k. ok k x) (sym e) (subst (λ z. ok at z) (sym new.0) new.1)))
            (off.origin x (subst (λ k. after k ≡ Some x) e is))
        | no ne ↦ inl (sym (off.others A ne) ∙ is)
      ];
    }

    -- the same offers, said otherwise
    pub grown_same : {Src Src' : ℕ → Cost → Type 0} {before after : Column Cost} → Grown s ok Src before after → ((A : ℕ) (c : Cost) → Src A c → Src' A c) → ((A : ℕ) (c : Cost) → Src' A c → Src A c) → Grown s ok Src' before after
    grown_same grown up down = record {
      rest = λ A none. grown.rest A (λ c h. none c (up A c h));
      lower = grown.lower;
      made = λ A c h. grown.made A c (down A c h);
      origin = λ A x is. ⊎_elim inl (λ new. inr (up A x new.0, new.1)) (grown.origin A x is);
    }

    -- the same offers, where the same may enter
    pub grown_open : {ok' Src : ℕ → Cost → Type 0} {before after : Column Cost} → ((A : ℕ) (c : Cost) → ok A c → ok' A c) → ((A : ℕ) (c : Cost) → ok' A c → ok A c) → Grown s ok Src before after → Grown s ok' Src before after
    grown_open {Src = Src} to from grown = record {
      rest = grown.rest;
      lower = grown.lower;
      made = λ A c h fine. grown.made A c h (from A c fine);
      origin = λ A x is. ⊎_elim inl (λ (new : Src A x × ok A x). inr (new.0, to A x new.1)) (grown.origin A x is);
    }

    -- some offers after others
    pub grown_then : {Src Add Src' : ℕ → Cost → Type 0} {before now after : Column Cost} → Grown s ok Src before now → Grown s ok Add now after → ((A : ℕ) (c : Cost) → Src A c → Src' A c) → ((A : ℕ) (c : Cost) → Add A c → Src' A c) → ((A : ℕ) (c : Cost) → Src' A c → Src A c ⊎ Add A c) → Grown s ok Src' before after
    grown_then {Src} {Add} grown more up add cases = record {
      rest = λ A none. more.rest A (λ c h. none c (add A c h)) ∙ grown.rest A (λ c h. none c (up A c h));
      lower = λ A y is. sinks more A y (grown.lower A y is);
      made = λ A c h fine. ⊎_elim (λ old. sinks more A c (grown.made A c old fine)) (λ new. more.made A c new fine) (cases A c h);
      origin = λ A x is. ⊎_elim
          (λ was. ⊎_elim inl (λ (h : Src A x × ok A x). inr (up A x h.0, h.1)) (grown.origin A x was))
          (λ (h : Add A x × ok A x). inr (add A x h.0, h.1))
          (more.origin A x is);
    }

    pub grown_offer : {Src Src' : ℕ → Cost → Type 0} {before now after : Column Cost} {at : ℕ} {cost : Cost} → Grown s ok Src before now → Offered s ok now after at cost → ((A : ℕ) (c : Cost) → Src A c → Src' A c) → Src' at cost → ((A : ℕ) (c : Cost) → Src' A c → Src A c ⊎ ((A ≡ at) × (c ≡ cost))) → Grown s ok Src' before after
    grown_offer {Src' = Src'} {at = at} {cost = cost} grown off up new cases = grown_then grown (grown_one off) up
        (λ A c only. subst (λ k. Src' k c) only.0 (subst (λ z. Src' at z) (sym only.1) new))
        (λ A c h. ⊎_elim inl (λ (e : (A ≡ at) × (c ≡ cost)). inr (sym e.0, e.1)) (cases A c h))

    -- what one thing of a list more offers
    pub by_more : {X : Type 0} {xs : List X} {j : ℕ} {P : X → ℕ → Cost → Type 0} {before now after : Column Cost} (d : X) → j < length xs → Grown s ok (By xs j P) before now → Grown s ok (P (get_or xs j d)) now after → Grown s ok (By xs (j + 1) P) before after
    by_more {X} {xs} {j} {P} d inside one two = grown_then one two
        (λ A x b. record { place = b.place; one = b.one; under = omega (arith, b.under); at = b.at; offered = b.offered })
        (λ A x p. record { place = j; one = get_or xs j d; under = omega arith; at = at_read xs j d inside; offered = p })
        (λ A x b. elim (ℕ_discrete b.place j) [
          | yes e ↦ inr (subst (λ (q : X). P q A x) (at_same j b.one d (subst (λ (n : ℕ). At xs n b.one) e b.at)) b.offered)
          | no ne ↦ inl (record { place = b.place; one = b.one; under = omega (arith, b.under); at = b.at; offered = b.offered })
        ])

    -- one thing of a list more, which offers nothing
    pub by_skip : {X : Type 0} {xs : List X} {j : ℕ} {P : X → ℕ → Cost → Type 0} {before now : Column Cost} (d : X) → j < length xs → Grown s ok (By xs j P) before now → ((A : ℕ) (x : Cost) → P (get_or xs j d) A x → ⊥) → Grown s ok (By xs (j + 1) P) before now
    by_skip {now = now} d inside one none = by_more d inside one (grown_none now none)

    -- what all things of a list offer
    pub by_all : {X : Type 0} {xs : List X} {j : ℕ} {P : X → ℕ → Cost → Type 0} {before after : Column Cost} → j ≡ length xs → Grown s ok (By xs j P) before after → Grown s ok (By xs (length xs) P) before after
    by_all {xs = xs} {P = P} {before = before} {after = after} all grown = subst (λ n. Grown s ok (By xs n P) before after) all grown
