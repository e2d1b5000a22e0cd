-- What the steps of a search do to the table.
use Rattle.std.proofs.Common.{◌≡◌, ℕ, ◌<◌, true, false, cond, List, length, get_or, set, Some, None, sym, refl, ap, ◌∙◌, subst, inl, inr, ⊎_elim, arith, get_or-set_other, get_or-set_same}
use native.Mathlib.Decide.{ℕ_discrete}
use Rattle.std.proofs.lemmas.Bool.{cases_Bool}
use Rattle.chart.specs.Meaning.{Seen, Sound, Inside, Adds}
use Rattle.chart.proofs.Adding.{adds_keeps, adds_new, adds_other}
use Rattle.table.specs.Memory.{slot, view, Moved, Alike, Stored, Ready, Placed, Framed}
use Rattle.derivation.proofs.Reading.{none_some, some_same}
use Rattle.table.proofs.Slots.{slot_below, slot_apart}

pub alike_none : (chart : Seen) → Alike chart chart
alike_none chart = record { room = refl; words = refl; categories = refl }

pub alike_then : {one two three : Seen} → Alike one two → Alike two three → Alike one three
alike_then first then = record { room = then.room ∙ first.room; words = then.words ∙ first.words; categories = then.categories ∙ first.categories }

-- a constituent that a ready chart holds has its place among the costs
pub held_inside : {g long : ℕ} {chart : Seen} → Ready g chart long → {b e A : ℕ} → Inside chart.words chart.categories b e A → Inside chart.words g b e A
held_inside {chart = chart} ready {b} {e} {A} i = subst (λ k. Inside chart.words k b e A) ready.same i

pub below_costs : {C : Type 0} {seen : C → Seen} (sound : Sound seen) {g long : ℕ} {chart : C} → Ready g (seen chart) long → {b e A : ℕ} → (seen chart).holds b e A ≡ true → slot g b e A < long
below_costs sound {g} {long} {chart} ready {b} {e} {A} held =
    omega (arith, slot_below _ _ _ _ _ (held_inside ready (sound.bounded chart b e A held)), ready.fits)

-- what is stored over a stretch has its place
pub inside_placed : {g long b e A : ℕ} {chart : Seen} → Placed g b e chart long → A < g → Inside chart.words g b e A
inside_placed placed kind = record { first = placed.first; order = placed.order; last = placed.last; kind = kind }

module _ {Cost : Type 0} (d : Cost) (g : ℕ) where
  pub view_true : (chart : Seen) (costs : List Cost) (A b e : ℕ) → chart.holds b e A ≡ true → view d g chart costs A b e ≡ Some (get_or costs (slot g b e A) d)
  unfolding view
  view_true chart costs A b e is = ap (λ t. cond t (Some (get_or costs (slot g b e A) d)) None) is

  pub view_false : (chart : Seen) (costs : List Cost) (A b e : ℕ) → chart.holds b e A ≡ false → view d g chart costs A b e ≡ None
  unfolding view
  view_false chart costs A b e is = ap (λ t. cond t (Some (get_or costs (slot g b e A) d)) None) is

  -- a cost in the table is that of a constituent that is held
  pub view_held : (chart : Seen) (costs : List Cost) (A b e : ℕ) (x : Cost) → view d g chart costs A b e ≡ Some x → (chart.holds b e A ≡ true) × (get_or costs (slot g b e A) d ≡ x)
  view_held chart costs A b e x is = elim (cases_Bool (chart.holds b e A)) [
    | inl t ↦ (t, some_same (view_true chart costs A b e t) is)
    | inr f ↦ absurd (none_some (view_false chart costs A b e f) is)
  ]

  pub view_same : (before after : Seen) (costs costs' : List Cost) (A b e : ℕ) → after.holds b e A ≡ before.holds b e A → (before.holds b e A ≡ true → get_or costs' (slot g b e A) d ≡ get_or costs (slot g b e A) d) → view d g after costs' A b e ≡ view d g before costs A b e
  view_same before after costs costs' A b e held same = elim (cases_Bool (before.holds b e A)) [
    | inl t ↦ view_true after costs' A b e (held ∙ t) ∙ ap Some (same t) ∙ sym (view_true before costs A b e t)
    | inr f ↦ view_false after costs' A b e (held ∙ f) ∙ sym (view_false before costs A b e f)
  ]

  -- a table tells what is held
  pub held_same : (before after : Seen) (costs costs' : List Cost) (A x y : ℕ) → view d g after costs' A x y ≡ view d g before costs A x y → after.holds x y A ≡ before.holds x y A
  held_same before after costs costs' A x y is = elim (cases_Bool (before.holds x y A)) [
    | inl t ↦ (view_held after costs' A x y _ (is ∙ view_true before costs A x y t)).0 ∙ sym t
    | inr f ↦ elim (cases_Bool (after.holds x y A)) [
      | inl t ↦ absurd (none_some (view_false before costs A x y f) (sym is ∙ view_true after costs' A x y t))
      | inr f' ↦ f' ∙ sym f
    ]
  ]

  pub moved_none : (n : ℕ) (chart : Seen) (costs : List Cost) → Moved d n g chart costs chart costs
  moved_none n chart costs = record { grows = λ b e A t. t; same = λ k. inl refl }

  pub moved_then : (n : ℕ) {one two three : Seen} {costs costs' costs'' : List Cost} → Moved d n g one costs two costs' → Moved d n g two costs' three costs'' → Moved d n g one costs three costs''
  moved_then n first then = record {
    grows = λ b e A t. then.grows b e A (first.grows b e A t);
    same = λ k. ⊎_elim
        (λ one. ⊎_elim (λ two. inl (one ∙ two)) (λ at. inr (at.0, at.1, at.2, at.3, at.4, then.grows at.0 at.1 at.2 at.5)) (first.same k))
        (λ at. inr at)
        (then.same k);
  }

  pub stored : (before after : Seen) (costs : List Cost) → ((x y B : ℕ) → before.holds x y B ≡ true → Inside before.words g x y B) → (b e A : ℕ) (cost : Cost) → Inside before.words g b e A → slot g b e A < length costs → Alike before after → Adds before.holds after.holds true b e A → Stored d g b e A cost before costs after (set costs (slot g b e A) cost)
  stored before after costs bounded b e A cost inside fits alike adds =
      let at = slot g b e A in
      let h = before.holds in
      let h' = after.holds in
      let new : h' b e A ≡ true = adds_new h h' b e A adds in
      record {
        alike = alike;
        here = view_true after (set costs at cost) A b e new ∙ ap Some (get_or-set_same costs at cost d fits);
        elsewhere = λ B x y ne. view_same before after costs (set costs at cost) B x y (adds_other h h' true b e A x y B adds (λ p q r. ne r p q))
            (λ t. get_or-set_other costs at (slot g x y B) cost d (λ same. let q = slot_apart before.words g x y B b e A (bounded x y B t) inside same in ne q.2 q.0 q.1));
        moved = record {
          grows = λ x y B t. adds_keeps h h' true b e A x y B adds t;
          same = λ k. elim (ℕ_discrete k at) [ yes is ↦ inr (b, e, A, inside, is, new) | no ne ↦ inl (get_or-set_other costs at k cost d ne) ];
        };
      }

  module _ {b e : ℕ} where
    pub framed_none : (chart : Seen) (costs : List Cost) → Framed d g b e chart costs chart costs
    framed_none chart costs = record { alike = alike_none chart; elsewhere = λ B x y _. refl; moved = moved_none chart.words chart costs }

    pub framed_then : {one two three : Seen} {costs costs' costs'' : List Cost} → Framed d g b e one costs two costs' → Framed d g b e two costs' three costs'' → Framed d g b e one costs three costs''
    framed_then {one} {two} {three} {costs' = costs'} {costs'' = costs''} first then = record {
      alike = alike_then first.alike then.alike;
      elsewhere = λ B x y ne. then.elsewhere B x y ne ∙ first.elsewhere B x y ne;
      moved = moved_then one.words first.moved (subst (λ n. Moved d n g two costs' three costs'') first.alike.words then.moved);
    }
