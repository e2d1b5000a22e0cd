-- The steps of a line: its names get their numbers.
use Rattle.std.proofs.Common.{◌≡◌, ℕ, ◌<◌, ◌≤◌, Bool, true, false, cond, ltb, List, [], ◌∷◌, length, take, Ok, Err, Result, refl, ap, ◌∙◌, subst, inl, inr, arith}
use Rattle.std.proofs.lemmas.Bool.{cases_Bool, ltb-true}
use Rattle.std.proofs.lemmas.List.{get_or_push, length-take, length_push, take-append-le, take_all}
use Rattle.refusals.specs.declared.Refusal.{Refusal}
use Rattle.refusals.specs.declared.Refusal.TheVariants.{GrammarFull}
use Rattle.lines.specs.Run.{on_ok}
use Rattle.grammar.specs.declared.flaw.Flaw.{Flaw}
use Rattle.grammar.specs.declared.flaw.Part.{Part}
use Rattle.grammar.specs.declared.flaw.Part.TheVariants.{Line, Category, First}
use Rattle.grammar.specs.Listed.{number_of}
use Rattle.grammar.specs.Seen.{Seen, rules}
use Rattle.grammar.specs.Adding.{at_part, entering, naming, heading, wording, with_categories, with_words}
use Rattle.grammar.specs.Added.{Spells}
use Rattle.grammar.proofs.Numbers.{number_found}

-- what equal answers tell
pub ok_same : {X E : Type 0} (x y : X) → ◌≡◌ {A = Result X E} (Ok x) (Ok y) → x ≡ y
ok_same x y h = cc

pub err_not_ok : {X E : Type 0} (e : E) (x : X) → ◌≡◌ {A = Result X E} (Err e) (Ok x) → ⊥
err_not_ok e x h = cc

-- the step that an answer came by
pub record Step {X Y E : Type 0} (d : Result X E) (f : X → Result Y E) (y : Y) : Type 0 where
  pub x : X
  pub is : d ≡ Ok x
  pub next : f x ≡ Ok y

pub step : {X Y E : Type 0} (d : Result X E) (f : X → Result Y E) (y : Y) → on_ok d f ≡ Ok y → Step d f y
step (Ok x) f y h = record { x = x; is = refl; next = h }
step (Err e) f y h = absurd (err_not_ok e y h)

-- what is due unless a test is true
pub otherwise : {X : Type 0} (b : Bool) (e : Flaw) (r : Result X Flaw) (x : X) → cond b (Err e) r ≡ Ok x → r ≡ Ok x
otherwise true e r x h = absurd (err_not_ok e x h)
otherwise false e r x h = h

placed : {X : Type 0} (part : Part) (r : Result X Refusal) (x : X) → at_part part r ≡ Ok x → r ≡ Ok x
placed part (Ok y) x h = cc
placed part (Err e) x h = absurd (err_not_ok _ x h)

pub whole : (names : List (List ℕ)) → take (length names) names ≡ names
whole names = take_all (length names) names (omega arith)

-- the names held stay in front, and the number is that of a name spelled so
record Entered (names : List (List ℕ)) (name : List ℕ) (k : ℕ) (more : List (List ℕ)) : Type 0 where
  pub front : take (length names) more ≡ names
  pub spells : Spells more k name

entered : (most : ℕ) (names : List (List ℕ)) (name : List ℕ) (k : ℕ) (more : List (List ℕ)) → entering most names name ≡ Ok (k, more) → Entered names name k more
entered most names name k more h =
    let at : (a : ℕ) (xs : List (List ℕ)) → ◌≡◌ {A = Result (ℕ × List (List ℕ)) Refusal} (Ok (a, xs)) (Ok (k, more)) → Entered names name a xs → Entered names name k more =
    λ a xs e here. subst (λ (p : ℕ × List (List ℕ)). Entered names name p.0 p.1) (ok_same (a, xs) (k, more) e) here in
    elim (cases_Bool (ltb (number_of names name) (length names))) [
      | inl t ↦
          let held : number_of names name < length names = ltb-true _ _ t in
          at _ _ (rw t at h) (record { front = whole names; spells = record { inside = held; is = number_found names name held } })
      | inr t ↦ elim (cases_Bool (ltb (length names) most)) [
        | inl u ↦
            let long = length_push names name in
            at _ _ (rw (t, u) at h) (record { front = take-append-le (length names) names (name ∷ []) (omega arith) ∙ whole names; spells = record { inside = omega arith; is = get_or_push names name [] (length names) refl } })
        | inr u ↦ absurd (err_not_ok GrammarFull (k, more) (rw (t, u) at h))
      ]
    ]

-- a name that got its number among names; w is the draft with other such names
pub record NameAdded (w : List (List ℕ) → Seen) (names : List (List ℕ)) (name : List ℕ) (k : ℕ) (t : Seen) : Type 0 where
  pub more : List (List ℕ)
  pub is : t ≡ w more
  pub front : take (length names) more ≡ names
  pub spells : Spells more k name

name_added : (w : List (List ℕ) → Seen) (most : ℕ) (names : List (List ℕ)) (name : List ℕ) (part : Part) (p : ℕ × Seen) → on_ok (at_part part (entering most names name)) (λ q. Ok (q.0, w q.1)) ≡ Ok p → NameAdded w names name p.0 p.1
name_added w most names name part p h =
    let one = step (at_part part (entering most names name)) (λ q. Ok (q.0, w q.1)) p h in
    let e = entered most names name one.x.0 one.x.1 (placed part _ one.x one.is) in
    subst (λ (q : ℕ × Seen). NameAdded w names name q.0 q.1) (ok_same (one.x.0, w one.x.1) p one.next) (record { more = one.x.1; is = refl; front = e.front; spells = e.spells })

abbrev pub CategoryNamed : Seen → List ℕ → ℕ → Seen → Type 0
CategoryNamed s = NameAdded (with_categories s) s.categories

abbrev pub WordNamed : Seen → List ℕ → ℕ → Seen → Type 0
WordNamed s = NameAdded (with_words s) s.words

pub category_named : (part : Part) (s : Seen) (name : List ℕ) (p : ℕ × Seen) → naming part s name ≡ Ok p → CategoryNamed s name p.0 p.1
category_named part s name p h = name_added (with_categories s) s.limit s.categories name part p h

pub word_named : (s : Seen) (name : List ℕ) (p : ℕ × Seen) → wording s name ≡ Ok p → WordNamed s name p.0 p.1
word_named s name p h = name_added (with_words s) 512 s.words name First p h

-- with room for one more rule
pub record HeadNamed (s : Seen) (name : List ℕ) (k : ℕ) (t : Seen) : Type 0 where
  pub room : rules s < 1024
  pub category : CategoryNamed s name k t

pub head_named : (s : Seen) (name : List ℕ) (p : ℕ × Seen) → heading s name ≡ Ok p → HeadNamed s name p.0 p.1
head_named s name p h = elim (cases_Bool (ltb (rules s) 1024)) [
  | inl t ↦ record { room = ltb-true _ _ t; category = category_named Category s name p (rw t at h) }
  | inr t ↦ absurd (err_not_ok (record { refusal = GrammarFull; part = Line }) p (rw t at h))
]

-- how many names and rules there are then
pub record Counted (s : Seen) (k : ℕ) (names more : List (List ℕ)) (t : Seen) : Type 0 where
  pub same : rules t ≡ rules s
  pub below : k < length more
  pub longer : length names ≤ length more

pub counted : (s : Seen) (name : List ℕ) (k : ℕ) (t : Seen) → CategoryNamed s name k t → Counted s k s.categories t.categories t
counted s name k t n =
    let at = ap (λ x. length x.categories) n.is in
    let long = simp length-take at (ap length n.front) in
    record { same = ap rules n.is; below = omega (arith, n.spells.inside); longer = omega arith }

pub counted_word : (s : Seen) (name : List ℕ) (k : ℕ) (t : Seen) → WordNamed s name k t → Counted s k s.words t.words t × (length t.categories ≡ length s.categories)
counted_word s name k t n =
    let at = ap (λ x. length x.words) n.is in
    let long = simp length-take at (ap length n.front) in
    (record { same = ap rules n.is; below = omega (arith, n.spells.inside); longer = omega arith }, ap (λ x. length x.categories) n.is)
