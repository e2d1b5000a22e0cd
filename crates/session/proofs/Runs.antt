-- The words held after a list of calls are fixed by the calls' arguments.
use Rattle.std.proofs.Common.{◌≡◌, ℕ, ◌+◌, ◌-◌, ◌≤◌, Bool, true, false, cond, ◌&&◌, ltb, leb, List, [], ◌∷◌, ◌++◌, length, take, is_some, is_ok, Some, None, Ok, Err, Option, sym, refl, ap, ◌∙◌, subst, ⊎_elim, arith, length-append, length-set, length-take}
use Rattle.std.proofs.lemmas.Bool.{eq-eqb}
use Rattle.std.proofs.lemmas.Bool.Decides.{nat_tests}
use Rattle.refusals.specs.declared.Refusal.{Refusal}
use Rattle.refusals.specs.declared.Refusal.TheVariants.{OtherGrammar, UnknownWord, SessionFull, NoPlace}
use Rattle.session.specs.State.{State, Over, holding}
use Rattle.session.specs.Calls.{fits, refusing, tried, replaced, counted}
use Rattle.session.specs.Runs.{kept, dropped, undecided, Call, put_word, take_back, trial, refused_trial, request, after, held_from, held, Requested, Requests, none, more, Step, putting, taking, trying, refused, asking, Leads, start, next}

-- a call that two tests let through, on a session of this grammar
let_through : (a b c : Bool) (n : ℕ) (s t : State) (x y z : Refusal) → a ≡ true → (cond (is_ok {T = ℕ} {E = Refusal} (cond a (cond b (cond c (Ok n) (Err x)) (Err y)) (Err z))) t s).held ≡ cond (b && c) t.held s.held
let_through true true true n s t x y z fit = refl
let_through true true false n s t x y z fit = refl
let_through true false c n s t x y z fit = refl
let_through false b c n s t x y z fit = let f : ◌≡◌ {A = ℕ} 0 1 = ap (λ (v : Bool). cond v 1 0) fit in absurd (omega arith)

let_back : (a b : Bool) (n : ℕ) (s t : State) (x y : Refusal) → a ≡ true → (cond (is_ok {T = ℕ} {E = Refusal} (cond a (cond b (Ok n) (Err x)) (Err y))) t s).held ≡ cond b t.held s.held
let_back true true n s t x y fit = refl
let_back true false n s t x y fit = refl
let_back false b n s t x y fit = let f : ◌≡◌ {A = ℕ} 0 1 = ap (λ (v : Bool). cond v 1 0) fit in absurd (omega arith)

chosen_number : (b : Bool) (s t : State) → t.number ≡ s.number → (cond b t s).number ≡ s.number
chosen_number true s t is = is
chosen_number false s t is = refl

-- a trial that is not refused was let through by its tests
pub not_refused : (a b c : Bool) (x y z : Refusal) → ◌≡◌ {A = Option Refusal} (cond a (cond b (cond c None (Some x)) (Some y)) (Some z)) None → (b ≡ true) × (c ≡ true)
not_refused true true true x y z is = (refl, refl)
not_refused true true false x y z is = let f : ◌≡◌ {A = ℕ} 0 1 = ap (λ (o : Option Refusal). cond (is_some o) 0 1) is in absurd (omega arith)
not_refused true false c x y z is = let f : ◌≡◌ {A = ℕ} 0 1 = ap (λ (o : Option Refusal). cond (is_some o) 0 1) is in absurd (omega arith)
not_refused false b c x y z is = let f : ◌≡◌ {A = ℕ} 0 1 = ap (λ (o : Option Refusal). cond (is_some o) 0 1) is in absurd (omega arith)

requested_same : {s t : State} → Requested s t → (t.held ≡ s.held) × (t.number ≡ s.number)
requested_same {s} {t} asked = ⊎_elim (λ (e : t ≡ s). (ap (λ (x : State). x.held) e, ap (λ (x : State). x.number) e)) (λ (e : t ≡ counted s). (ap (λ (x : State). x.held) e, ap (λ (x : State). x.number) e)) asked

pub requests_same : {n : ℕ} {s t : State} → Requests n s t → (t.held ≡ s.held) × (t.number ≡ s.number)
requests_same none = (refl, refl)
requests_same (more before last) =
    let one = requests_same before in
    let two = requested_same last in
    (two.0 ∙ one.0, two.1 ∙ one.1)

-- the words while a trial that was not refused stands
pub tried_held : (o : Over) (s : State) (place w : ℕ) → refusing o s place w ≡ None → tried o s place w ≡ holding s (replaced s.held place w)
tried_held o s place w is = ap (λ (r : Option Refusal). cond (is_some r) s (holding s (replaced s.held place w))) is

pub record Stepped (o : Over) (s : State) (c : Call) (t : State) : Type 0 where
  pub words : t.held ≡ after o s.held c
  pub number : t.number ≡ s.number

pub step_tells : {o : Over} {s t : State} {c : Call} → s.number ≡ o.number → Step o s c t → Stepped o s c t
step_tells {o} {s} is (putting w) = record {
  words = let_through (fits o s) (ltb w o.grammar.vocabulary) (ltb (length s.held) 40) (length s.held + 1) s (holding s (s.held ++ (w ∷ []))) SessionFull UnknownWord OtherGrammar (eq-eqb s.number o.number is);
  number = chosen_number _ s (holding s (s.held ++ (w ∷ []))) refl;
}
step_tells {o} {s} is (taking k) = record {
  words = let_back (fits o s) (leb k (length s.held)) (length s.held - k) s (holding s (take (length s.held - k) s.held)) NoPlace OtherGrammar (eq-eqb s.number o.number is);
  number = chosen_number _ s (holding s (take (length s.held - k) s.held)) refl;
}
step_tells {o} {s} is (trying place w n kept t free asked) =
    let same = requests_same asked in
    let begun = tried_held o s place w free in
    let (known, inside) = not_refused (fits o s) (ltb w o.grammar.vocabulary) (leb 1 place && leb place (length s.held)) NoPlace UnknownWord OtherGrammar free in
    record {
      words = same.0 ∙ ap (λ (x : State). x.held) begun ∙ sym (ap (λ (b : Bool). cond (b && (leb 1 place && leb place (length s.held))) (replaced s.held place w) s.held) known ∙ ap (λ (b : Bool). cond b (replaced s.held place w) s.held) inside);
      number = same.1 ∙ ap (λ (x : State). x.number) begun;
    }
step_tells {o} {s} is (trying place w n dropped t free asked) = record { words = refl; number = (requests_same asked).1 ∙ ap (λ (x : State). x.number) (tried_held o s place w free) }
step_tells {o} {s} is (trying place w n undecided t free asked) = record { words = refl; number = (requests_same asked).1 ∙ ap (λ (x : State). x.number) (tried_held o s place w free) }
step_tells is (refused place w why is-so) = record { words = refl; number = refl }
step_tells is (asking t asked) = record { words = (requested_same asked).0; number = (requested_same asked).1 }

after_short : (o : Over) (ws : List ℕ) (c : Call) → length ws ≤ 40 → length (after o ws c) ≤ 40
after_short o ws (put_word w) h = grind (arith, nat_tests, length-append)
after_short o ws (take_back k) h = grind (arith, nat_tests, length-take)
after_short o ws (trial place w n kept) h = grind (arith, nat_tests, length-set)
after_short o ws (trial place w n dropped) h = h
after_short o ws (trial place w n undecided) h = h
after_short o ws (refused_trial place w) h = h
after_short o ws request h = h

held_append : (o : Over) (ws : List ℕ) (calls rest : List Call) → held_from o ws (calls ++ rest) ≡ held_from o (held_from o ws calls) rest
held_append o ws [] rest = refl
held_append o ws (c ∷ calls) rest = held_append o (after o ws c) calls rest

pub record Led (o : Over) (calls : List Call) (s : State) : Type 0 where
  pub words : s.held ≡ held o calls
  pub number : s.number ≡ o.number
  pub few : length (held o calls) ≤ 40

pub led : {o : Over} {calls : List Call} {s : State} → Leads o calls s → Led o calls s
led start = record { words = refl; number = refl; few = omega arith }
led {o} (next {calls = calls} {s = s} {t = t} {c = c} before step) =
    let so_far = led before in
    let now = step_tells so_far.number step in
    let is = held_append o [] calls (c ∷ []) in
    record {
      words = now.words ∙ ap (λ (ws : List ℕ). after o ws c) so_far.words ∙ sym is;
      number = now.number ∙ so_far.number;
      few = subst (λ (ws : List ℕ). length ws ≤ 40) (sym is) (after_short o (held o calls) c so_far.few);
    }
