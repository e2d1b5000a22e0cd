-- The promise of the cheapest tree, from what a request answers and leaves.
use Rattle.std.proofs.Common.{◌≡◌, ℕ, ◌+◌, ◌-◌, ◌*◌, ◌/◌, ◌≤◌, Bool, true, false, cond, ◌&&◌, eqb, leb, List, length, is_some, Some, None, Ok, Err, Option, Result, refl, ap, ◌∙◌, subst, inl, inr, arith}
use Rattle.std.proofs.lemmas.Bool.{and_parts, and_from, le-leb, leb-true, ne_eqb, eq-eqb}
use Rattle.refusals.specs.declared.Refusal.{Refusal}
use Rattle.refusals.specs.declared.Refusal.TheVariants.{OtherGrammar, NoWords, WrongLadder, TooSmall, NoDerivation}
use Rattle.derivation.specs.Scale.{Scale, Lawful}
use Rattle.derivation.specs.Bounds.{Entries, Bounds}
use Rattle.derivation.specs.Ladder.{Rising, Succeeds}
use Rattle.derivation.proofs.Laws.{not_both}
use Rattle.derivation.proofs.Ladder.{settles}
use Rattle.derivation.proofs.Table.{all_pass}
use Rattle.derivation.proofs.Reading.{some_same}
use Rattle.search.specs.declared.best.Tree.{Tree}
use Rattle.search.proofs.Rounds.{kept_in}
use Rattle.session.specs.declared.sizes.Sizes.{Sizes}
use Rattle.session.specs.State.{Over}
use Rattle.session.specs.Calls.{fits}
use Rattle.session.specs.Runs.{Call, held, Leads}
use Rattle.session.specs.Request.{rises, enough, declined, Memory, Given, Underivable, Asked}
use Rattle.session.specs.Cheapest.{Whole, Handed, Able, Cheapest}
use Rattle.session.proofs.Runs.{led}
use Rattle.session.proofs.Ladders.{rises_tells, rising_rises}

-- a request that is not declined passed each test
not_declined : (a b c d : Bool) → ◌≡◌ {A = Option Refusal} (cond a (cond b (Some NoWords) (cond c (cond d None (Some TooSmall)) (Some WrongLadder))) (Some OtherGrammar)) None → (c ≡ true) × (d ≡ true)
not_declined true true c d is = let f : ◌≡◌ {A = ℕ} 0 1 = ap (λ (o : Option Refusal). cond (is_some o) 0 1) is in absurd (omega arith)
not_declined true false true true is = (refl, refl)
not_declined true false true false is = let f : ◌≡◌ {A = ℕ} 0 1 = ap (λ (o : Option Refusal). cond (is_some o) 0 1) is in absurd (omega arith)
not_declined true false false d is = let f : ◌≡◌ {A = ℕ} 0 1 = ap (λ (o : Option Refusal). cond (is_some o) 0 1) is in absurd (omega arith)
not_declined false b c d is = let f : ◌≡◌ {A = ℕ} 0 1 = ap (λ (o : Option Refusal). cond (is_some o) 0 1) is in absurd (omega arith)

-- and none is declined as underivable
never_19 : (a b c d : Bool) → ◌≡◌ {A = Option Refusal} (cond a (cond b (Some NoWords) (cond c (cond d None (Some TooSmall)) (Some WrongLadder))) (Some OtherGrammar)) (Some NoDerivation) → ⊥
never_19 true true c d is = let f : ◌≡◌ {A = ℕ} 0 1 = cc in omega arith
never_19 true false true true is = let f : ◌≡◌ {A = ℕ} 0 1 = cc in omega arith
never_19 true false true false is = let f : ◌≡◌ {A = ℕ} 0 1 = cc in omega arith
never_19 true false false d is = let f : ◌≡◌ {A = ℕ} 0 1 = cc in omega arith
never_19 false b c d is = let f : ◌≡◌ {A = ℕ} 0 1 = cc in omega arith

module _ {Cost : Type 0} {s : Scale Cost} (lawful : Lawful s) (o : Over) (entry : Entries Cost) (ladder : List Cost) (before after : Memory Cost) (z : Sizes) where
  module _ (bounds : Bounds s o.grammar z.span entry) (free : declined s o before.session ladder z ≡ None) where
    passed_tests : (leb (length ladder) 16 && rises s ladder ≡ true) × (enough (length before.session.held) o.grammar.categories z ≡ true)
    passed_tests = not_declined (fits o before.session) (eqb (length before.session.held) 0) (leb (length ladder) 16 && rises s ladder) (enough (length before.session.held) o.grammar.categories z) free

    rising : Rising s ladder
    rising = rises_tells s ladder (and_parts (leb (length ladder) 16) (rises s ladder) passed_tests.0).1

    short : length before.session.held ≤ z.span
    short =
        let n = length before.session.held in
        let g = o.grammar.categories in
        let one = and_parts (leb n z.room && leb n z.span) (leb (n * (n + 1) / 2 * g) z.costs && leb ((2 * n - 1) * g) z.nodes) passed_tests.1 in
        leb-true n z.span (and_parts (leb n z.room) (leb n z.span) one.0).1

    -- a tree that is found is a cheapest one
    pub handed : {tree : Tree Cost} → Given s o entry ladder before after tree → Handed s o.grammar entry ladder before.session.held after.nodes tree
    handed {tree} given =
        let found = given.found in
        let topped = found.topped in
        let kept = kept_in topped.keeps.round found.costs in
        let success : Succeeds s o.grammar entry ladder before.session.held tree.rung tree.cost = record { within = topped.within; before = topped.failed; kept = kept } in
        let told = settles lawful bounds short success in
        record {
          derivation = found.extracted.tree;
          written = found.extracted.nodes;
          costs = some_same found.extracted.costs found.costs;
          once = found.extracted.straight;
          cheapest = told.cheapest;
          rung = told.rung rising;
          kept = topped.keeps.count;
        }

  -- without a derivation nothing is found, and only then
  pub underivable : Underivable s o entry ladder before after → Whole o.grammar before.session.held → ⊥
  underivable u d =
      let ws = before.session.held in
      let lacks = u.nothing.lacks in
      not_both (lacks.round.passing o.grammar.top 1 (length ws) d (all_pass s entry (length ws) d)) lacks.lacking

  -- where nothing is in the way the request is not declined
  pub able_free : before.session.number ≡ o.number → Able s o.grammar ladder before.session.held z → declined s o before.session ladder z ≡ None
  able_free is able =
      let n = length before.session.held in
      let g = o.grammar.categories in
      let fit : fits o before.session ≡ true = eq-eqb before.session.number o.number is in
      let some : eqb n 0 ≡ false = ne_eqb n 0 (let one = able.some in omega arith) in
      let rise : leb (length ladder) 16 && rises s ladder ≡ true = and_from _ _ (le-leb (length ladder) 16 able.few) (rising_rises s ladder able.rising) in
      let sizes : enough n g z ≡ true = and_from _ _ (and_from _ _ (le-leb n z.room able.room) (le-leb n z.span able.span)) (and_from _ _ (le-leb (n * (n + 1) / 2 * g) z.costs able.costs) (le-leb ((2 * n - 1) * g) z.nodes able.nodes)) in
      ap (λ (a : Bool). cond a (cond (eqb n 0) (Some NoWords) (cond (leb (length ladder) 16 && rises s ladder) (cond (enough n g z) None (Some TooSmall)) (Some WrongLadder))) (Some OtherGrammar)) fit
      ∙ ap (λ (b : Bool). cond b (Some NoWords) (cond (leb (length ladder) 16 && rises s ladder) (cond (enough n g z) None (Some TooSmall)) (Some WrongLadder))) some
      ∙ ap (λ (c : Bool). cond c (cond (enough n g z) None (Some TooSmall)) (Some WrongLadder)) rise
      ∙ ap (λ (d : Bool). cond d None (Some TooSmall)) sizes

  module _ (bounds : Bounds s o.grammar z.span entry) (same : before.session.number ≡ o.number) where
    -- declined: no tree, and not as underivable
    cheapest_declined : (r : Refusal) (answer : Result (Tree Cost) Refusal) → declined s o before.session ladder z ≡ Some r → answer ≡ Err r → Cheapest s o.grammar entry ladder before.session.held z after.nodes answer
    cheapest_declined r answer is told = record {
      tree = λ t given. absurd (let f : ◌≡◌ {A = ℕ} 0 1 = cc in omega arith);
      none = λ none_told _. never_19 (fits o before.session) (eqb (length before.session.held) 0) (leb (length ladder) 16 && rises s ladder) (enough (length before.session.held) o.grammar.categories z) (is ∙ ap Some (let q : r ≡ NoDerivation = cc in q));
      sure = λ able. let free = able_free same able in absurd (let f : ◌≡◌ {A = ℕ} 0 1 = cc in omega arith);
    }

    cheapest_searched : (answer : Result (Tree Cost) Refusal) → declined s o before.session ladder z ≡ None → Asked s o entry ladder before after None answer → Cheapest s o.grammar entry ladder before.session.held z after.nodes answer
    cheapest_searched (Ok t) free asked = record {
      tree = λ u is. subst (λ (x : Tree Cost). Handed s o.grammar entry ladder before.session.held after.nodes x) (let q : t ≡ u = cc in q) (handed bounds free asked);
      none = λ is _. absurd (let f : ◌≡◌ {A = ℕ} 0 1 = cc in omega arith);
      sure = λ able. inl (t, refl);
    }
    cheapest_searched (Err r) free asked = record {
      tree = λ t is. absurd (let f : ◌≡◌ {A = ℕ} 0 1 = cc in omega arith);
      none = λ is d. underivable asked.1 d;
      sure = λ able. inr (ap Err asked.0);
    }

    cheapest_asked : (d : Option Refusal) (answer : Result (Tree Cost) Refusal) → declined s o before.session ladder z ≡ d → Asked s o entry ladder before after d answer → Cheapest s o.grammar entry ladder before.session.held z after.nodes answer
    cheapest_asked None answer is asked = cheapest_searched answer is asked
    cheapest_asked (Some r) answer is asked = cheapest_declined r answer is asked.0

  -- the promise, of the words that a list of calls leaves
  pub promised : (calls : List Call) (answer : Result (Tree Cost) Refusal) → Bounds s o.grammar z.span entry → Leads o calls before.session → Asked s o entry ladder before after (declined s o before.session ladder z) answer
      → Cheapest s o.grammar entry ladder (held o calls) z after.nodes answer
  promised calls answer bounds leads asked =
      let l = led leads in
      subst (λ (ws : List ℕ). Cheapest s o.grammar entry ladder ws z after.nodes answer) l.words (cheapest_asked bounds l.number (declined s o before.session ladder z) answer refl asked)
