-- What a request gives that is made with room enough: what is in the way, a cheapest tree, or that there is none.
use Rattle.std.proofs.Common.{◌≡◌, ℕ, ◌+◌, ◌-◌, ◌*◌, ◌/◌, ◌≤◌, Bool, true, cond, ◌&&◌, eqb, leb, List, length, Some, None, Ok, Err, Option, Result, refl, sym, ap, subst, arith}
use Rattle.std.proofs.lemmas.Bool.{and_from, le-leb, eq-eqb}
use Rattle.std.proofs.Math.Nat.{mul-le-mul, mul-le-mul_right}
use Rattle.refusals.specs.declared.Refusal.{Refusal}
use Rattle.refusals.specs.declared.Refusal.TheVariants.{OtherGrammar, NoWords, WrongLadder, TooSmall}
use Rattle.derivation.specs.Scale.{Scale}
use Rattle.bound.specs.Floor.{floor_entry}
use Rattle.tree.specs.declared.node.Node.{Node}
use Rattle.search.specs.declared.best.Tree.{Tree}
use Rattle.session.specs.declared.sizes.Sizes.{Sizes}
use Rattle.derivation.specs.Grammar.{grammar}
use Rattle.grammar.specs.declared.closed.Closed.{Closed}
use Rattle.session.specs.State.{State, over}
use Rattle.session.specs.Calls.{fits}
use Rattle.session.specs.Request as request
use Rattle.session.specs.Runs.{Call, Leads, held}
use Rattle.session.specs.Cheapest.{Cheapest}
use Rattle.session.proofs.Runs.{led}
use Rattle.sentences.specs.Sentence.{Language, language, hindrance}
use Rattle.sentences.specs.Serving.{Asked, Found}

-- room for 20 words over so many categories
pub record Roomy (categories : ℕ) (z : Sizes) : Type 0 where
  pub room : 20 ≤ z.room
  pub span : 20 ≤ z.span
  pub costs : 210 * categories ≤ z.costs
  pub nodes : 39 * categories ≤ z.nodes

-- 20 words have 210 cells
few_cells : (n : ℕ) → n ≤ 20 → n * (n + 1) / 2 ≤ 210
few_cells n few =
    let most : n * (n + 1) ≤ 20 * 21 = let more : n + 1 ≤ 21 = omega arith in mul-le-mul few more in
    omega arith

suffices : (n g : ℕ) (z : Sizes) → n ≤ 20 → Roomy g z → request.enough n g z ≡ true
suffices n g z few r =
    let cells : n * (n + 1) / 2 * g ≤ 210 * g = mul-le-mul_right g (few_cells n few) in
    let nodes : (2 * n - 1) * g ≤ 39 * g = mul-le-mul_right g (omega arith) in
    and_from _ _ (and_from _ _ (le-leb n z.room (omega (arith, r.room))) (le-leb n z.span (omega (arith, r.span)))) (and_from _ _ (le-leb _ z.costs (omega (arith, r.costs))) (le-leb _ z.nodes (omega (arith, r.nodes))))

declined_is : (a b c d : Bool) → a ≡ true → d ≡ true → ◌≡◌ {A = Option Refusal} (cond a (cond b (Some NoWords) (cond c (cond d None (Some TooSmall)) (Some WrongLadder))) (Some OtherGrammar)) (cond b (Some NoWords) (cond c None (Some WrongLadder)))
declined_is a b c d fit enough = rw (fit, enough) refl

module _ {Cost : Type 0} (s : Scale Cost) (g : Closed) (ladder : List Cost) (before after : request.Memory Cost) (z : Sizes) where
  searched : (answer : Result (Tree Cost) Refusal) → request.Searched s (over g) (λ _. floor_entry s) ladder before after answer → Cheapest s (grammar g.rules) (λ _. floor_entry s) ladder before.session.held z after.nodes answer → Asked s (language g) ladder after.session.held after.nodes None before.session.held answer
  searched (Ok tree) given cheapest = (ap (λ (t : State). t.held) given.counts, cheapest.tree tree refl)
  searched (Err r) given cheapest = (given.0, cheapest.none (ap Err given.0))

  by_cause : (d : Option Refusal) (answer : Result (Tree Cost) Refusal) → request.Asked s (over g) (λ _. floor_entry s) ladder before after d answer → Cheapest s (grammar g.rules) (λ _. floor_entry s) ladder before.session.held z after.nodes answer → Asked s (language g) ladder after.session.held after.nodes d before.session.held answer
  by_cause None answer asked cheapest = searched answer asked cheapest
  by_cause (Some r) answer asked cheapest = asked.0

  pub told : (answer : Result (Tree Cost) Refusal) → before.session.number ≡ g.number → length before.session.held ≤ 20 → Roomy g.rules.categories z → (calls : List Call) → Leads (over g) calls before.session → request.Asked s (over g) (λ _. floor_entry s) ladder before after (request.declined s (over g) before.session ladder z) answer → Cheapest s (grammar g.rules) (λ _. floor_entry s) ladder (held (over g) calls) z after.nodes answer → Asked s (language g) ladder after.session.held after.nodes (hindrance s ladder before.session.held) before.session.held answer
  told answer fit few roomy calls leads asked cheapest =
      let n = length before.session.held in
      let is : request.declined s (over g) before.session ladder z ≡ hindrance s ladder before.session.held =
      declined_is (fits (over g) before.session) (eqb n 0) (leb (length ladder) 16 && request.rises s ladder) (request.enough n g.rules.categories z) (eq-eqb before.session.number g.number fit) (suffices n g.rules.categories z few roomy) in
      by_cause (hindrance s ladder before.session.held) answer
      (subst (λ (d : Option Refusal). request.Asked s (over g) (λ _. floor_entry s) ladder before after d answer) is asked)
      (subst (λ (ws : List ℕ). Cheapest s (grammar g.rules) (λ _. floor_entry s) ladder ws z after.nodes answer) (sym (led leads).words) cheapest)

-- the request of a sentence whose words were heard, where grammar, ladder and nodes were lent for it
pub found : {Cost : Type 0} (s : Scale Cost) (l m : Language) (ladder lent : List Cost) (held words : List ℕ) (nodes back : List Node) (due : Result (List ℕ) Refusal) (answer : Result (Tree Cost) Refusal) → due ≡ Ok words → m ≡ l → lent ≡ ladder → back ≡ nodes → Asked s m lent held nodes (hindrance s lent words) words answer → Found s l ladder held back due answer
found s l m ladder lent held words nodes back due answer heard over same is asked = rw (heard, is, ← same, ← over) asked
