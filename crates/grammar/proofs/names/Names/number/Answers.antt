use Rattle.std.proofs.Common.{◌≡◌, ◌+◌, Bool, cond, not, List, length, map, Some, None, ltb, vec_items, bytes_eq, refl, sym, ap, ◌∙◌, rules, tests, position}
use Rattle.std.specs.List.{position_or_len}
use Rattle.std.proofs.lemmas.List.{length-map}
use Rattle.std.proofs.lemmas.List.Recursion.{same_from_clauses}
use Rattle.std.proofs.lemmas.Iterator.{YieldsList-from_slice}
use Rattle.std.proofs.lemmas.Iterator.Search.{position_from_yields_List}
use Rattle.grammar.proofs.names.Names.number.Goals as goal

position-map : {X Y : Type 0} (p : Y → Bool) (f : X → Y) (xs : List X) → position p (map f xs) ≡ position (λ x. p (f x)) xs
position-map p f xs =
    let at = same_from_clauses (λ ys. position_or_len p (map f ys)) (position_or_len (λ x. p (f x))) (λ x k. cond (not (p (f x))) (1 + k) 0) refl (λ _ _. refl) (λ _ _. refl) xs in
    let long = length-map xs f in
    ap (λ n. cond (ltb (position_or_len p (map f xs)) n) (Some (position_or_len p (map f xs))) None) long ∙ ap (λ k. cond (ltb k (length xs)) (Some k) None) at

pub returns : goal.returns
returns c =
    let name = c.args.name.now in
    let held = vec_items c.args.self.now.spellings in
    let found = position_from_yields_List (λ v. bytes_eq (vec_items v) name) _ _ c.position.result c.position.ensures.ran (YieldsList-from_slice held (c.iter.ensures.rest ∙ c.deref.ensures.value)) (λ x b q k. search (rules, tests)) in
    found ∙ sym (position-map (λ other. bytes_eq other name) vec_items held)
