-- Reading a number digit by digit, that stops where it grows past 65535, gives what `number_of` says.
use Rattle.std.proofs.Common.{◌≡◌, ℕ, ◌+◌, ◌-◌, ◌*◌, ◌<◌, ◌≤◌, Bool, true, false, cond, ◌&&◌, ltb, List, [], ◌∷◌, ◌++◌, length, get_or, drop, map, Some, None, Option, sym, refl, ap, ◌∙◌, arith}
use denote.Param.Members.{Mut, Called}
use Rattle.std.specs.ControlFlow.{continue_value}
use Rattle.std.specs.Option.{option_and_then}
use Rattle.std.specs.Iterator.{TryFoldTurn, TryFoldsItems}
use Rattle.std.specs.List.{FoldsTo}
use Rattle.std.proofs.lemmas.Iterator.{YieldsList}
use Rattle.std.proofs.lemmas.Iterator.Consumers.{YieldsList-so_far, YieldsList-turn, YieldsList-end}
use Rattle.std.proofs.lemmas.List.{at_drop_more, take-append-drop, append-nil}
use Rattle.std.proofs.lemmas.Bool.{ltb-true, ltb-false, le-ltb, and_right, cond-false, cond_both}
use Rattle.lines.specs.Decimal.{is_digit, all_digits, read_on, pushed, padded, number_of}

abbrev pub onward : ℕ → List ℕ → Option ℕ
onward n [] = Some n
onward n (c ∷ cs) = option_and_then (λ m. onward m cs) (pushed n c)

grows : (n : ℕ) (cs : List ℕ) → n ≤ read_on n cs
grows n [] = omega arith
grows n (c ∷ cs) = omega (arith, grows (n * 10 + (c - 48)) cs)

abbrev Whole : ℕ → List ℕ → Option ℕ
Whole n cs = cond (all_digits cs && ltb (read_on n cs) 65536) (Some (read_on n cs)) None

too_big : (n : ℕ) (cs : List ℕ) → 65536 ≤ n → None ≡ Whole n cs
too_big n cs h =
    let e : ltb (read_on n cs) 65536 ≡ false = le-ltb _ _ (omega (arith, grows n cs)) in
    sym (cond-false _ _ _ (and_right (all_digits cs) _ e))

one : (m : ℕ) (cs : List ℕ) (d : Bool) → (m < 65536 → onward m cs ≡ Whole m cs) → option_and_then (λ k. onward k cs) (cond (d && ltb m 65536) (Some m) None) ≡ cond (d && all_digits cs && ltb (read_on m cs) 65536) (Some (read_on m cs)) None
one m cs false h = refl
one m cs true h =
    cond_both (ltb m 65536) (Some m) None (λ x. option_and_then (λ k. onward k cs) x ≡ Whole m cs) (λ e. h (ltb-true m 65536 e)) (λ e. too_big m cs (ltb-false m 65536 e))

pub onward_is : (n : ℕ) (cs : List ℕ) → n < 65536 → onward n cs ≡ Whole n cs
onward_is n [] h = grind arith
onward_is n (c ∷ cs) h = one (n * 10 + (c - 48)) cs (is_digit c) (onward_is (n * 10 + (c - 48)) cs)

-- what a loop begins with
pub begins : (cs : List ℕ) → padded cs ≡ false → onward 0 cs ≡ number_of cs
begins cs e = onward_is 0 cs (omega arith) ∙ sym (cond-false _ _ _ e)

-- A `try_fold` whose closure reads one more digit, over an iterator that gives the bytes of a part.
module _ {A F : Type 0} (E : Type 0) (v : A → ℕ) (g : Mut F (ℕ × (A × Unit {0})) (Option ℕ)) (calls : (p : F) (n : ℕ) (x : A) (r : Option ℕ) (q : F) → Called g p (n, (x, tt)) r q → r ≡ pushed n (v x)) where
  turned : (ys : List ℕ) (xs : List A) (p q : F) (n m : ℕ) → FoldsTo {P = F × ℕ} (TryFoldTurn {E = E} g (λ r k. r ≡ continue_value k)) (p, n) xs (q, m) → onward n (map v xs ++ ys) ≡ onward m ys
  turned ys [] p q n m h = ap (λ (t : F × ℕ). onward t.1 ys) h
  turned ys (x ∷ xs) p q n m h =
      ap (option_and_then (λ k. onward k (map v xs ++ ys))) (sym (calls p n x h.1.0 h.0.0 h.1.1) ∙ h.1.2) ∙ turned ys xs h.0.0 q h.0.1 m h.2

  pub tried : {S : Type 0} {steps : S → Option A → S → Type 0} {s : S} {cs : List ℕ} (f : F) (n : ℕ) (r : Option ℕ) (u : S) → TryFoldsItems steps {E = E} g (λ r k. r ≡ continue_value k) (λ _ r. r ≡ None) s f n r u → YieldsList steps v s cs → r ≡ onward n cs
  tried f n r u (xs, None, q, m, (t, given, last), folds, ends) all =
      let e = YieldsList-end all xs t given None u refl last in
      ends ∙ sym (turned [] xs f q n m folds) ∙ ap (onward n) (append-nil _ ∙ e.0)
  tried {cs = cs} f n r u (xs, Some x, q, m, (t, given, next), folds, stop) all =
      let e = YieldsList-turn all xs t given (Some x) u x refl next in
      let fails : pushed m (v x) ≡ None = sym (calls q m x stop.0 stop.1 stop.3) ∙ stop.4 in
      let front : map v xs ++ drop (length xs) cs ≡ cs = ap (λ ys. ys ++ drop (length xs) cs) (YieldsList-so_far all xs t given) ∙ take-append-drop (length xs) cs in
      let rest : onward m (drop (length xs) cs) ≡ option_and_then (λ k. onward k (drop (length xs + 1) cs)) (pushed m (get_or cs (length xs) (v x))) = at_drop_more (onward m) cs (length xs) (v x) e.0 in
      stop.5 ∙ ap (option_and_then (λ k. onward k (drop (length xs + 1) cs))) (sym fails ∙ ap (pushed m) e.1) ∙ sym rest ∙ sym (turned (drop (length xs) cs) xs f q n m folds) ∙ ap (onward n) front
