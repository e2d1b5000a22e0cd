-- The first place where something stands, and the longest front of a list that passes a test.
use Rattle.std.proofs.Common.{◌≡◌, ℕ, zero, suc, ◌+◌, ◌-◌, ◌<◌, ◌≤◌, min, Bool, true, false, not, ltb, leb, List, [], ◌∷◌, length, get_or, drop, Some, None, Option, sym, refl, ap, ◌∙◌, subst, inl, inr, ⊎_elim, arith, length-drop, MatchOption}
use native.Mathlib.Nat.{sub-zero}
use Rattle.std.specs.List.{prefix_len, position_or_len}
use Rattle.std.proofs.lemmas.List.{get_or-drop, get_or_past}
use Rattle.std.proofs.lemmas.List.Sums.{prefix_len-le-length, prefix_len_passes, prefix_len_stops, passes_at_first, fails_before_first}
use Rattle.std.proofs.lemmas.Bool.{both_ways, not-true, not-false, cases_lt, cases_order, cond_both, leb-true, leb-false, ltb-true, ltb-false}
use Rattle.lines.specs.Bytes.{own, letter, foreign_at, long_part, long_line, earlier, too_long_at}
use Rattle.lines.specs.Causes.{First, Nowhere, ForeignAt, RowAt, LongAt}

-- an option that says where P stands first, or that it stands nowhere
abbrev pub Finds : (ℕ → Type 0) → Option ℕ → Type 0
Finds P o = MatchOption o (Nowhere P) (First P)

one_first : (P : ℕ → Type 0) (j k : ℕ) → First P j → First P k → j ≡ k
one_first P j k p q =
    ⊎_elim (λ e. e)
    (λ h. ⊎_elim (λ l. absurd (q.earlier j l p.here)) (λ l. absurd (p.earlier k l q.here)) h)
    (cases_order j k)

pub finds_as : (P Q : ℕ → Type 0) → ((k : ℕ) → P k → Q k) → ((k : ℕ) → Q k → P k) → (o : Option ℕ) → Finds P o → Finds Q o
finds_as P Q to from None h = λ k q. h k (from k q)
finds_as P Q to from (Some k) h = record { here = to k h.here; earlier = λ j l q. h.earlier j l (from j q) }

-- what an option finds is what stands
pub finds_some : (P : ℕ → Type 0) (o : Option ℕ) (k : ℕ) → Finds P o → First P k → o ≡ Some k
finds_some P None k h p = absurd (h k p.here)
finds_some P (Some j) k h p = ap Some (one_first P j k h p)

pub finds_none : (P : ℕ → Type 0) (o : Option ℕ) → Finds P o → Nowhere P → o ≡ None
finds_none P None h p = refl
finds_none P (Some j) h p = absurd (p j h.here)

module _ (p : ℕ → Bool) where
  leading_at_least : (xs : List ℕ) (m : ℕ) → p 0 ≡ false → ((j : ℕ) → j < m → p (get_or xs j 0) ≡ true) → m ≤ prefix_len p xs
  leading_at_least xs m z all =
      ⊎_elim
      (λ h. absurd (⊎_elim
      (λ k. both_ways _ (prefix_len_stops p xs 0 k) (all (prefix_len p xs) h))
      (λ k. both_ways _ (ap p (get_or_past xs (prefix_len p xs) 0 k) ∙ z) (all (prefix_len p xs) h))
      (cases_lt (prefix_len p xs) (length xs))))
      (λ h. h)
      (cases_lt (prefix_len p xs) m)

pub finds_foreign : (line : List ℕ) → Finds (ForeignAt line) (foreign_at line)
finds_foreign line =
    let p : ℕ → Bool = λ b. not (own b) in
    let n = position_or_len p line in
    cond_both (ltb n (length line)) (Some n) None (Finds (ForeignAt line))
    (λ e. record {
      here = record { inside = ltb-true n (length line) e; foreign = not-true _ (passes_at_first p line 0 (ltb-true n (length line) e)) };
      earlier = λ j h f. both_ways _ f.foreign (not-false _ (fails_before_first p line j 0 h));
    })
    (λ e k f. both_ways _ f.foreign (not-false _ (fails_before_first p line k 0 (omega (arith, ltb-false n (length line) e, f.inside)))))

-- 17 letters or more stand in front of what is left from k on
abbrev LongFrom : List ℕ → ℕ → Type 0
LongFrom bs k = 17 ≤ prefix_len letter (drop k bs)

row_long : (line : List ℕ) (k : ℕ) → RowAt line k → LongFrom line k
row_long line k r = leading_at_least letter (drop k line) 17 refl (λ j h. ap letter (get_or-drop k line j 0) ∙ r j h)

long_row : (line : List ℕ) (k : ℕ) → LongFrom line k → RowAt line k
long_row line k h j l = ap letter (sym (get_or-drop k line j 0)) ∙ prefix_len_passes letter (drop k line) j 0 (omega arith)

-- the same of places counted from i
abbrev pub FindsFrom : ℕ → (ℕ → Type 0) → Option ℕ → Type 0
FindsFrom i P o = MatchOption o (Nowhere P) (λ k. (i ≤ k) × First P (k - i))

pub from_zero : (P : ℕ → Type 0) (o : Option ℕ) → FindsFrom 0 P o → Finds P o
from_zero P None h = h
from_zero P (Some k) h = subst (First P) (sub-zero k) h.1

pub found : (i n : ℕ) (P : ℕ → Type 0) → i ≡ n → P 0 → (i ≤ n) × First P (n - i)
found i n P e h =
    let z : n - i ≡ 0 = omega arith in
    (omega arith, subst (First P) (sym z) (record { here = h; earlier = λ j l _. absurd (omega arith) }))

-- what stands nowhere at the first place, and from the second on where P stands
pub later : (i : ℕ) (P Q : ℕ → Type 0) → (Q 0 → ⊥) → ((k : ℕ) → P k → Q (suc k)) → ((k : ℕ) → Q (suc k) → P k) → (o : Option ℕ) → FindsFrom (i + 1) P o → FindsFrom i Q o
later i P Q none to from None h = λ k q. elim k as (λ m. Q m → ⊥) [ zero ↦ none | suc m ↦ λ r. h m (from m r) ] q
later i P Q none to from (Some k) h =
    let s : k - i ≡ suc (k - (i + 1)) = omega (arith, h.0) in (
      omega (arith, h.0),
      subst (First Q) (sym s) (record {
        here = to _ h.1.here;
        earlier = λ j l q. elim j as (λ m. m < suc (k - (i + 1)) → Q m → ⊥) [ zero ↦ λ _. none | suc m ↦ λ l r. h.1.earlier m (omega arith) (from m r) ] l q;
      }),
    )

finds_row : (i : ℕ) (bs : List ℕ) → FindsFrom i (LongFrom bs) (long_part i bs)
finds_row i [] = λ k h. omega (arith, prefix_len-le-length letter (drop {A = ℕ} k []), length-drop {A = ℕ} k [])
finds_row i (b ∷ bs) =
    cond_both (leb 17 (prefix_len letter (b ∷ bs))) (Some i) (long_part (i + 1) bs) (FindsFrom i (LongFrom (b ∷ bs)))
    (λ e. found i i (LongFrom (b ∷ bs)) refl (leb-true 17 (prefix_len letter (b ∷ bs)) e))
    (λ e. later i (LongFrom bs) (LongFrom (b ∷ bs)) (λ h. omega (arith, leb-false 17 (prefix_len letter (b ∷ bs)) e)) (λ k h. h) (λ k h. h) (long_part (i + 1) bs) (finds_row (i + 1) bs))

-- a row of letters first, or the end of the longest line
both : (line : List ℕ) (o : Option ℕ) → Finds (LongFrom line) o → Finds (LongAt line) (earlier o (long_line line))
both line None h =
    cond_both (ltb 1024 (length line)) (Some 1024) None (λ q. Finds (LongAt line) (earlier None q))
    (λ e. record { here = inr (refl, ltb-true 1024 (length line) e); earlier = λ j l x. ⊎_elim (λ r. h j (row_long line j r)) (λ q. omega (arith, q.0)) x })
    (λ e k x. ⊎_elim (λ r. h k (row_long line k r)) (λ q. omega (arith, q.1, ltb-false 1024 (length line) e)) x)
both line (Some m) h =
    cond_both (ltb 1024 (length line)) (Some 1024) None (λ q. Finds (LongAt line) (earlier (Some m) q))
    (λ e. record {
      here = ⊎_elim
          (λ l. let q : min m 1024 ≡ 1024 = omega arith in inr (q, ltb-true 1024 (length line) e))
          (λ l. let q : min m 1024 ≡ m = omega arith in inl (subst (RowAt line) (sym q) (long_row line m h.here)))
          (cases_lt 1024 m);
      earlier = λ j l x. ⊎_elim (λ r. h.earlier j (omega arith) (row_long line j r)) (λ q. omega (arith, q.0)) x;
    })
    (λ e. record {
      here = inl (long_row line m h.here);
      earlier = λ j l x. ⊎_elim (λ r. h.earlier j l (row_long line j r)) (λ q. omega (arith, q.1, ltb-false 1024 (length line) e)) x;
    })

pub finds_long : (line : List ℕ) → Finds (LongAt line) (too_long_at line)
finds_long line = both line (long_part 0 line) (from_zero (LongFrom line) (long_part 0 line) (finds_row 0 line))
