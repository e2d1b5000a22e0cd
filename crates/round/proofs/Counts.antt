-- Counting what is held.
use Rattle.std.proofs.Common.{◌≡◌, ℕ, zero, suc, ◌+◌, ◌-◌, ◌*◌, ◌<◌, ◌≤◌, Bool, true, false, cond, [], ◌∷◌, length, map, filter, refl, ap, ◌∙◌, ap₂, add-one, zero-add, length-append, arith}
use Rattle.std.specs.List.{range_with_len}
use Rattle.std.proofs.lemmas.List.FromFn.{filter_of_map_range_with_len_more}
use Rattle.chart.specs.Meaning.{Holds}
use Rattle.round.specs.Counting.{tally, ending, number}

one_most : (b : Bool) → cond b 1 0 ≤ 1
one_most true = omega arith
one_most false = omega arith

pub tally_most : (h : Holds) (b e j : ℕ) → tally h b e j ≤ j
tally_most h b e zero = omega arith
tally_most h b e (suc j) = omega (arith, tally_most h b e j, one_most (h b e j))

pub ending_most : (h : Holds) (kinds e k : ℕ) → kinds ≤ 64 → ending h kinds e k ≤ k * 64
ending_most h kinds e zero few = omega arith
ending_most h kinds e (suc k) few = omega (arith, ending_most h kinds e k few, tally_most h (e - k) e kinds)

pub number_most : (h : Holds) (kinds e : ℕ) → kinds ≤ 64 → e ≤ 40 → number h kinds e ≤ e * 2560
number_most h kinds zero few short = omega arith
number_most h kinds (suc e) few short = omega (arith, number_most h kinds e few (omega arith), ending_most h kinds (suc e) (suc e) few)

pub ending_more : (h : Holds) (kinds e k : ℕ) → ending h kinds e (k + 1) ≡ ending h kinds e k + tally h (e - k) e kinds
ending_more h kinds e k = rw add-one refl

pub number_more : (h : Holds) (kinds e : ℕ) → number h kinds (e + 1) ≡ number h kinds e + ending h kinds (e + 1) (e + 1)
number_more h kinds e = rw add-one refl

pub tally_same : (h h' : Holds) (b e j : ℕ) → ((A : ℕ) → h' b e A ≡ h b e A) → tally h' b e j ≡ tally h b e j
tally_same h h' b e zero same = refl
tally_same h h' b e (suc j) same = ap₂ (λ (m n : ℕ). m + n) (tally_same h h' b e j same) (ap (λ t. cond t 1 0) (same j))

pub ending_same : (h h' : Holds) (kinds e k : ℕ) → ((x A : ℕ) → e < x + k → h' x e A ≡ h x e A) → k ≤ e → ending h' kinds e k ≡ ending h kinds e k
ending_same h h' kinds e zero same l = refl
ending_same h h' kinds e (suc k) same l = ap₂ (λ (m n : ℕ). m + n) (ending_same h h' kinds e k (λ x A p. same x A (omega arith)) (omega arith)) (tally_same h h' (e - k) e kinds (λ A. same (e - k) A (omega arith)))

pub number_same : (h h' : Holds) (kinds e : ℕ) → ((x y A : ℕ) → y ≤ e → h' x y A ≡ h x y A) → number h' kinds e ≡ number h kinds e
number_same h h' kinds zero same = refl
number_same h h' kinds (suc e) same = ap₂ (λ (m n : ℕ). m + n) (number_same h h' kinds e (λ x y A l. same x y A (omega arith))) (ending_same h h' kinds (suc e) (suc e) (λ x A p. same x (suc e) A (omega arith)) (omega arith))

-- a tally is the number of categories that pass the test
pub tally_counts : (h : Holds) (b e n : ℕ) → length (filter (h b e) (map (λ k. k) (range_with_len 0 n))) ≡ tally h b e n
tally_counts h b e zero = refl
tally_counts h b e (suc n) =
    let more = filter_of_map_range_with_len_more (h b e) (λ k. k) 0 n n (zero-add n) in
    let grown : length (filter (h b e) (map (λ k. k) (range_with_len 0 (n + 1)))) ≡ length (filter (h b e) (map (λ k. k) (range_with_len 0 n))) + length (cond (h b e n) (n ∷ []) []) = ap length more ∙ length-append _ _ in
    rw add-one at grown ∙ ap₂ (λ (x y : ℕ). x + y) (tally_counts h b e n) (one_long (h b e n) n)
  where
    one_long : (t : Bool) (n : ℕ) → length (cond t (n ∷ []) []) ≡ cond t 1 0
    one_long true n = refl
    one_long false n = refl
