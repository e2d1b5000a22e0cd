-- The search for a part of more than 16 bytes: it counts the letters up to where it stands, 17 at most.
use Rattle.std.proofs.Common.{◌≡◌, ℕ, ◌+◌, ◌-◌, ◌≤◌, min, Bool, true, false, cond, leb, ltb, List, [], ◌∷◌, length, Some, None, Option, refl, ap, ◌∙◌, zero-add, arith, nat_lt}
use native.Mathlib.Nat.{sub-zero}
use Rattle.std.specs.List.{prefix_len, position_from, position_or_len, scan}
use Rattle.std.specs.Option.{option_map}
use Rattle.std.proofs.lemmas.Iterator.Adapters.{position_from-zero}
use Rattle.std.proofs.lemmas.Bool.Decides.{nat_tests}
use Rattle.lines.specs.Bytes.{letter, long_part}

-- how many letters in a row end with b
abbrev pub counted : ℕ → ℕ → ℕ
counted run b = cond (letter b) (min run 16 + 1) 0

abbrev pub past : ℕ → Bool
past run = nat_lt 16 run

-- what is found after `run` letters before the place i
abbrev resumed : ℕ → ℕ → List ℕ → Option ℕ
resumed run i bs = cond (leb 17 (run + prefix_len letter bs)) (Some (i - run)) (long_part i bs)

twice : {X : Type 0} (t : Bool) (x y : X) → cond t x (cond t x y) ≡ cond t x y
twice true x y = refl
twice false x y = refl

begins : (i : ℕ) (bs : List ℕ) → resumed 0 i bs ≡ long_part i bs
begins i [] = refl
begins i (b ∷ bs) = simp (zero-add, sub-zero) (twice (leb 17 (prefix_len letter (b ∷ bs))) (Some i) (long_part (i + 1) bs))

-- one byte more, a letter or not
on : (t : Bool) (run i n : ℕ) (rest : Option ℕ) (onward : ℕ → Option ℕ) → run ≤ 16 → run ≤ i
    → (cond (leb 17 n) (Some (i + 1)) rest ≡ rest)
    → ((m : ℕ) → m ≤ 16 → m ≤ i + 1 → onward m ≡ option_map (λ k. k + 16) (cond (leb 17 (m + n)) (Some (i + 1 - m)) rest))
    → cond (past (cond t (min run 16 + 1) 0)) (Some i) (onward (cond t (min run 16 + 1) 0)) ≡ option_map (λ k. k + 16) (cond (leb 17 (run + cond t (1 + n) 0)) (Some (i - run)) (cond (leb 17 (cond t (1 + n) 0)) (Some i) rest))
on true run i n rest onward h k e f = let g = f (run + 1) in grind (arith, nat_tests)
on false run i n rest onward h k e f = let g = f 0 in grind (arith, nat_tests)

found : (run i : ℕ) (bs : List ℕ) → run ≤ 16 → run ≤ i → position_from past i (scan counted counted run bs) ≡ option_map (λ k. k + 16) (resumed run i bs)
found run i [] h k = grind (arith, nat_tests)
found run i (b ∷ bs) h k =
    on (letter b) run i (prefix_len letter bs) (long_part (i + 1) bs) (λ m. position_from past (i + 1) (scan counted counted m bs)) h k
    (simp (zero-add, sub-zero) at (begins (i + 1) bs)) (λ m p q. found m (i + 1) bs p q)

-- the place of the first count past 16 is 16 behind that of the part
pub counts : (line : List ℕ) → cond (ltb (position_or_len past (scan counted counted 0 line)) (length (scan counted counted 0 line))) (Some (position_or_len past (scan counted counted 0 line))) None ≡ option_map (λ k. k + 16) (long_part 0 line)
counts line = position_from-zero past (scan counted counted 0 line) ∙ found 0 0 line (omega arith) (omega arith) ∙ ap (option_map (λ k. k + 16)) (begins 0 line)

pub behind : (o : Option ℕ) (n : ℕ) → Some n ≡ option_map (λ k. k + 16) o → (16 ≤ n) × (Some (n - 16) ≡ o)
behind None n e = absurd (grind arith)
behind (Some k) n e = (grind arith, grind arith)

pub nowhere : (o : Option ℕ) → None ≡ option_map (λ k. k + 16) o → None ≡ o
nowhere None e = refl
nowhere (Some k) e = absurd (grind arith)
