-- The bracket that does not pair, found among the tokens, is the first that does not pair among the bytes.
use Rattle.std.proofs.Common.{◌≡◌, ℕ, suc, ◌+◌, ◌-◌, ◌<◌, true, false, cond, ◌&&◌, eqb, leb, ◌⊎◌, List, [], ◌∷◌, length, take, Some, None, Ok, Err, Option, sym, refl, subst, inl, inr, ⊎_elim, zero-add, add-one, arith}
use Rattle.std.proofs.lemmas.List.Sums.{sum_by-cons}
use Rattle.std.proofs.lemmas.Bool.{cond-true, cond-false, cond_both, eqb-true, eqb-false, ne_eqb}
use Rattle.lines.specs.declared.bytes.Class.{Class}
use Rattle.lines.specs.declared.bytes.Class.TheVariants.{Open, Close, Blank, LineEnd, Letter, Foreign}
use Rattle.lines.specs.declared.reader.Token.{Token}
use Rattle.lines.specs.declared.reader.Token.TheVariants.{Opening, Closing, Part}
use Rattle.lines.specs.Run.{run, on_ok}
use Rattle.lines.specs.Tokens.{part_at, joined, before, tokens_from}
use Rattle.lines.specs.Shape.{deeper, still_open, unpaired_at}
use Rattle.lines.specs.Causes.{opened, closed, UnpairedAt}
use Rattle.lines.proofs.Firsts.{Finds, FindsFrom, finds_as, from_zero, found, later}

-- `UnpairedAt` in bytes before which d brackets are open
abbrev Off : ℕ → List ℕ → ℕ → Type 0
Off d bs k = (d + opened (take (suc k) bs) < closed (take (suc k) bs)) ⊎ ((k ≡ length bs) × (closed bs < d + opened bs))

abbrev one : ℕ → ℕ → ℕ
one a b = cond (eqb b a) 1 0

opened_cons : (b : ℕ) (bs : List ℕ) → opened (b ∷ bs) ≡ one 40 b + opened bs
opened_cons b bs = sum_by-cons (one 40) b bs

closed_cons : (b : ℕ) (bs : List ℕ) → closed (b ∷ bs) ≡ one 41 b + closed bs
closed_cons b bs = sum_by-cons (one 41) b bs

-- from the bytes after b to those from b on, where d brackets are open before b and e after it
module _ (d e b : ℕ) (bs : List ℕ) (same : e + one 41 b ≡ d + one 40 b) where
  down : (k : ℕ) → Off e bs k → Off d (b ∷ bs) (suc k)
  down k x = ⊎_elim
      (λ h. inl (omega (arith, opened_cons b (take (suc k) bs), closed_cons b (take (suc k) bs))))
      (λ h. inr (omega (arith, h.0), omega (arith, h.1, opened_cons b bs, closed_cons b bs)))
      x

  up : (k : ℕ) → Off d (b ∷ bs) (suc k) → Off e bs k
  up k x = ⊎_elim
      (λ h. inl (omega (arith, opened_cons b (take (suc k) bs), closed_cons b (take (suc k) bs))))
      (λ h. inr (omega (arith, h.0), omega (arith, h.1, opened_cons b bs, closed_cons b bs)))
      x

  none : Off d (b ∷ bs) 0 → ⊥
  none x = ⊎_elim
      (λ h. omega (arith, opened_cons b [], closed_cons b []))
      (λ h. omega (arith, h.0))
      x

  on : (i : ℕ) (o : Option ℕ) → FindsFrom (i + 1) (Off e bs) o → FindsFrom i (Off d (b ∷ bs)) o
  on i o h = later i (Off e bs) (Off d (b ∷ bs)) none down up o h

joined_runs : (d s e : ℕ) (ts : List Token) → run deeper d (joined s e ts) ≡ run deeper d ts
joined_runs d s e [] = refl
joined_runs d s e (Opening at ∷ ts) = refl
joined_runs d s e (Closing at ∷ ts) = refl
joined_runs d s e (Part p ∷ ts) =
    elim (eqb p.start e) as (λ t. run deeper d (cond t (part_at s p.end ∷ ts) (part_at s e ∷ Part p ∷ ts)) ≡ run deeper d ts) [ true ↦ refl | false ↦ refl ]

finds_off : (n d i : ℕ) (bs : List ℕ) → i + length bs ≡ n → FindsFrom i (Off d bs) (still_open n (run deeper d (tokens_from i bs)))
finds_off n d i [] e =
    cond_both (eqb d 0) None (Some n) (FindsFrom i (Off d []))
    (λ z k x. ⊎_elim (λ h. omega arith) (λ h. omega (arith, h.1, eqb-true d 0 z)) x)
    (λ z. let some = eqb-false d 0 z in found i n (Off d []) (omega arith) (inr (refl, omega arith)))
finds_off n d i (b ∷ bs) e =
    let ts = tokens_from (i + 1) bs in
    let P : Class → Type 0 = λ x. FindsFrom i (Off d (b ∷ bs)) (still_open n (run deeper d (before i x ts))) in
    let rec : (m : ℕ) → FindsFrom (i + 1) (Off m bs) (still_open n (run deeper m ts)) = λ m. finds_off n m (i + 1) bs (omega arith) in
    cond_both (eqb b 40) Open _ P
    (λ h. on d (d + 1) b bs (omega (arith, cond-true {A = ℕ} _ 1 0 h, cond-false {A = ℕ} _ 1 0 (ne_eqb b 41 (λ q. omega (arith, eqb-true b 40 h))))) i _ (rec (d + 1)))
    (λ n40. cond_both (eqb b 41) Close _ P
    (λ h. cond_both (eqb d 0) (Err i) (Ok (d - 1)) (λ r. FindsFrom i (Off d (b ∷ bs)) (still_open n (on_ok r (λ t. run deeper t ts))))
    (λ z. found i i (Off d (b ∷ bs)) refl (inl (omega (arith, cond-false {A = ℕ} _ 1 0 n40, cond-true {A = ℕ} _ 1 0 h, eqb-true d 0 z, opened_cons b [], closed_cons b []))))
    (λ z. on d (d - 1) b bs (omega (arith, cond-false {A = ℕ} _ 1 0 n40, cond-true {A = ℕ} _ 1 0 h, eqb-false d 0 z)) i _ (rec (d - 1))))
    (λ n41. let plain : FindsFrom i (Off d (b ∷ bs)) (still_open n (run deeper d ts)) = on d d b bs (omega (arith, cond-false {A = ℕ} _ 1 0 n40, cond-false {A = ℕ} _ 1 0 n41)) i _ (rec d) in
    cond_both (eqb b 32) Blank _ P (λ _. plain) (λ _. cond_both (eqb b 10) LineEnd _ P (λ _. plain) (λ _. cond_both (leb 33 b && leb b 126) Letter Foreign P
    (λ _. subst (λ r. FindsFrom i (Off d (b ∷ bs)) (still_open n r)) (sym (joined_runs d i (i + 1) ts)) plain) (λ _. plain)))))

pub finds_unpaired : (line : List ℕ) → Finds (UnpairedAt line) (unpaired_at (length line) (tokens_from 0 line))
finds_unpaired line =
    finds_as (Off 0 line) (UnpairedAt line)
    (λ k x. ⊎_elim (λ h. inl (subst (λ m. opened (take m line) < closed (take m line)) (sym (add-one k)) (omega (arith, h)))) (λ h. inr (h.0, omega (arith, h.1))) x)
    (λ k x. ⊎_elim (λ h. inl (let g : opened (take (suc k) line) < closed (take (suc k) line) = subst (λ m. opened (take m line) < closed (take m line)) (add-one k) h in omega (arith, g))) (λ h. inr (h.0, omega (arith, h.1))) x)
    _ (from_zero (Off 0 line) _ (finds_off (length line) 0 0 line (zero-add (length line))))
