-- The text of a derivation, read back.
use Rattle.std.proofs.Common.{◌≡◌, ℕ, zero, suc, ◌+◌, ◌≤◌, true, false, cond, eqb, List, [], ◌∷◌, ◌++◌, length, Some, None, Option, refl, ap, ◌∙◌, subst, append_assoc, append-nil, arith, length-append}
use Rattle.std.proofs.lemmas.Bool.{and_parts}
use Rattle.std.proofs.lemmas.Bool.Decides.{nat_tests}
use Rattle.derivation.specs.Derivation.{Derivation, word, chain, binary}
use Rattle.derivation.specs.Grammar.{Grammar}
use Rattle.render.specs.Render.{render}
use Rattle.render.specs.Read.{Shape, leaf, one, two, shape, in_name, all_in_name, Name, Spelt, maybe, after, name, parts, read_tree, ReadsBack}

-- a name ends where a byte comes that is of no name
name_front : (c : ℕ) → in_name c ≡ false → (xs ys : List ℕ) → all_in_name xs ≡ true → name (xs ++ (c ∷ ys)) ≡ (xs, c ∷ ys)
name_front c stops [] ys all = ap (λ t. cond t (c ∷ (name ys).0, (name ys).1) ([], c ∷ ys)) stops
name_front c stops (x ∷ xs) ys all =
    let p = and_parts (in_name x) (all_in_name xs) all in
    ap (λ t. cond t (x ∷ (name (xs ++ (c ∷ ys))).0, (name (xs ++ (c ∷ ys))).1) ([], x ∷ (xs ++ (c ∷ ys)))) p.0 ∙ ap (λ r. (x ∷ r.0, r.1)) (name_front c stops xs ys p.1)

no_bracket : (b : ℕ) → in_name b ≡ true → eqb b 40 ≡ false
no_bracket b h = grind (arith, nat_tests)

-- a name begins with no bracket
name_starts : (xs ys : List ℕ) → Name xs → after 40 (xs ++ ys) ≡ None
name_starts [] ys n = absurd (let some = n.some in omega arith)
name_starts (x ∷ xs) ys n = ap (λ t. cond t (Some (xs ++ ys)) None) (no_bracket x (and_parts (in_name x) (all_in_name xs) n.each).0)

opened : (n : ℕ) (c rest : List ℕ) → Name c → read_tree (suc n) (40 ∷ (c ++ (32 ∷ rest))) ≡ parts (read_tree n) c rest
opened n c rest named = ap (λ r. maybe (after 32 r.1) None (parts (read_tree n) r.0)) (name_front 32 refl c rest named.each)

word_part : (tree : List ℕ → Option (Shape × List ℕ)) (c w rest : List ℕ) → Name w → parts tree c (w ++ (41 ∷ rest)) ≡ Some (leaf c w, rest)
word_part tree c w rest named = rw (name_starts w (41 ∷ rest) named, name_front 41 refl w rest named.each)

one_part : (tree : List ℕ → Option (Shape × List ℕ)) (c bs inner rest : List ℕ) (t : Shape) → after 40 bs ≡ Some inner → tree bs ≡ Some (t, 41 ∷ rest) → parts tree c bs ≡ Some (one c t, rest)
one_part tree c bs inner rest t opens is = rw (opens, is)

two_parts : (tree : List ℕ → Option (Shape × List ℕ)) (c bs inner more rest : List ℕ) (t u : Shape) → after 40 bs ≡ Some inner → tree bs ≡ Some (t, 32 ∷ more) → tree more ≡ Some (u, 41 ∷ rest) → parts tree c bs ≡ Some (two c t u, rest)
two_parts tree c bs inner more rest t u opens is is' = rw (opens, is, is')

module _ (title spelling : ℕ → List ℕ) {g : Grammar} {ws : List ℕ} where
  opens : {A b e : ℕ} (d : Derivation g ws A b e) (rest : List ℕ) → (inner : List ℕ) × (after 40 (render title spelling d ++ rest) ≡ Some inner)
  opens (word r at here) rest = (_, refl)
  opens (chain r at d) rest = (_, refl)
  opens (binary r at d f) rest = (_, refl)

  back : (n : ℕ) {A b e : ℕ} (d : Derivation g ws A b e) (rest : List ℕ) → length (render title spelling d) ≤ n → Spelt title spelling d → read_tree n (render title spelling d ++ rest) ≡ Some (shape title spelling d, rest)
  back zero (word r at here) rest low spelt = absurd (omega arith)
  back zero (chain r at d) rest low spelt = absurd (omega arith)
  back zero (binary r at d f) rest low spelt = absurd (omega arith)
  back (suc n) (word {i = i} r at here) rest low spelt =
      let c = title r.category in
      let w = spelling (i + 1) in
      let all : (c ++ (32 ∷ (w ++ (41 ∷ [])))) ++ rest ≡ c ++ (32 ∷ (w ++ (41 ∷ rest))) = simp append_assoc in
      ap (λ l. read_tree (suc n) (40 ∷ l)) all ∙ opened n c (w ++ (41 ∷ rest)) spelt.0 ∙ word_part (read_tree n) c w rest spelt.1
  back (suc n) (chain r at d) rest low spelt =
      let c = title r.category in
      let R = render title spelling d in
      let all : (c ++ (32 ∷ (R ++ (41 ∷ [])))) ++ rest ≡ c ++ (32 ∷ (R ++ (41 ∷ rest))) = simp append_assoc in
      let long = length-append c (32 ∷ (R ++ (41 ∷ []))) in
      let long' = length-append R (41 ∷ []) in
      let (inner, starts) = opens d (41 ∷ rest) in
      ap (λ l. read_tree (suc n) (40 ∷ l)) all ∙ opened n c (R ++ (41 ∷ rest)) spelt.0 ∙ one_part (read_tree n) c (R ++ (41 ∷ rest)) inner rest (shape title spelling d) starts (back n d (41 ∷ rest) (omega arith) spelt.1)
  back (suc n) (binary r at d f) rest low spelt =
      let c = title r.category in
      let R = render title spelling d in
      let Q = render title spelling f in
      let all : (c ++ (32 ∷ (R ++ (32 ∷ (Q ++ (41 ∷ [])))))) ++ rest ≡ c ++ (32 ∷ (R ++ (32 ∷ (Q ++ (41 ∷ rest))))) = simp append_assoc in
      let long = length-append c (32 ∷ (R ++ (32 ∷ (Q ++ (41 ∷ []))))) in
      let long' = length-append R (32 ∷ (Q ++ (41 ∷ []))) in
      let long'' = length-append Q (41 ∷ []) in
      let more = Q ++ (41 ∷ rest) in
      let (inner, starts) = opens d (32 ∷ more) in
      ap (λ l. read_tree (suc n) (40 ∷ l)) all ∙ opened n c (R ++ (32 ∷ more)) spelt.0 ∙ two_parts (read_tree n) c (R ++ (32 ∷ more)) inner more rest (shape title spelling d) (shape title spelling f) starts (back n d (32 ∷ more) (omega arith) spelt.1) (back n f (41 ∷ rest) (omega arith) spelt.2)

pub reads_back_lem : ReadsBack
reads_back_lem title spelling g ws A b e d spelt =
    let R = render title spelling d in
    let whole : read_tree (length R) R ≡ Some (shape title spelling d, []) = subst (λ l. read_tree (length R) l ≡ Some (shape title spelling d, [])) (append-nil R) (back title spelling (length R) d [] (omega arith) spelt) in
    rw whole
