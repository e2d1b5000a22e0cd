-- Bracketed text read back: the shape of the tree that it shows.
use Rattle.std.specs.Prelude.{◌≡◌, ℕ, zero, suc, ◌+◌, ◌<◌, Bool, true, cond, not, ◌&&◌, ◌||◌, List, [], ◌∷◌, length, Some, None, Option, ◌==◌, nat_le}
use Rattle.derivation.specs.Grammar.{Grammar}
use Rattle.derivation.specs.Derivation.{Derivation, word, chain, binary}
use Rattle.render.specs.Render.{render}

-- each node by its category's name: above a word, above one part, or above two
pub data Shape : Type 0 where
  leaf : List ℕ → List ℕ → Shape
  one : List ℕ → Shape → Shape
  two : List ℕ → Shape → Shape → Shape

abbrev pub shape : (ℕ → List ℕ) → (ℕ → List ℕ) → {g : Grammar} {ws : List ℕ} {A b e : ℕ} → Derivation g ws A b e → Shape
shape title spelling (word {i = i} r at here) = leaf (title r.category) (spelling (i + 1))
shape title spelling (chain r at d) = one (title r.category) (shape title spelling d)
shape title spelling (binary r at d f) = two (title r.category) (shape title spelling d) (shape title spelling f)

-- a byte of a name: from 33 to 126, and no bracket
abbrev pub in_name : ℕ → Bool
in_name b = (nat_le 33 b && nat_le b 126) && not (b == 40 || b == 41)

abbrev pub all_in_name : List ℕ → Bool
all_in_name [] = true
all_in_name (b ∷ bs) = in_name b && all_in_name bs

-- a name: one byte or more, all such
pub record Name (bytes : List ℕ) : Type 0 where
  pub some : 0 < length bytes
  pub each : all_in_name bytes ≡ true

-- what d is written with are names
abbrev pub Spelt : (ℕ → List ℕ) → (ℕ → List ℕ) → {g : Grammar} {ws : List ℕ} {A b e : ℕ} → Derivation g ws A b e → Type 0
Spelt title spelling (word {i = i} r at here) = Name (title r.category) × Name (spelling (i + 1))
Spelt title spelling (chain r at d) = Name (title r.category) × Spelt title spelling d
Spelt title spelling (binary r at d f) = Name (title r.category) × Spelt title spelling d × Spelt title spelling f

-- what is made of the value that is there, or else the other
abbrev pub maybe : {X Y : Type 0} → Option X → Y → (X → Y) → Y
maybe None other made = other
maybe (Some x) other made = made x

-- what follows the byte c, if the text begins with it
abbrev pub after : ℕ → List ℕ → Option (List ℕ)
after c [] = None
after c (b ∷ bs) = cond (b == c) (Some bs) None

-- the bytes of a name that the text begins with, and what follows them
abbrev pub name : List ℕ → List ℕ × List ℕ
name [] = ([], [])
name (b ∷ bs) = cond (in_name b) (b ∷ (name bs).0, (name bs).1) ([], b ∷ bs)

-- t, if its closing bracket comes first; and what follows
abbrev pub closed : Shape → List ℕ → Option (Shape × List ℕ)
closed t bs = maybe (after 41 bs) None (λ rest. Some (t, rest))

-- the parts of a node with the category c, up to its closing bracket: one or two trees, or else a word
abbrev pub parts : (List ℕ → Option (Shape × List ℕ)) → List ℕ → List ℕ → Option (Shape × List ℕ)
parts tree c bs =
    maybe (after 40 bs)
    (closed (leaf c (name bs).0) (name bs).1)
    (λ _. maybe (tree bs) None (λ t. maybe (after 32 t.1) (closed (one c t.0) t.1) (λ rest. maybe (tree rest) None (λ u. closed (two c t.0 u.0) u.1))))

-- the tree that the text begins with, of so many levels at most; and what follows
abbrev pub read_tree : ℕ → List ℕ → Option (Shape × List ℕ)
read_tree zero bs = None
read_tree (suc n) bs = maybe (after 40 bs) None (λ rest. maybe (after 32 (name rest).1) None (parts (read_tree n) (name rest).0))

abbrev pub ended : Shape → List ℕ → Option Shape
ended t [] = Some t
ended t (b ∷ bs) = None

-- the tree that the text shows, if it is the text of one
abbrev pub read : List ℕ → Option Shape
read bs = maybe (read_tree (length bs) bs) None (λ r. ended r.0 r.1)

-- the text of a derivation tells its shape
abbrev pub ReadsBack : Type 0
ReadsBack = (title spelling : ℕ → List ℕ) (g : Grammar) (ws : List ℕ) (A b e : ℕ) (d : Derivation g ws A b e) → Spelt title spelling d → read (render title spelling d) ≡ Some (shape title spelling d)
