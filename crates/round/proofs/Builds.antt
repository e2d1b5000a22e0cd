-- What the rules make of costs that are reached is reached.
use Rattle.std.proofs.Common.{◌≡◌, ℕ, ◌+◌, ◌-◌, List, length, Option, sym, refl, ap, subst, ap₂, subst₂}
use Rattle.derivation.specs.Grammar.{Grammar}
use Rattle.derivation.specs.Scale.{Scale}
use Rattle.derivation.specs.Derivation.{Derivation, cost}
use Rattle.derivation.specs.Bounds.{Entries}
use Rattle.derivation.specs.Passing.{Admits, Passes}
use Rattle.derivation.specs.Table.{Table, Reached}
use Rattle.bound.specs.Gate.{Open}
use Rattle.cell.specs.Cell.{Made, word, binary, chain}

abbrev pub Found : {Cost : Type 0} → Scale Cost → (g : Grammar) → Entries Cost → Option Cost → (ws : List ℕ) → ℕ → ℕ → ℕ → Cost → Type 0
Found s g entry ceiling ws A b e x = (d : Derivation g ws A b e) × (cost s d ≡ x) × Passes s entry ceiling (length ws) d

module _ {Cost : Type 0} {s : Scale Cost} {g : Grammar} {entry : Entries Cost} {ceiling : Option Cost} {ws : List ℕ} {v : Table Cost} (reached : Reached s g entry ceiling ws v) where
  pub build : {b e A : ℕ} {x : Cost} → Made s g (Open s ceiling entry (b - 1) (length ws - e)) ws v b e A x → Found s g entry ceiling ws A b e x
  build {b} {e} (word {i = i} r at here bi ei fine) =
      let Q : ℕ → ℕ → Type 0 = λ b e. Admits s ceiling (entry r.category (b - 1) (length ws - e)) (s.price r.weight) → Found s g entry ceiling ws r.category b e (s.price r.weight) in
      let base : Q (i + 1) (i + 1) = λ h. (Derivation.word r at here, refl, h) in
      subst₂ Q (sym bi) (sym ei) base fine
  build {b} {e} (binary {m = m} {x = x} {y = y} r at low high is_x is_y fine) =
      let (d, cd, pd) = reached.by r.left b m x is_x in
      let (f, cf, pf) = reached.by r.right (m + 1) e y is_y in
      let p = s.price r.weight in
      let is : s.join p (s.join (cost s d) (cost s f)) ≡ s.join p (s.join x y) = ap (s.join p) (ap₂ s.join cd cf) in
      (Derivation.binary r at d f, is, (subst (λ c. Admits s ceiling (entry r.category (b - 1) (length ws - e)) c) (sym is) fine, pd, pf))
  build {b} {e} (chain {y = y} r at made fine) =
      let (d, cd, pd) = build made in
      let p = s.price r.weight in
      let is : s.join p (cost s d) ≡ s.join p y = ap (s.join p) cd in
      (Derivation.chain r at d, is, (subst (λ c. Admits s ceiling (entry r.category (b - 1) (length ws - e)) c) (sym is) fine, pd))
