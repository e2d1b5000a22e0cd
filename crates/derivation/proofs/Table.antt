-- A table that is closed under the rules holds the least cost of what passes.
use Rattle.std.proofs.Common.{◌≡◌, ℕ, ◌+◌, List, length, Some, None, Option, refl, arith}
use Rattle.derivation.specs.Scale.{Scale, Lawful, Within}
use Rattle.derivation.specs.Grammar.{Grammar}
use Rattle.derivation.specs.Derivation.{Derivation, cost, word, chain, binary}
use Rattle.derivation.specs.Bounds.{Entries, Filled}
use Rattle.derivation.specs.Passing.{Admits, Passes}
use Rattle.derivation.specs.Table.{Table, Closed}
use Rattle.derivation.proofs.Pruning.{spans, filled_map, mono}

-- what is in an entry, with its equation
pub found : {Cost : Type 0} {P : Cost → Type 0} (o : Option Cost) → Filled o P → (x : Cost) × (o ≡ Some x) × P x
found None h = absurd h
found (Some x) h = (x, refl, h)

module _ {Cost : Type 0} {s : Scale Cost} (lawful : Lawful s) where
  pub admits_mono : (ceiling o : Option Cost) (c c' : Cost) → Within s c c' → Admits s ceiling o c' → Admits s ceiling o c
  admits_mono None o c c' low h = tt
  admits_mono (Some t) o c c' low h = filled_map o (λ x k. lawful.trans _ _ _ (lawful.keeps c c' x low) k) h

  -- joins keep the order, on both sides
  pub mono₂ : (a b c d : Cost) → Within s a b → Within s c d → Within s (s.join a c) (s.join b d)
  mono₂ a b c d h k = lawful.trans _ (s.join b c) _ (lawful.keeps a b c h) (mono lawful b c d k)

  module _ {g : Grammar} {entry : Entries Cost} {ceiling : Option Cost} {ws : List ℕ} {v : Table Cost} (closed : Closed s g entry ceiling ws v) where
    pub covers : {A b e : ℕ} (d : Derivation g ws A b e) → Passes s entry ceiling (length ws) d → Filled (v A b e) (λ x. Within s x (cost s d))
    covers (word {k = k} {i = i} r at here) h =
        let size = spans {g = g} {ws = ws} (word r at here) in
        (closed.at (i + 1) (i + 1) size.first size.some size.last).words k i r at here refl refl h
    covers {A} {b} {e} (chain {k = k} r at d) h =
        let size = spans d in
        let (x, is, low) = found (v r.part b e) (covers d h.1) in
        let p = s.price r.weight in
        let lower = mono lawful p x (cost s d) low in
        filled_map (v A b e) (λ y l. lawful.trans _ _ _ l lower) ((closed.at b e size.first size.some size.last).chains k r x at is (admits_mono ceiling _ _ _ lower h.0))
    covers {A} {b} {e} (binary {k = k} {m = m} r at d f) h =
        let first = spans d in
        let second = spans f in
        let (x, is, low) = found (v r.left b m) (covers d h.1) in
        let (y, is', low') = found (v r.right (m + 1) e) (covers f h.2) in
        let p = s.price r.weight in
        let lower = mono lawful p (s.join x y) (s.join (cost s d) (cost s f)) (mono₂ x (cost s d) y (cost s f) low low') in
        filled_map (v A b e) (λ z l. lawful.trans _ _ _ l lower) ((closed.at b e first.first (omega arith) second.last).binaries k m r x y at first.some (omega arith) is is' (admits_mono ceiling _ _ _ lower h.0))

-- with no ceiling everything passes
pub all_pass : {Cost : Type 0} (s : Scale Cost) (entry : Entries Cost) (n : ℕ) {g : Grammar} {ws : List ℕ} {A b e : ℕ} (d : Derivation g ws A b e) → Passes s entry None n d
all_pass s entry n (word r at here) = tt
all_pass s entry n (chain r at d) = (tt, all_pass s entry n d)
all_pass s entry n (binary r at d f) = (tt, all_pass s entry n d, all_pass s entry n f)
