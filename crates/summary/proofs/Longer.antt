-- The row of a length is exact, from the rows of the shorter ones.
use Rattle.std.proofs.Common.{◌≡◌, ℕ, ◌+◌, ◌-◌, ◌*◌, ◌<◌, ◌≤◌, List, length, Some, None, Option, sym, refl, ap, ◌∙◌, subst, ap₂, subst₂, ⊎_elim, arith}
use native.Mathlib.Decide.{ℕ_discrete}
use Rattle.derivation.specs.declared.rules.ChainRule.{ChainRule}
use Rattle.derivation.specs.Named.{At}
use Rattle.derivation.specs.Grammar.{Grammar}
use Rattle.derivation.specs.Scale.{Scale, Lawful, Within}
use Rattle.derivation.specs.Bounds.{Filled}
use Rattle.derivation.proofs.Pruning.{mono}
use Rattle.settle.specs.declared.direction.Direction.{Direction}
use Rattle.settle.specs.declared.direction.Direction.TheVariants.{Up}
use Rattle.settle.specs.Column.{Column, AllOpen, Grown}
use Rattle.settle.specs.Offers.{cell, By, joined}
use Rattle.settle.specs.Chains.{source, target, Chained, here, further, Settled}
use Rattle.derivation.proofs.Reading.{none_some}
use Rattle.settle.proofs.Growing.{found, parts, lower_than, sinks}
use Rattle.summary.specs.declared.step.Sought.TheVariants.{Whole}
use Rattle.summary.specs.Memory.{view, inner}
use Rattle.summary.specs.Least.{LeastInside}
use Rattle.summary.specs.Filling.{Words, Joins, Pile, Insides}
use Rattle.summary.proofs.Placing.{row_before, view_same}
use Rattle.summary.proofs.Trees.{Tree, worth, tree_some}
use Rattle.summary.proofs.Least.{mono₂, inside_tree, inside_low, inside_least}

-- what holds of each cost of a row holds of each cost to which rules lead from there
pub chained_all : {Cost : Type 0} {s : Scale Cost} {ok : ℕ → Cost → Type 0} {direction : Direction} {rules : List ChainRule} {row : Column Cost} (P : ℕ → Cost → Type 0) → ((A : ℕ) (x : Cost) → row A ≡ Some x → P A x) → ((k : ℕ) (r : ChainRule) (y : Cost) → At rules k r → P (source direction r) y → P (target direction r) (s.join (s.price r.weight) y)) → {A : ℕ} {x : Cost} → Chained s ok direction rules row A x → P A x
chained_all P base step (here is) = base _ _ is
chained_all P base step (further {k = k} {y = y} r at c fine) = step k r y at (chained_all P base step c)

-- lengths stay exact where their rows are the same
pub insides_same : {Cost : Type 0} (s : Scale Cost) (g : Grammar) (size n : ℕ) (before after : List (Option Cost)) → ((k : ℕ) → k < n * size → cell after k ≡ cell before k) → Insides s g size n before → Insides s g size n after
insides_same s g size n before after same ins A m one h =
    let low = row_before size (m - 1) n (omega arith) in
    subst (λ o. LeastInside s g A m o) (sym (view_same size after before ((m - 1) * size) A (λ k from to. same k (omega arith)))) (ins A m one h)

-- and one row more
pub insides_more : {Cost : Type 0} (s : Scale Cost) (g : Grammar) (size n : ℕ) (after : List (Option Cost)) → ((A : ℕ) → LeastInside s g A n (inner size after A n)) → Insides s g size (n - 1) after → Insides s g size n after
insides_more s g size n after exact ins A m one short = elim (ℕ_discrete m n) [
  | yes e ↦ subst (λ (i : ℕ). LeastInside s g A i (inner size after A i)) (sym e) (exact A)
  | no ne ↦ ins A m one (omega arith)
]

module _ {Cost : Type 0} {s : Scale Cost} (lawful : Lawful s) (g : Grammar) (size n : ℕ) (shorter : List (Option Cost)) {row₀ row₁ row₂ row₃ : Column Cost}
    (before : Insides s g size (n - 1) shorter)
    (blank : (A : ℕ) → row₀ A ≡ None)
    (worded : Grown s AllOpen (λ A x. (n ≡ 1) × By g.lexical (length g.lexical) (Words s) A x) row₀ row₁)
    (piled : Grown s AllOpen (Pile n (λ m. Joins s Whole g.binaries (view size shorter ((m - 1) * size)) (view size shorter ((n - m - 1) * size)))) row₁ row₂)
    (settled : Settled s AllOpen Up g.chains row₂ row₃) where
  -- a cost of a shorter length is that of a tree
  grown : (A m : ℕ) (y : Cost) → 1 ≤ m → m < n → inner size shorter A m ≡ Some y → (t : Tree g A m) × (worth s t ≡ y)
  grown A m y one short is = inside_tree s g A m (inner size shorter A m) (before A m one (omega arith)) y is

  -- and no tree of a shorter length costs less
  lower : (A m : ℕ) (t : Tree g A m) → m < n → (y : Cost) × (inner size shorter A m ≡ Some y) × Within s y (worth s t)
  lower A m t short = found (inner size shorter A m) (inside_low s g A m (inner size shorter A m) (before A m (tree_some t) (omega arith)) t)

  sound : (A : ℕ) (x : Cost) → row₂ A ≡ Some x → (t : Tree g A n) × (worth s t ≡ x)
  sound A x is = ⊎_elim
      (λ was. ⊎_elim
      (λ none. absurd (none_some (blank A) none))
      (λ new.
      let (one, by) = new.0 in
      subst₂ (λ (m B : ℕ). (t : Tree g B m) × (worth s t ≡ x)) (sym one) by.offered.0 (Tree.word by.one by.at, sym by.offered.1))
      (worded.origin A x was))
      (λ new.
      let pile = new.0 in
      let m = pile.m in
      let by = pile.offered in
      let r = by.one in
      let (y, z, first, second, x-is) = parts s r.weight (inner size shorter r.left m) (inner size shorter r.right (n - m)) x by.offered.is in
      let (t, t-is) = grown r.left m y pile.some pile.under first in
      let (u, u-is) = grown r.right (n - m) z (omega (arith, pile.under)) (omega (arith, pile.some, pile.under)) second in
      let whole : m + (n - m) ≡ n = omega (arith, pile.under) in
      subst₂ (λ (i B : ℕ). (t : Tree g B i) × (worth s t ≡ x)) whole by.offered.goes (Tree.binary r by.at t u, ap₂ (λ y z. s.join (s.price r.weight) (s.join y z)) t-is u-is ∙ sym x-is))
      (piled.origin A x is)

  reached : (A : ℕ) (x : Cost) → row₃ A ≡ Some x → (t : Tree g A n) × (worth s t ≡ x)
  reached A x is = chained_all (λ B y. (t : Tree g B n) × (worth s t ≡ y)) sound (λ k r y at (t, t-is). (Tree.chain r at t, ap (s.join (s.price r.weight)) t-is)) (settled.origin A x is)

  closed : (A : ℕ) (v : Cost) → Filled (row₂ A) (λ x. Within s x v) → Filled (row₃ A) (λ x. Within s x v)
  closed A v h =
      let (x, is, le) = found (row₂ A) h in
      lower_than lawful (row₃ A) x v le (settled.lower A x is)

  low : {A m : ℕ} (t : Tree g A m) → m ≡ n → Filled (row₃ A) (λ x. Within s x (worth s t))
  low (Tree.word {k = k} r at) long =
      closed r.category _ (sinks lawful piled r.category _ (worded.made r.category _ (sym long, record { place = k; one = r; under = at.inside; at = at; offered = (refl, refl) }) tt))
  low {A} (Tree.chain {k = k} r at t) long =
      let (y, is, le) = found (row₃ r.part) (low t long) in
      lower_than lawful (row₃ A) _ _ (mono lawful (s.price r.weight) y (worth s t) le) (settled.closed.by k r y at is tt)
  low {A} (Tree.binary {k = k} {m = m} {n = o} r at t u) long =
      let one = tree_some t in
      let two = tree_some u in
      let (y, first, le) = lower r.left m t (omega arith) in
      let (z, second, le') = lower r.right o u (omega arith) in
      let rest : o - 1 ≡ n - m - 1 = omega arith in
      let le'' = mono lawful (s.price r.weight) (s.join y z) (s.join (worth s t) (worth s u)) (mono₂ lawful y (worth s t) z (worth s u) le le') in
      let pile : Pile n (λ m. Joins s Whole g.binaries (view size shorter ((m - 1) * size)) (view size shorter ((n - m - 1) * size))) r.category (s.join (s.price r.weight) (s.join y z)) = record {
        m = m;
        some = one;
        under = omega arith;
        offered = record {
          place = k;
          one = r;
          under = at.inside;
          at = at;
          offered = record { goes = refl; is = ap₂ (joined s r.weight) first (subst (λ (i : ℕ). view size shorter (i * size) r.right ≡ Some z) rest second) };
        };
      } in
      closed r.category _ (lower_than lawful (row₂ r.category) _ _ le'' (piled.made r.category _ pile tt))

  pub longer_exact : (A : ℕ) → LeastInside s g A n (row₃ A)
  longer_exact A = inside_least s g A n (row₃ A) (reached A) (λ t. low t refl)
