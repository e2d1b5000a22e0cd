-- A round with a ceiling keeps each derivation of the top that is not above it, and no other.
use Rattle.std.proofs.Common.{◌≡◌, ℕ, ◌+◌, ◌-◌, ◌≤◌, List, length, Some, None, Option, sym, ap, ◌∙◌, subst, subst₂, ⊎_elim, arith}
use Rattle.derivation.specs.Scale.{Scale, Lawful, Within}
use Rattle.derivation.specs.Grammar.{Grammar}
use Rattle.derivation.specs.Derivation.{Derivation, cost, word, chain, binary}
use Rattle.derivation.specs.Surrounding.{Surrounding, rest}
use Rattle.derivation.specs.Pruning.{Prunes, PruningLosesNothing}
use Rattle.derivation.specs.Bounds.{Entries, Filled, Bounds}
use Rattle.derivation.specs.Passing.{Admits, Fine, Passes}

pub record Spans (b e n : ℕ) : Type 0 where
  pub first : 1 ≤ b
  pub some : b ≤ e
  pub last : e ≤ n

pub spans : {g : Grammar} {ws : List ℕ} {A b e : ℕ} → Derivation g ws A b e → Spans b e (length ws)
spans (word r at here) = omega arith
spans (chain r at d) = spans d
spans (binary r at d f) = omega (arith, spans d, spans f)

pub filled_map : {Cost : Type 0} {P Q : Cost → Type 0} (o : Option Cost) → ((x : Cost) → P x → Q x) → Filled o P → Filled o Q
filled_map None f h = h
filled_map (Some x) f h = f x h

module _ {Cost : Type 0} {s : Scale Cost} (lawful : Lawful s) where
  pub mono : (c x y : Cost) → Within s x y → Within s (s.join c x) (s.join c y)
  mono c x y h = rw (lawful.comm c x, lawful.comm c y) (lawful.keeps x y c h)

  pub swap : (a b c : Cost) → s.join a (s.join b c) ≡ s.join b (s.join a c)
  swap a b c = sym (lawful.assoc a b c) ∙ ap (λ x. s.join x c) (lawful.comm a b) ∙ lawful.assoc b a c

  pub step_chain : (p d around : Cost) → s.join (s.join p d) around ≡ s.join d (s.join p around)
  step_chain p d around = lawful.assoc p d around ∙ swap p d around

  pub step_left : (p d f around : Cost) → s.join (s.join p (s.join d f)) around ≡ s.join d (s.join p (s.join around f))
  step_left p d f around = cc (lawful.assoc p (s.join d f) around, lawful.assoc d f around, swap p d (s.join f around), lawful.comm f around)

  pub step_right : (p d f around : Cost) → s.join (s.join p (s.join d f)) around ≡ s.join f (s.join p (s.join around d))
  step_right p d f around = ap (λ x. s.join (s.join p x) around) (lawful.comm d f) ∙ step_left p f d around

  -- a derivation is never above itself with more
  pub grows : (c x : Cost) → Within s c (s.join c x)
  grows c x = rw (lawful.comm c x) (subst (λ y. Within s y (s.join x c)) (lawful.unit c) (lawful.keeps s.neutral x c (lawful.least x)))

  module _ {g : Grammar} {span : ℕ} {entry : Entries Cost} (bounds : Bounds s g span entry) (ws : List ℕ) (ceiling : Cost) (n : ℕ) (short : n ≤ span) where
    fine : {A b e l r : ℕ} (d : Derivation g ws A b e) (around : Surrounding g A l r) → l + 1 ≡ b → r + e ≡ n → Within s (s.join (cost s d) (rest s around)) ceiling → Fine s entry (Some ceiling) n d
    fine {A} {b} {e} {l} {r} d around before after low =
        let here = spans d in
        let at-l : l ≡ b - 1 = omega arith in
        let at-r : r ≡ n - e = omega arith in
        let known = bounds.low A l r around (omega arith) in
        let there = subst₂ (λ (x y : ℕ). Filled (entry A x y) (λ c. Within s c (rest s around))) at-l at-r known in
        filled_map (entry A (b - 1) (n - e)) (λ x h. lawful.trans _ _ _ (mono (cost s d) x (rest s around) h) low) there

    pub passes_in : {A b e l r : ℕ} (d : Derivation g ws A b e) (around : Surrounding g A l r) → l + 1 ≡ b → r + e ≡ n → Within s (s.join (cost s d) (rest s around)) ceiling → Passes s entry (Some ceiling) n d
    passes_in (word k at here) around before after low = fine (word k at here) around before after low
    passes_in (chain k at d) around before after low =
        (fine (chain k at d) around before after low, passes_in d (Surrounding.chain k at around) before after (subst (λ c. Within s c ceiling) (step_chain _ _ _) low))
    passes_in {b = b} {e = e} {l = l} {r = r} (binary {m = m} k at d f) around before after low =
        let first = spans d in
        let second = spans f in (
          fine (binary k at d f) around before after low,
          passes_in d (Surrounding.left k at around f) before (omega arith) (subst (λ c. Within s c ceiling) (step_left _ _ _ _) low),
          passes_in f (Surrounding.right k at around d) (omega arith) after (subst (λ c. Within s c ceiling) (step_right _ _ _ _) low),
        )

pub fine_of : {Cost : Type 0} (s : Scale Cost) (entry : Entries Cost) (ceiling : Option Cost) (n : ℕ) {g : Grammar} {ws : List ℕ} {A b e : ℕ} (d : Derivation g ws A b e) → Passes s entry ceiling n d → Fine s entry ceiling n d
fine_of s entry ceiling n (word r at here) h = h
fine_of s entry ceiling n (chain r at d) h = h.0
fine_of s entry ceiling n (binary r at d f) h = h.0

pub low_of : {Cost : Type 0} {s : Scale Cost} (lawful : Lawful s) (o : Option Cost) (c ceiling : Cost) → Admits s (Some ceiling) o c → Within s c ceiling
low_of lawful None c ceiling h = absurd h
low_of lawful (Some x) c ceiling h = lawful.trans _ _ _ (grows lawful c x) h

pub prunes : {Cost : Type 0} {s : Scale Cost} → Lawful s → {g : Grammar} {span : ℕ} {entry : Entries Cost} → Bounds s g span entry → (ceiling : Cost) (ws : List ℕ) → length ws ≤ span → Prunes s g entry ceiling ws
prunes {s = s} lawful {g = g} {entry = entry} bounds ceiling ws short =
    let n = length ws in
    let keep : (d : Derivation g ws g.top 1 n) → Within s (cost s d) ceiling → Passes s entry (Some ceiling) n d = λ d low. passes_in lawful bounds ws ceiling n short d Surrounding.whole (omega arith) (omega arith) (rw (lawful.comm (cost s d) s.neutral, lawful.unit (cost s d)) low) in
    let drop : (d : Derivation g ws g.top 1 n) → Passes s entry (Some ceiling) n d → Within s (cost s d) ceiling = λ d h. low_of lawful _ _ _ (fine_of s entry (Some ceiling) n d h) in
    record {
      kept = keep;
      only = drop;
      least = λ d h best f. ⊎_elim (λ (low : Within s (cost s f) ceiling). best f (keep f low)) (λ (high : Within s ceiling (cost s f)). lawful.trans _ _ _ (drop d h) high) (lawful.compares (cost s f) ceiling);
    }

pub pruning_loses_nothing_lem : {Cost : Type 0} (s : Scale Cost) → PruningLosesNothing s
pruning_loses_nothing_lem s lawful g span entry bounds ceiling ws short = prunes lawful bounds ceiling ws short
