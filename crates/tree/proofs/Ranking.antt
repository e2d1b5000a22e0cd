-- What one more rank keeps, and that there is one more to give.
use Rattle.std.proofs.Common.{◌≡◌, ℕ, zero, suc, ◌+◌, ◌<◌, ◌≤◌, Bool, true, false, ◌⊎◌, List, get_or, set, replicate, Some, None, Option, sym, refl, ap, ◌∙◌, subst, inl, inr, arith, length-set, get_or-set_other, get_or-set_same, below_more}
use native.Mathlib.Decide.{ℕ_discrete}
use Rattle.std.specs.Option.{is_some, MatchOption, IsSomeAnd}
use Rattle.derivation.specs.Scale.{Scale}
use Rattle.derivation.specs.Grammar.{Grammar}
use Rattle.derivation.specs.Table.{Table}
use Rattle.tree.specs.declared.ways.Step.{Step}
use Rattle.tree.specs.declared.ways.Step.TheVariants.{Word, Chain, Binary}
use Rattle.tree.specs.Ways.{no_chain, rank, Gives, Way}
use Rattle.tree.specs.Ranks.{Ranked, Markable, Swept, Grounded, by_word, by_binary, by_chain}
use Rattle.tree.proofs.Marks.{many, many_less}

abbrev pub has_rank : List (Option ℕ) → ℕ → Bool
has_rank ranks a = is_some (rank ranks a)

abbrev pub no_ranks : List (Option ℕ)
no_ranks = replicate 64 None

none_ranked : (n a : ℕ) → rank (replicate n None) a ≡ None
none_ranked zero a = refl
none_ranked (suc n) zero = refl
none_ranked (suc n) (suc a) = none_ranked n a

ranked_or_not : (o : Option ℕ) → ((r : ℕ) × (o ≡ Some r)) ⊎ (o ≡ None)
ranked_or_not (Some r) = inl (r, refl)
ranked_or_not None = inr refl

-- what was said of the value, where there is one
pub given : {X : Type 0} (o : Option X) → true ≡ is_some o → (P : Type 0) (Q : X → Type 0) → MatchOption o P Q → (x : X) × Q x
given (Some x) is P Q h = (x, h)
given None is P Q h = cc

pub lacking : {X : Type 0} (o : Option X) → false ≡ is_some o → (P : Type 0) (Q : X → Type 0) → MatchOption o P Q → P
lacking None is P Q h = h
lacking (Some x) is P Q h = cc

pub absent : {X : Type 0} (o : Option X) → is_some o ≡ false → o ≡ None
absent None h = refl
absent (Some x) h = cc

module _ {Cost : Type 0} (s : Scale Cost) (g : Grammar) (ws : List ℕ) (v : Table Cost) (b e : ℕ) where
  gives_kept : (ranks now : List (Option ℕ)) → ((x r : ℕ) → rank ranks x ≡ Some r → rank now x ≡ Some r) → (below a : ℕ) (x : Cost) (t : Step) → Gives s g ws v ranks below b e a x t → Gives s g ws v now below b e a x t
  gives_kept ranks now same below a x (Word k) w = w
  gives_kept ranks now same below a x (Binary k m) w = w
  gives_kept ranks now same below a x (Chain k) w =
      let of = w.2 in
      (w.0, w.1, record { level = of.level; ranked = same _ of.level of.ranked; lower = of.lower; part = of.part; has_part = of.has_part; costs = of.costs })

  -- a way stays while the ranks that were given stay
  way_kept : (ranks now : List (Option ℕ)) → ((x r : ℕ) → rank ranks x ≡ Some r → rank now x ≡ Some r) → (below a : ℕ) (t : Step) → Way s g ws v ranks below b e a t → Way s g ws v now below b e a t
  way_kept ranks now same below a t w = record { cost = w.cost; held = w.held; gives = gives_kept ranks now same below a w.cost t w.gives }

set_same : (ranks : List (Option ℕ)) (x : ℕ) (r : Option ℕ) → rank ranks x ≡ None → (y q : ℕ) → rank ranks y ≡ Some q → rank (set ranks x r) y ≡ Some q
set_same ranks x r fresh y q is = get_or-set_other ranks x y r None (λ same. let z : rank ranks y ≡ None = ap (λ n. rank ranks n) same ∙ fresh in cc) ∙ is

module _ {Cost : Type 0} {s : Scale Cost} {g : Grammar} {ws : List ℕ} {v : Table Cost} {b e : ℕ} where
  pub cost_of : {a : ℕ} → Grounded s g ws v b e a → (x : Cost) × (v a b e ≡ Some x)
  cost_of (by_word {x = x} held at w) = (x, held)
  cost_of (by_binary {x = x} held w) = (x, held)
  cost_of (by_chain {x = x} k held inside makes part tight d) = (x, held)

  -- while a has no rank, some category can be given the next one
  progress : (ranks : List (Option ℕ)) (level : ℕ) → ((x r : ℕ) → rank ranks x ≡ Some r → r ≤ level) → {a : ℕ} → Grounded s g ws v b e a → rank ranks a ≡ None → (x : ℕ) × Markable s g ws v ranks (level + 1) b e x
  progress ranks level most {a} (by_word {k = k} {x = x} held at w) fresh = (a, record { fresh = fresh; step = Word k; way = record { cost = x; held = held; gives = (at, w) } })
  progress ranks level most {a} (by_binary {k = k} {m = m} {x = x} held w) fresh = (a, record { fresh = fresh; step = Binary k m; way = record { cost = x; held = held; gives = w } })
  progress ranks level most {a} (by_chain {x = x} {y = y} k held inside makes part tight d) fresh =
      elim (ranked_or_not (rank ranks (get_or g.chains k no_chain).part)) [
        | inr none ↦ progress ranks level most d none
        | inl (r, is) ↦
            let low = most _ r is in
            (a, record { fresh = fresh; step = Chain k; way = record { cost = x; held = held; gives = (inside, makes, record { level = r; ranked = is; lower = omega arith; part = y; has_part = part; costs = tight }) } })
      ]

  -- a rank that was read at the place of a, and the room for it
  pub top : {ranks : List (Option ℕ)} {limit i a r : ℕ} → Ranked s g ws v ranks limit b e → i ≡ a → rank ranks i ≡ Some r → (size long : ℕ) → IsSomeAnd (rank ranks a) (λ q. size + q ≤ long) → (rank ranks a ≡ Some r) × (1 ≤ r) × (size + r ≤ long)
  top {ranks} {a = a} {r = r} ranked same read size long room =
      let is : rank ranks a ≡ Some r = ap (rank ranks) (sym same) ∙ read in
      (is, ranked.some a r is, rw is at room)

  pub ranked_none : Ranked s g ws v no_ranks 0 b e
  ranked_none = record { long = refl; some = λ a r is. let z = none_ranked 64 a in cc; most = λ a r is. let z = none_ranked 64 a in cc; ways = λ a r is. let z = none_ranked 64 a in cc }

  pub ranked_up : {ranks : List (Option ℕ)} (low high : ℕ) → low ≤ high → Ranked s g ws v ranks low b e → Ranked s g ws v ranks high b e
  ranked_up low high up r = record { long = r.long; some = r.some; most = λ a q is. omega (arith, r.most a q is); ways = r.ways }

  pub ranked_more : (ranks : List (Option ℕ)) (level x : ℕ) → 1 ≤ level → x < 64 → Ranked s g ws v ranks level b e → Markable s g ws v ranks level b e x → Ranked s g ws v (set ranks x (Some level)) level b e
  ranked_more ranks level x pos small r m =
      let next = set ranks x (Some level) in
      let long = r.long in
      let kept = way_kept s g ws v b e ranks next (set_same ranks x (Some level) m.fresh) in
      let here : rank next x ≡ Some level = get_or-set_same ranks x (Some level) None (omega arith) in
      let old : (P : ℕ → ℕ → Type 0) → P x level → ((a q : ℕ) → rank ranks a ≡ Some q → P a q) → (a q : ℕ) → rank next a ≡ Some q → P a q = λ P new before a q is. elim (ℕ_discrete a x) [
        | yes same ↦ subst (λ n. P n q) (sym same) (subst (λ n. P x n) (let t : rank next x ≡ Some q = ap (λ n. rank next n) (sym same) ∙ is in cc) new)
        | no other ↦ before a q (sym (get_or-set_other ranks x a (Some level) None other) ∙ is)
      ] in
      record {
        long = length-set ranks x (Some level) ∙ r.long;
        some = old (λ a q. 1 ≤ q) pos r.some;
        most = old (λ a q. q ≤ level) (omega arith) r.most;
        ways = old (λ a q. (t : Step) × Way s g ws v next q b e a t) (m.step, kept level x m.step m.way) (λ a q is. let (t, w) = r.ways a q is in (t, kept q a t w));
      }

  -- the first rank, to a category that needs no other
  pub ranked_one : (a kinds : ℕ) → a < kinds → kinds ≤ 64 → (t : Step) → Way s g ws v no_ranks 1 b e a t → Ranked s g ws v (set no_ranks a (Some 1)) kinds b e
  ranked_one a kinds small few t w =
      let start = ranked_up 0 1 (omega arith) ranked_none in
      ranked_up 1 kinds (omega arith) (ranked_more no_ranks 1 a (omega arith) (omega arith) start (record { fresh = none_ranked 64 a; step = t; way = w }))

  pub swept_skip : (before ranks : List (Option ℕ)) (level x : ℕ) → Swept s g ws v before ranks level x b e → (rank ranks x ≡ None → (t : Step) → Way s g ws v ranks level b e x t → ⊥) → Swept s g ws v before ranks level (x + 1) b e
  swept_skip before ranks level x swept none = record {
    ranked = swept.ranked;
    same = swept.same;
    all = below_more (λ y. rank ranks y ≡ None → Markable s g ws v before level b e y → ⊥) x swept.all
        (λ z m. none z m.step (way_kept s g ws v b e before ranks swept.same level x m.step m.way));
  }

  pub swept_mark : (before ranks : List (Option ℕ)) (level x : ℕ) → 1 ≤ level → x < 64 → Swept s g ws v before ranks level x b e → Markable s g ws v ranks level b e x → Swept s g ws v before (set ranks x (Some level)) level (x + 1) b e
  swept_mark before ranks level x some small swept m =
      let long = swept.ranked.long in
      let next = set ranks x (Some level) in
      let here : rank next x ≡ Some level = get_or-set_same ranks x (Some level) None (omega arith) in
      record {
        ranked = ranked_more ranks level x some small swept.ranked m;
        same = λ y q is. set_same ranks x (Some level) m.fresh y q (swept.same y q is);
        all = below_more (λ y. rank next y ≡ None → Markable s g ws v before level b e y → ⊥) x
            (λ y low z. swept.all y low (sym (get_or-set_other ranks x y (Some level) None (omega arith)) ∙ z))
            (λ z m. cc);
      }

  -- a sweep while a has no rank gives one to some category
  pub more_ranked : (before after : List (Option ℕ)) (level kinds : ℕ) → ((x : ℕ) (y : Cost) → v x b e ≡ Some y → x < kinds) → Ranked s g ws v before level b e → {a : ℕ} → Grounded s g ws v b e a → rank before a ≡ None → Swept s g ws v before after (level + 1) kinds b e → many (has_rank before) kinds < many (has_rank after) kinds
  more_ranked before after level kinds bounded ranked d fresh swept =
      let (x, m) = progress before level ranked.most d fresh in
      let small = bounded x m.way.cost m.way.held in
      many_less (has_rank before) (has_rank after) kinds
      (λ k is. elim (ranked_or_not (rank before k)) [ inl (r, had) ↦ ap is_some (swept.same k r had) | inr none ↦ absurd (cc (ap is_some none)) ])
      x small
      (ap is_some m.fresh)
      (elim (ranked_or_not (rank after x)) [ inl (r, has) ↦ ap is_some has | inr none ↦ absurd (swept.all x small none m) ])
