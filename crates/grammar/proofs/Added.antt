-- Lines that are taken add what they say: by the steps of their names, then by their rule.
use Rattle.std.proofs.Common.{◌≡◌, ℕ, ◌≤◌, Bool, false, ◌==◌, List, [], ◌∷◌, ◌++◌, length, get_or, take, is_some, Ok, sym, refl, ap, ◌∙◌, subst, arith}
use Rattle.std.proofs.lemmas.List.{get_or-take, length-take, take-take}
use Rattle.std.specs.List.{list_any}
use Rattle.derivation.specs.declared.rules.WordRule.{WordRule}
use Rattle.derivation.specs.declared.rules.ChainRule.{ChainRule}
use Rattle.derivation.specs.declared.rules.BinaryRule.{BinaryRule}
use Rattle.lines.specs.Run.{on_ok}
use Rattle.grammar.specs.declared.flaw.Part.TheVariants.{Category, First, Second}
use Rattle.grammar.specs.Seen.{Seen}
use Rattle.grammar.specs.Adding.{naming, wording, heading, with_categories, with_words, with_lexical, with_chains, with_binaries, putting, same_lexical, same_chains, same_binaries, put_top, adding_top, adding_lexical, adding_chain, adding_binary}
use Rattle.grammar.specs.Added.{Spells, TopAdded, LexicalAdded, ChainAdded, BinaryAdded}
use Rattle.grammar.proofs.Named.{ok_same, step, otherwise, whole, CategoryNamed, category_named, head_named, word_named}

-- a rule that is put stands after those of its kind
pub put_added : {R : Type 0} (same : R → R → Bool) (loops : R → Bool) (rules : List R) (r : R) (w : List R → Seen) (t : Seen) → on_ok (putting same loops rules r) (λ z. Ok (w z)) ≡ Ok t → w (rules ++ r ∷ []) ≡ t
put_added same loops rules r w t h =
    let p = step (putting same loops rules r) (λ z. Ok (w z)) t h in
    let put = otherwise (loops r) _ _ p.x (otherwise (list_any (same r) rules) _ _ p.x p.is) in
    ap w (ok_same (rules ++ r ∷ []) p.x put) ∙ ok_same (w p.x) t p.next

-- a name keeps its number where the names grow
pub kept : (names more : List (List ℕ)) (k : ℕ) (name : List ℕ) → take (length names) more ≡ names → Spells names k name → Spells more k name
kept names more k name front p =
    let long : length names ≤ length more = omega (arith, simp length-take at (ap length front)) in
    record { inside = omega (arith, p.inside, long); is = sym (get_or-take (length names) more k [] p.inside) ∙ ap (λ x. get_or x k []) front ∙ p.is }

-- one after another: the first names stay in front
pub front_on : (a b c : List (List ℕ)) → take (length a) b ≡ a → take (length b) c ≡ b → take (length a) c ≡ a
front_on a b c p q =
    let long : length a ≤ length b = omega (arith, simp length-take at (ap length p)) in
    sym (take-take (length a) (length b) c long) ∙ ap (take (length a)) q ∙ p

pub top_added : (s : Seen) (a : List ℕ) (t : Seen) → adding_top s a ≡ Ok t → TopAdded s a t
top_added s a t h =
    let one = step (naming Category s a) (λ c. put_top c.1 c.0) t h in
    let n = category_named Category s a one.x one.is in
    let put = otherwise (is_some one.x.1.top) _ _ t one.next in
    let e = ok_same _ t put in
    subst (TopAdded s a) e (rw n.is (record { top = one.x.0; has = record { number = refl; limit = refl; top = refl; lexical = refl; chains = refl; binaries = refl; categories = n.front; words = whole s.words }; spells = n.spells }))

-- two categories, one after the other
pub record Two (s : Seen) (a b : List ℕ) (j k : ℕ) (u : Seen) : Type 0 where
  pub more : List (List ℕ)
  pub is : u ≡ with_categories s more
  pub front : take (length s.categories) more ≡ s.categories
  pub first : Spells more j a
  pub second : Spells more k b

pub two : (s t u : Seen) (a b : List ℕ) (j k : ℕ) → CategoryNamed s a j t → CategoryNamed t b k u → Two s a b j k u
two s t u a b j k n m =
    let is : t.categories ≡ n.more = ap (λ x. x.categories) n.is in
    let on : take (length n.more) m.more ≡ n.more = subst (λ x. take (length x) m.more ≡ x) is m.front in
    record {
      more = m.more;
      is = m.is ∙ ap (λ x. with_categories x m.more) n.is;
      front = front_on s.categories n.more m.more n.front on;
      first = kept n.more m.more j a on n.spells;
      second = m.spells;
    }

pub chain_added : (s : Seen) (weight : ℕ) (a b : List ℕ) (t : Seen) → adding_chain s weight a b ≡ Ok t → ChainAdded s weight a b t
chain_added s weight a b t h =
    let one = step (heading s a) _ t h in
    let next = step (naming First one.x.1 b) _ t one.next in
    let w = two s one.x.1 next.x.1 a b one.x.0 next.x.0 (head_named s a one.x one.is).category (category_named First one.x.1 b next.x next.is) in
    let rule : ChainRule = record { category = one.x.0; part = next.x.0; weight = weight } in
    subst (ChainAdded s weight a b) (put_added same_chains (λ r. r.category == r.part) next.x.1.chains rule (with_chains next.x.1) t next.next) (rw w.is (record { rule = rule; has = record { number = refl; limit = refl; top = refl; lexical = refl; chains = refl; binaries = refl; categories = w.front; words = whole s.words }; weighs = refl; category = w.first; part = w.second }))

pub binary_added : (s : Seen) (weight : ℕ) (a b c : List ℕ) (t : Seen) → adding_binary s weight a b c ≡ Ok t → BinaryAdded s weight a b c t
binary_added s weight a b c t h =
    let one = step (heading s a) _ t h in
    let next = step (naming First one.x.1 b) _ t one.next in
    let last = step (naming Second next.x.1 c) _ t next.next in
    let v = two s one.x.1 next.x.1 a b one.x.0 next.x.0 (head_named s a one.x one.is).category (category_named First one.x.1 b next.x next.is) in
    let n = category_named Second next.x.1 c last.x last.is in
    let is : next.x.1.categories ≡ v.more = ap (λ x. x.categories) v.is in
    let on : take (length v.more) n.more ≡ v.more = subst (λ x. take (length x) n.more ≡ x) is n.front in
    let all : last.x.1 ≡ with_categories s n.more = n.is ∙ ap (λ x. with_categories x n.more) v.is in
    let rule : BinaryRule = record { category = one.x.0; left = next.x.0; right = last.x.0; weight = weight } in
    subst (BinaryAdded s weight a b c) (put_added same_binaries (λ _. false) last.x.1.binaries rule (with_binaries last.x.1) t last.next) (rw all (record {
      rule = rule;
      has = record { number = refl; limit = refl; top = refl; lexical = refl; chains = refl; binaries = refl; categories = front_on s.categories v.more n.more v.front on; words = whole s.words };
      weighs = refl;
      category = kept v.more n.more one.x.0 a on v.first;
      left = kept v.more n.more next.x.0 b on v.second;
      right = n.spells;
    }))

pub lexical_added : (s : Seen) (weight : ℕ) (a w : List ℕ) (t : Seen) → adding_lexical s weight a w ≡ Ok t → LexicalAdded s weight a w t
lexical_added s weight a w t h =
    let one = step (heading s a) _ t h in
    let next = step (wording one.x.1 w) _ t one.next in
    let n = (head_named s a one.x one.is).category in
    let m = word_named one.x.1 w next.x next.is in
    let all : next.x.1 ≡ with_words (with_categories s n.more) m.more = m.is ∙ ap (λ x. with_words x m.more) n.is in
    let front : take (length s.words) m.more ≡ s.words = subst (λ x. take (length x) m.more ≡ x) (ap (λ x. x.words) n.is) m.front in
    let rule : WordRule = record { category = one.x.0; word = next.x.0; weight = weight } in
    subst (LexicalAdded s weight a w) (put_added same_lexical (λ _. false) next.x.1.lexical rule (with_lexical next.x.1) t next.next) (rw all (record {
      rule = rule;
      has = record { number = refl; limit = refl; top = refl; lexical = refl; chains = refl; binaries = refl; categories = n.front; words = front };
      weighs = refl;
      category = n.spells;
      word = m.spells;
    }))
