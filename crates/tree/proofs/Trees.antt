-- A tree from a way and the trees of its parts.
use Rattle.std.proofs.Common.{◌≡◌, ℕ, ◌+◌, ◌-◌, ◌*◌, ◌<◌, ◌≤◌, List, [], ◌∷◌, ◌++◌, length, get_or, take, drop, set, Some, Option, sym, refl, ap, ◌∙◌, subst, append_assoc, add-mul, one-mul, arith, length-append, length-drop}
use Rattle.std.specs.List.{between}
use Rattle.std.proofs.lemmas.List.{get_or_default, append-nil, take_at, drop_at, drop-drop}
use Rattle.std.proofs.Math.ListN.{drop_of_length-le}
use Rattle.std.proofs.lemmas.Slice.{between_to_end}
use borrow.Rule.Slice.PartMut.{put_mid}
use Rattle.derivation.specs.Scale.{Scale}
use Rattle.derivation.specs.Grammar.{Grammar}
use Rattle.derivation.specs.Named.{At}
use Rattle.derivation.specs.Derivation.{Derivation, cost, word, chain, binary}
use Rattle.derivation.specs.Table.{Table}
use Rattle.derivation.proofs.Reading.{some_same, at_read}
use Rattle.tree.specs.declared.node.Node.{Node}
use Rattle.tree.specs.declared.node.Kind.TheVariants as kind
use Rattle.tree.specs.declared.ways.Step.TheVariants.{Word, Chain, Binary}
use Rattle.tree.specs.Preorder.{node, preorder, Along}
use Rattle.tree.specs.Ways.{no_word, no_chain, no_binary, rank, Way}
use Rattle.tree.specs.Wrote.{Wrote, WroteRanked}
use Rattle.tree.specs.Extracted.{Extracted}

set_first : (nodes : List Node) (n : Node) → 0 < length nodes → set nodes 0 n ≡ (n ∷ []) ++ drop 1 nodes
set_first [] n some = absurd (omega arith)
set_first (m ∷ nodes) n some = refl

-- the row with another part from the place i on
abbrev pub with_part : ℕ → List Node → List Node → List Node
with_part i row part = put_mid i (length row - i) row part

-- what stands in the row once xs is written into that part
after_part : (row front rest xs part : List Node) (i c : ℕ) → row ≡ front ++ rest → length front ≡ i → part ≡ xs ++ drop c (between i (length row) row) → with_part i row part ≡ (front ++ xs) ++ drop c rest
after_part row front rest xs part i c is long written =
    let begins : take i row ≡ front = ap (take i) is ∙ take_at front rest i long in
    let ends : drop i row ≡ rest = ap (drop i) is ∙ drop_at front rest i long in
    let inner : between i (length row) row ≡ rest = between_to_end row i (length row) (omega arith) ∙ ends in
    let none : drop (length row - i) (drop i row) ≡ [] = drop_of_length-le (drop i row) (omega (arith, length-drop i row)) in
    rw (begins, none, append-nil, written, inner) (sym (append_assoc front xs (drop c rest)))

along_map : {P Q : ℕ → Type 0} {g : Grammar} {ws : List ℕ} {A b e : ℕ} → ((X : ℕ) → P X → Q X) → (d : Derivation g ws A b e) → Along P d → Along Q d
along_map f (word r at here) h = f r.category h
along_map f (chain r at d) h = (f r.category h.0, along_map f d h.1)
along_map f (binary r at d f') h = f r.category h

-- the words of the two parts, and the node above them
pub span_sum : (b m e kinds : ℕ) → b ≤ m → m < e → (e - b) * kinds ≡ (m - b) * kinds + (e - (m + 1)) * kinds + kinds
span_sum b m e kinds low high =
    let z : e - b ≡ (m - b) + (e - (m + 1)) + 1 = omega arith in
    rw z (omega (arith, add-mul ((m - b) + (e - (m + 1))) 1 kinds, add-mul (m - b) (e - (m + 1)) kinds, one-mul kinds))

module _ {Cost : Type 0} {s : Scale Cost} {g : Grammar} {ws : List ℕ} {v : Table Cost} where
  pub wrote_word : (ranks : List (Option ℕ)) (a b e top k : ℕ) (before : List Node) → Way s g ws v ranks top b e a (Word k) → 1 ≤ b → e ≤ length ws → rank ranks a ≡ Some top → 1 ≤ top → 0 < length before
      → WroteRanked s g ws v ranks a b e 1 before (set before 0 (node a b e kind.Word k))
  wrote_word ranks a b e top k before w first last ranked some room =
      let r = get_or g.lexical k no_word in
      let (one, (inside, makes, of)) = w.gives in
      let back : b - 1 + 1 ≡ b = omega arith in
      let here : At ws (b - 1) r.word = record { inside = omega arith; is = get_or_default ws (b - 1) r.word 0 (omega arith) ∙ sym of.word } in
      let F : ℕ → ℕ → ℕ → Type 0 = λ A B E. rank ranks A ≡ Some top → v A B E ≡ Some w.cost → WroteRanked s g ws v ranks A B E 1 before (set before 0 (node A B E kind.Word k)) in
      let base : F r.category (b - 1 + 1) (b - 1 + 1) = λ ranked held. record {
        wrote = record {
          tree = word r (at_read g.lexical k no_word inside) here;
          costs = held ∙ ap Some (sym of.costs);
          nodes = set_first before _ room;
          all = refl;
          straight = tt;
        };
        top = top;
        ranked = ranked;
        short = omega arith;
        low = (top, ranked, omega arith);
      } in
      subst (λ E. F a b E) one (subst (λ B. F a B B) back (subst (λ A. F A (b - 1 + 1) (b - 1 + 1)) makes base)) ranked w.held

  pub wrote_chain : (ranks : List (Option ℕ)) (a b e top k part count : ℕ) (before row after : List Node) → Way s g ws v ranks top b e a (Chain k) → rank ranks a ≡ Some top → row ≡ set before 0 (node a b e kind.Chain k) → 0 < length before → part ≡ (get_or g.chains k no_chain).part
      → WroteRanked s g ws v ranks part b e count (between 1 (length row) row) after
      → WroteRanked s g ws v ranks a b e (1 + count) before (with_part 1 row after)
  wrote_chain ranks a b e top k part count before row after w ranked row-is some is-part did =
      let r = get_or g.chains k no_chain in
      let (inside, makes, of) = w.gives in
      let F : ℕ → Type 0 = λ A. rank ranks A ≡ Some top → v A b e ≡ Some w.cost → row ≡ set before 0 (node A b e kind.Chain k) → WroteRanked s g ws v ranks A b e (1 + count) before (with_part 1 row after) in
      let base : F r.category = λ ranked held row-is.
      let d = subst (λ P. WroteRanked s g ws v ranks P b e count (between 1 (length row) row) after) is-part did in
      let tree = d.wrote.tree in
      let lower : d.top < top = let same : d.top ≡ of.level = some_same d.ranked of.ranked in omega (arith, of.lower) in
      record {
        wrote = record {
          tree = chain r (at_read g.chains k no_chain inside) tree;
          costs = held ∙ ap Some (sym (ap (λ y. s.join (s.price r.weight) y) (some_same d.wrote.costs of.has_part) ∙ of.costs));
          nodes = after_part row (node r.category b e kind.Chain k ∷ []) (drop 1 before) (preorder tree) after 1 count (row-is ∙ set_first before _ some) refl d.wrote.nodes ∙ ap (λ l. (node r.category b e kind.Chain k ∷ preorder tree) ++ l) (drop-drop count 1 before);
          all = omega (arith, d.wrote.all);
          straight = (along_map (λ X (q, is, low) same. let z : top ≡ q = some_same ranked (ap (rank ranks) same ∙ is) in omega arith) tree d.low, d.wrote.straight);
        };
        top = top;
        ranked = ranked;
        short = omega (arith, d.short);
        low = ((top, ranked, omega arith), along_map (λ X (q, is, low). (q, is, omega arith)) tree d.low);
      } in
      subst F makes base ranked w.held row-is

  pub wrote_binary : (ranks : List (Option ℕ)) (a b m e top k left right count count' : ℕ) (before row first after : List Node) → Way s g ws v ranks top b e a (Binary k m) → rank ranks a ≡ Some top → 1 ≤ top → row ≡ set before 0 (node a b e kind.Binary k) → 0 < length before → left ≡ (get_or g.binaries k no_binary).left → right ≡ (get_or g.binaries k no_binary).right
      → count ≤ 2 * ((m - b) * g.categories) + g.categories → count' ≤ 2 * ((e - (m + 1)) * g.categories) + g.categories
      → Wrote s g ws v left b m count (between 1 (length row) row) first
      → Wrote s g ws v right (m + 1) e count' (between (1 + count) (length (with_part 1 row first)) (with_part 1 row first)) after
      → WroteRanked s g ws v ranks a b e (1 + count + count') before (with_part (1 + count) (with_part 1 row first) after)
  wrote_binary ranks a b m e top k left right count count' before row first after w ranked some row-is room is-left is-right few few' did did' =
      let r = get_or g.binaries k no_binary in
      let (inside, makes, of) = w.gives in
      let F : ℕ → Type 0 = λ A. rank ranks A ≡ Some top → v A b e ≡ Some w.cost → row ≡ set before 0 (node A b e kind.Binary k) → WroteRanked s g ws v ranks A b e (1 + count + count') before (with_part (1 + count) (with_part 1 row first) after) in
      let base : F r.category = λ ranked held row-is.
      let here = node r.category b e kind.Binary k in
      let d = subst (λ P. Wrote s g ws v P b m count (between 1 (length row) row) first) is-left did in
      let f = subst (λ P. Wrote s g ws v P (m + 1) e count' (between (1 + count) (length (with_part 1 row first)) (with_part 1 row first)) after) is-right did' in
      let xs = preorder d.tree in
      let ys = preorder f.tree in
      let halfway = after_part row (here ∷ []) (drop 1 before) xs first 1 count (row-is ∙ set_first before _ room) refl d.nodes in
      let whole = after_part (with_part 1 row first) (here ∷ xs) (drop count (drop 1 before)) ys after (1 + count) count' halfway (omega (arith, d.all)) f.nodes in
      let beyond : drop count' (drop count (drop 1 before)) ≡ drop (1 + count + count') before = simp drop-drop (ap (λ n. drop n before) (omega arith)) in
      record {
        wrote = record {
          tree = binary r (at_read g.binaries k no_binary inside) d.tree f.tree;
          costs = held ∙ ap Some (sym (ap (λ y. s.join (s.price r.weight) (s.join y (cost s f.tree))) (some_same d.costs of.has_left) ∙ ap (λ y. s.join (s.price r.weight) (s.join of.left y)) (some_same f.costs of.has_right) ∙ of.costs));
          nodes = whole ∙ ap (λ l. (here ∷ (xs ++ ys)) ++ l) beyond;
          all = omega (arith, d.all, f.all, length-append xs ys);
          straight = (d.straight, f.straight);
        };
        top = top;
        ranked = ranked;
        short = omega (arith, span_sum b m e g.categories of.first of.last);
        low = (top, ranked, omega arith);
      } in
      subst F makes base ranked w.held row-is

pub whole_room : (n kinds : ℕ) → 1 ≤ n → (2 * n - 1) * kinds ≡ 2 * ((n - 1) * kinds) + kinds
whole_room n kinds some =
    let two : 2 * n - 1 ≡ (n - 1) + (n - 1) + 1 = omega arith in
    rw two (omega (arith, add-mul ((n - 1) + (n - 1)) 1 kinds, add-mul (n - 1) (n - 1) kinds, one-mul kinds))

-- the tree of the top over all the words
pub extracted : {Cost : Type 0} {s : Scale Cost} {g : Grammar} {ws : List ℕ} {v : Table Cost} (count : ℕ) (before after : List Node) → 1 ≤ length ws → count ≤ 2 * ((length ws - 1) * g.categories) + g.categories → Wrote s g ws v g.top 1 (length ws) count before after → Extracted s g ws v count before after
extracted {g = g} {ws = ws} count before after some few w =
    record {
      tree = w.tree;
      costs = w.costs;
      straight = w.straight;
      nodes = rw w.nodes (take_at (preorder w.tree) (drop count before) count w.all);
      beyond = rw w.nodes (drop_at (preorder w.tree) (drop count before) count w.all);
      few = omega (arith, whole_room (length ws) g.categories some);
    }
