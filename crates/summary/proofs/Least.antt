-- What is least, and how it is shown.
use Rattle.std.proofs.Common.{◌≡◌, ℕ, Some, None, Option, refl, ◌∙◌, subst}
use Rattle.derivation.specs.Scale.{Scale, Lawful, Within}
use Rattle.derivation.specs.Grammar.{Grammar}
use Rattle.derivation.specs.Derivation.{cost}
use Rattle.derivation.specs.Bounds.{Filled}
use Rattle.derivation.proofs.Pruning.{mono}
use Rattle.derivation.proofs.Reading.{none_some, some_same}
use Rattle.summary.specs.Least.{Least, Over, LeastInside}
use Rattle.summary.proofs.Trees.{Tree, worth, tree_of, whole_of}

-- joins keep the order, on both sides
pub mono₂ : {Cost : Type 0} {s : Scale Cost} (lawful : Lawful s) (a b c d : Cost) → Within s a b → Within s c d → Within s (s.join a c) (s.join b d)
mono₂ {s = s} lawful a b c d h k = lawful.trans _ (s.join b c) _ (lawful.keeps a b c h) (mono lawful b c d k)

module _ {Cost X : Type 0} (s : Scale Cost) (costs : X → Cost) where
  -- a cost that is had and is above none
  pub least_of : (o : Option Cost) → ((x : Cost) → o ≡ Some x → (d : X) × (costs d ≡ x)) → ((f : X) → Filled o (λ x. Within s x (costs f))) → Least s costs o
  least_of None reached low = λ f. low f
  least_of (Some x) reached low = (reached x refl, low)

  pub least_reached : (o : Option Cost) → Least s costs o → (x : Cost) → o ≡ Some x → (d : X) × (costs d ≡ x)
  least_reached None least x is = absurd (none_some refl is)
  least_reached (Some y) least x is = (least.0.0, least.0.1 ∙ some_same refl is)

  pub least_low : (o : Option Cost) → Least s costs o → (f : X) → Filled o (λ x. Within s x (costs f))
  least_low None least f = least f
  least_low (Some x) least f = least.1 f

-- the least cost by length, in terms of trees
pub inside_tree : {Cost : Type 0} (s : Scale Cost) (g : Grammar) (A n : ℕ) (o : Option Cost) → LeastInside s g A n o → (x : Cost) → o ≡ Some x → (t : Tree g A n) × (worth s t ≡ x)
inside_tree s g A n o least x is =
    let (d, costs) = least_reached s (λ (d : Over g A n). cost s d.made) o least x is in
    let (t, same) = tree_of s d.made n d.long in
    (t, same ∙ costs)

pub inside_low : {Cost : Type 0} (s : Scale Cost) (g : Grammar) (A n : ℕ) (o : Option Cost) → LeastInside s g A n o → (t : Tree g A n) → Filled o (λ x. Within s x (worth s t))
inside_low s g A n o least t =
    let w = whole_of s t in
    let over : Over g A n = record { text = w.text; first = 1; last = n; long = refl; made = w.made } in
    subst (λ c. Filled o (λ x. Within s x c)) w.costs (least_low s (λ (d : Over g A n). cost s d.made) o least over)

pub inside_least : {Cost : Type 0} (s : Scale Cost) (g : Grammar) (A n : ℕ) (o : Option Cost) → ((x : Cost) → o ≡ Some x → (t : Tree g A n) × (worth s t ≡ x)) → ((t : Tree g A n) → Filled o (λ x. Within s x (worth s t))) → LeastInside s g A n o
inside_least s g A n o reached low = least_of s (λ (d : Over g A n). cost s d.made) o
    (λ x is.
    let (t, costs) = reached x is in
    let w = whole_of s t in
    (record { text = w.text; first = 1; last = n; long = refl; made = w.made }, w.costs ∙ costs))
    (λ d.
    let (t, same) = tree_of s d.made n d.long in
    subst (λ c. Filled o (λ x. Within s x c)) same (low t))
