-- The number of a name is that of a name spelled so, if there is one.
use Rattle.std.proofs.Common.{◌≡◌, ℕ, ◌<◌, ◌≤◌, not, ltb, List, [], length, get_or, Some, None, Option, bytes_eq, sym, refl, ap, ◌∙◌, inl, inr, arith}
use Rattle.std.proofs.lemmas.Bool.{cases_Bool, false≢true, ltb-false, lt-ltb}
use Rattle.std.proofs.lemmas.List.Quantifiers.{position-Some}
use Rattle.std.proofs.lemmas.List.Sums.{prefix_len_passes}
use Rattle.std.proofs.lemmas.Slice.Eq.{bytes_eq-Decides}
use Rattle.grammar.specs.Listed.{number_of, lookup}
use Rattle.grammar.specs.Moving.{Spelled}

pub spelled : (names : List (List ℕ)) (name : List ℕ) (found : Option ℕ) → lookup names name ≡ found → Spelled names name found
spelled names name (Some k) h =
    let p = position-Some (λ other. bytes_eq other name) names k [] h in
    (p.0, (bytes_eq-Decides (get_or names k []) name).0 p.1)
spelled names name None h = λ k l e. elim (cases_Bool (ltb (number_of names name) (length names))) [
  | inl t ↦ let z : ◌≡◌ {A = Option ℕ} (Some (number_of names name)) None = rw t at h in absurd cc
  | inr t ↦
      let past : length names ≤ number_of names name = ltb-false _ _ t in
      let other = prefix_len_passes (λ o. not (bytes_eq o name)) names k [] (omega arith) in
      absurd (false≢true (ap not (sym ((bytes_eq-Decides (get_or names k []) name).1 e)) ∙ other))
]

pub number_found : (names : List (List ℕ)) (name : List ℕ) → number_of names name < length names → get_or names (number_of names name) [] ≡ name
number_found names name l = (spelled names name (Some (number_of names name)) (rw (lt-ltb (number_of names name) (length names) l) refl)).1
