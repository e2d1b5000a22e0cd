use Rattle.std.proofs.Common.{◌≡◌, Bool, true, false, List, [], ◌∷◌, sym, inl, inr, arith, rules, tests}
use Rattle.std.specs.List.{IsAllAdjacentAnswer}
use Rattle.std.proofs.lemmas.Bool.{cases_Bool}
use Rattle.std.proofs.lemmas.List.Sorted.{answers_always}
use Rattle.derivation.specs.Scale.{Scale}
use Rattle.derivation.proofs.Laws.{not_both}
use Rattle.session.specs.Request.{rises}
use Rattle.session.proofs.Ladders.{pairs_rise, rise_pairs}
use Rattle.session.proofs.request.rising.Goals as goal

-- the test answers whether each two neighbours rise
rises_answer : {Cost : Type 0} (s : Scale Cost) (ladder : List Cost) (r : Bool) → IsAllAdjacentAnswer (λ low high b. b ≡ s.above high low) ladder r → r ≡ rises s ladder
rises_answer s ladder true each = sym (pairs_rise s ladder (λ k d less. sym (each k d less)))
rises_answer s [] false (k, less, fails) = absurd (omega arith)
rises_answer s (low ∷ ladder) false (k, less, fails) =
    elim (cases_Bool (rises s (low ∷ ladder))) [
      | inl t ↦ absurd (not_both (rise_pairs s (low ∷ ladder) t k low less) (sym (fails low)))
      | inr f ↦ sym f
    ]

pub returns : goal.returns
returns g c = rises_answer g.S.Scale.scale c.args.ladder.now c.is_sorted_by.result (c.is_sorted_by.ensures.cases (λ low high. g.S.Scale.scale.above high low) (answers_always _ _ _ (λ f a r f' did. search (rules, tests))))
