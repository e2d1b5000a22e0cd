use Rattle.std.proofs.Common.{arith, ap, sym, ◌∙◌, vec_items}
use Rattle.std.proofs.lemmas.Result.{on_ok_weaker}
use Rattle.sentences.proofs.Closing.{ceilings, closed}
use Rattle.sentences.proofs.answer_sentences.Goals as goal

pub returns-in-Sum : goal.returns-in-Sum
returns-in-Sum c =
    let weighed = ceilings c.args.preamble.ladder c.new.result c.new.ensures.items ∙ ap vec_items (sym c.unwrap_or-ceilings.ensures) ∙ sym c.deref.ensures.value in
    on_ok_weaker c.serve.result (λ served. closed c.in-Ok.grammar _ _ _ _ _ _ _ _ c.in-Ok.ensures.0 (sym c.unwrap_or.ensures ∙ c.in-Sum.is) weighed (served (omega (arith, c.in-Ok.ensures.1)))) c.serve.ensures.leased

pub returns : goal.returns
returns c =
    let weighed = ceilings c.args.preamble.ladder c.new.result c.new.ensures.items ∙ ap vec_items (sym c.unwrap_or-ceilings.ensures) ∙ sym c.deref-in-Worst.ensures.value in
    on_ok_weaker c.serve-in-Worst.result (λ served. closed c.in-Ok.grammar _ _ _ _ _ _ _ _ c.in-Ok.ensures.0 (sym c.unwrap_or.ensures ∙ c.in-Worst.is) weighed (served (omega (arith, c.in-Ok.ensures.1)))) c.serve-in-Worst.ensures.leased
