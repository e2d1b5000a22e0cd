use Rattle.std.proofs.Common.{sym, ◌∙◌, rules}
use Rattle.std.proofs.lemmas.Iterator.{YieldsList-from_slice}
use Rattle.lines.proofs.Onward.{begins, tried}
use Rattle.lines.proofs.number.number_of.Goals as goal

pub returns : goal.returns
returns c =
    tried _ _ _ (λ p n x r q k. search rules) _ 0 c.try_fold.result _ c.try_fold.ensures.ran (YieldsList-from_slice c.args.part.now cc)
    ∙ begins c.args.part.now (sym c.is_padded.ensures ∙ c.if-is_padded.false)
