use Rattle.std.proofs.Common.{◌∙◌, sym}
use Rattle.lines.proofs.Counted.{behind, nowhere}
use Rattle.lines.proofs.bytes.long_part.Goals as goal

pub returns-in_err-last-clause-value : goal.returns-in_err-last-clause-value
returns-in_err-last-clause-value c = c.from_residual.ensures ∙ nowhere _ (sym c.in_err-last.was ∙ c.seventeenth.ensures.value)

pub overflow_sub-result : goal.overflow_sub-result
overflow_sub-result c = (behind _ _ (sym c.in_ok-last.was ∙ c.seventeenth.ensures.value)).0

pub returns-clause-value : goal.returns-clause-value
returns-clause-value c = (behind _ _ (sym c.in_ok-last.was ∙ c.seventeenth.ensures.value)).1
