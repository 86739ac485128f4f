use Rattle.tests.proofs.Steps.{handed}
use Rattle.tests.proofs.Fields.{row-out, child-out, child-read}
use Rattle.tests.proofs.Row.child.Goals as goal

pub returns-in_err-word : goal.returns-in_err-word
returns-in_err-word c = handed _ _ _ c.from_residual.ensures.1 (row-out _ _ _ _ _ c.in_err-word.ensures.refusal)

pub returns-in_err-check : goal.returns-in_err-check
returns-in_err-check c = handed _ _ _ c.from_residual-in_err-check.ensures.1 (child-out _ _ _ _ c.in_ok-word.ensures.went.0 c.in_ok-word.ensures.refusal _ _ c.in_err-check.ensures.refusal)

pub returns : goal.returns
returns c = child-read _ _ _ _ c.in_ok-word.ensures.went.0 c.in_ok-word.ensures.refusal _ c.next.ensures.image c.next.ensures.node c.next.ensures.place _ _ _ c.in_ok-check.ensures.refusal c.in_ok-check.ensures.went
