use mathlib.Core.Path.{ap, ◌∙◌}
use Rattle.error.proofs.Refused.{passed-on, refusal-some}
use Rattle.error.specs.Refusals.{refusal_of}
use Rattle.bindings.proofs.Calls.{errors-refused, errors-passed}
use Rattle.bindings.proofs.test_errors.Goals as goal

pub returns-in_err-test_rows-clause-refusal : goal.returns-in_err-test_rows-clause-refusal
returns-in_err-test_rows-clause-refusal c = passed-on _ _ c.from_residual.ensures.1 ∙ errors-refused _ _ _ _ _ c.in_err-test_rows.ensures (refusal-some _)

pub returns-clause-refusal : goal.returns-clause-refusal
returns-clause-refusal c = ap refusal_of c.try_from.ensures ∙ errors-passed _ _ _ _ c.in_ok-test_rows.ensures
