use mathlib.Core.Path.{sym, ◌∙◌}
use Rattle.error.proofs.Refused.{refusal-some, passed-on}
use Rattle.tests.proofs.Whole.{nodes-halt, nodes-passed}
use Rattle.tests.proofs.test_nodes.Goals as goal

pub returns-in_err-end : goal.returns-in_err-end
returns-in_err-end c = passed-on _ _ c.from_residual.ensures.1 ∙ (sym (nodes-halt _ _ (sym c.in_err-end.ensures.refusal) (refusal-some _)))

pub returns : goal.returns
returns c = c.test_tree.ensures ∙ sym (nodes-passed _ (sym c.in_ok-end.ensures.refusal))
