use mathlib.Core.Path.{sym, ◌∙◌}
use native.Mathlib.Omega.{arith}
use Rattle.ast.proofs.Runs.{run-next, run-stop, run_end}
use Rattle.error.proofs.Refused.{refusal-some, passed-on}
use Rattle.tests.proofs.test_vars.Goals as goal

pub returns-in_err-test_var : goal.returns-in_err-test_var
returns-in_err-test_var c = let e = c.args.image.now.within.head.nodes_are in passed-on _ _ c.from_residual.ensures.1 ∙ (sym (run-stop _ _ _ _ c.loop-n.invariant (omega arith) (sym c.in_err-test_var.ensures) (refusal-some _)))

pub loop-n-preserved : goal.loop-n-preserved
loop-n-preserved c = let e = c.args.image.now.within.head.nodes_are in run-next _ _ _ c.loop-n.invariant (omega arith) (sym c.in_ok-test_var.ensures)

pub returns : goal.returns
returns c = let e = c.args.image.now.within.head.nodes_are in sym (run_end _ _ _ c.loop-n.invariant (omega arith))
