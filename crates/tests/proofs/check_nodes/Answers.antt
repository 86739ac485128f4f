use mathlib.Core.Path.{◌≡◌}
use Rattle.ast.specs.Image.{nodes}
use native.Mathlib.Omega.{arith}
use Rattle.tests.proofs.Steps.{handed}
use Rattle.tests.proofs.Whole.{nodes-begin, nodes-stop, nodes-next, nodes-end}
use Rattle.tests.proofs.check_nodes.Goals as goal

pub loop-n-init : goal.loop-n-init
loop-n-init c = nodes-begin _ _

pub returns-in_err-end : goal.returns-in_err-end
returns-in_err-end c = let e = c.args.image.now.within.head.nodes_are in handed _ _ _ c.from_residual.ensures.1 (nodes-stop _ _ _ _ c.loop-n.invariant (omega arith) _ c.in_err-end.ensures)

pub loop-n-preserved : goal.loop-n-preserved
loop-n-preserved c = let e = c.args.image.now.within.head.nodes_are in nodes-next _ _ _ _ c.loop-n.invariant (omega arith) _ c.in_ok-end.ensures

pub returns : goal.returns
returns c = let e : c.loop-n.n ≡ nodes c.args.image.now.image.now = (let h = c.args.image.now.within.head.nodes_are in let u = c.loop-n.auto.n-end in omega arith) in nodes-end _ _ _ (rw e at c.loop-n.invariant)
