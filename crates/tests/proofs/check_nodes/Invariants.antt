use Rattle.ast.specs.Times.{counts}
use Rattle.tests.proofs.Whole.{NodesLeft}
use Rattle.tests.proofs.check_nodes.Given as goal

abbrev pub invariant-loop-n : goal.invariant-loop-n
invariant-loop-n l = NodesLeft l.image.image.now (counts l.initial.claims) l.n l.end (counts l.claims)
