use Rattle.ast.specs.Image.{nodes}
use Rattle.ast.proofs.Runs.{RunLeft}
use Rattle.ast.specs.Tests as tests
use Rattle.tests.proofs.test_vars.Given as goal

abbrev pub invariant-loop-n : goal.invariant-loop-n
invariant-loop-n l = RunLeft (tests.test_var l.image.image.now) (nodes l.image.image.now) l.n
