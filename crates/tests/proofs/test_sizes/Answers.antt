use mathlib.Core.Path.{sym}
use native.Mathlib.Omega.{arith}
use Rattle.tests.proofs.Whole.{sizes-1, sizes-2, sizes-3, sizes-4, sizes-5, sizes-6, sizes-7, sizes-0}
use Rattle.tests.proofs.test_sizes.Goals as goal
use Rattle.tests.proofs.test_sizes.Goals.{then-sizes-eq0-via-then-sizes-eq0, then-sizes-eq0-via-else-sizes-eq0+then-sizes-gt2048, then-sizes-eq0-via-else-sizes-eq0+else-sizes-gt2048+then-sizes-gt8192, then-sizes-eq0-via-else-sizes-eq0+else-sizes-gt2048+else-sizes-gt8192+then-sizes-gt1024, then-sizes-eq0-via-else-sizes-eq0+else-sizes-gt2048+else-sizes-gt8192+else-sizes-gt1024+then-sizes-gt8192-2}

pub returns-then-n-lt16-clause-code : goal.returns-then-n-lt16-clause-code
returns-then-n-lt16-clause-code c = sym (sizes-1 _ (omega arith))

pub returns-then-sizes-eq0-clause-code : goal.returns-then-sizes-eq0-clause-code
returns-then-sizes-eq0-clause-code c =
    sym (elim c.then-sizes-eq0.branch [
      | then-sizes-eq0-via-then-sizes-eq0 w ↦ sizes-2 _ (omega arith) (omega arith)
      | then-sizes-eq0-via-else-sizes-eq0+then-sizes-gt2048 w ↦ sizes-3 _ (omega arith) (omega arith) (omega arith)
      | then-sizes-eq0-via-else-sizes-eq0+else-sizes-gt2048+then-sizes-gt8192 w ↦ sizes-4 _ (omega arith) (omega arith) (omega arith) (omega arith)
      | then-sizes-eq0-via-else-sizes-eq0+else-sizes-gt2048+else-sizes-gt8192+then-sizes-gt1024 w ↦ sizes-5 _ (omega arith) (omega arith) (omega arith) (omega arith) (omega arith)
      | then-sizes-eq0-via-else-sizes-eq0+else-sizes-gt2048+else-sizes-gt8192+else-sizes-gt1024+then-sizes-gt8192-2 w ↦ sizes-6 _ (omega arith) (omega arith) (omega arith) (omega arith) (omega arith) (omega arith)
    ])

pub returns-then-n-sizes-clause-code : goal.returns-then-n-sizes-clause-code
returns-then-n-sizes-clause-code c = sym (sizes-7 _ (omega arith) (omega arith) (omega arith) (omega arith) (omega arith) (omega arith) (omega arith))

pub returns-clause-code : goal.returns-clause-code
returns-clause-code c = sym (sizes-0 _ (omega arith) (omega arith) (omega arith) (omega arith) (omega arith) (omega arith) (omega arith))
