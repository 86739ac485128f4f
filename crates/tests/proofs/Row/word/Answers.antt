use native.Mathlib.Omega.{arith}
use Rattle.tests.proofs.Steps.{passes, refuses}
use Rattle.tests.proofs.Fields.{in-row, out-row}
use Rattle.tests.proofs.Row.word.Goals as goal

pub returns-then-self : goal.returns-then-self
returns-then-self c = let e = c.args.self.image.now.within.head.operands_are in refuses _ _ (out-row _ _ (omega arith))

pub returns : goal.returns
returns c = let e = c.args.self.image.now.within.head.operands_are in passes _ _ (in-row _ _ (omega arith)) (c.op_at.ensures, omega arith)
