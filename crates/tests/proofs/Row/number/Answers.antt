use mathlib.Core.Path.{sym}
use native.Mathlib.Omega.{arith}
use borrow.Author.Tests.{lt-ltb, le-ltb}
use Rattle.ast.proofs.Scans.{need-in, need-out}
use Rattle.tests.proofs.Steps.{handed, passes, refuses, skips, stops}
use Rattle.tests.proofs.Row.number.Goals as goal

pub returns-in_err-number : goal.returns-in_err-number
returns-in_err-number c = handed _ _ _ c.from_residual.ensures.1 (stops _ _ _ (sym c.in_err-number.ensures.refusal))

pub returns-then-count-number : goal.returns-then-count-number
returns-then-count-number c = let w = c.in_ok-number.ensures.went.0 in skips _ _ (sym c.in_ok-number.ensures.refusal) (refuses _ _ (need-out 8 _ (le-ltb _ _ (omega arith))))

pub returns : goal.returns
returns c = let w = c.in_ok-number.ensures.went.0 in skips _ _ (sym c.in_ok-number.ensures.refusal) (passes _ _ (need-in 8 _ (lt-ltb _ _ (omega arith))) (w, c.in_ok-number.ensures.went.1, omega arith))
