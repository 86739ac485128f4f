use mathlib.Core.Path.{◌≡◌}
use native.Mathlib.Omega.{arith}
use Rattle.tests.proofs.Steps.{handed}
use Rattle.tests.proofs.Fields.{row-out, list-in, items-stop, items-next, items-end}
use Rattle.tests.proofs.Row.list.Goals as goal

pub returns-in_err-count : goal.returns-in_err-count
returns-in_err-count c = handed _ _ _ c.from_residual.ensures.1 (row-out _ _ _ _ _ c.in_err-count.ensures.refusal)

pub returns-in_err-row : goal.returns-in_err-row
returns-in_err-row c =
    handed _ _ _ c.from_residual-in_err-row.ensures.1
    (list-in _ _ _ _ c.in_ok-count.ensures.went.0 c.in_ok-count.ensures.refusal _ (items-stop _ _ _ _ _ _ _ _ c.loop-i-test.true _ c.loop-i.invariant c.in_err-row.ensures))

pub loop-i-preserved : goal.loop-i-preserved
loop-i-preserved c = items-next _ _ _ _ _ _ _ _ c.loop-i-test.true _ c.loop-i.invariant c.in_ok-row.ensures

pub returns : goal.returns
returns c =
    let e : c.loop-i.i ≡ c.in_ok-count.count = (let u = c.loop-i.auto.i-end in omega arith) in
    list-in _ _ _ _ c.in_ok-count.ensures.went.0 c.in_ok-count.ensures.refusal _ (items-end _ _ _ _ _ _ _ (rw e at c.loop-i.invariant))
