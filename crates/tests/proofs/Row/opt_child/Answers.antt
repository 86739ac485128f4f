use native.Mathlib.Omega.{arith}
use Rattle.tests.proofs.Steps.{handed}
use Rattle.tests.proofs.Fields.{row-out, opt_child-none, opt_child-out, opt_child-read}
use Rattle.tests.proofs.Row.opt_child.Goals as goal
use Rattle.tests.proofs.Row.opt_child.Goals.{in-Some+in_ok-check, in_default}

pub returns-in_err-word : goal.returns-in_err-word
returns-in_err-word c = handed _ _ _ c.from_residual.ensures.1 (row-out _ _ _ _ _ c.in_err-word.ensures.refusal)

pub returns-in_err-check : goal.returns-in_err-check
returns-in_err-check c =
    let s = c.in-Some.ensures in
    handed _ _ _ c.from_residual-in_err-check.ensures.1 (opt_child-out _ _ _ _ c.in_ok-word.ensures.went.0 c.in_ok-word.ensures.refusal _ _ _ (omega arith) c.in_err-check.ensures.refusal)

pub returns : goal.returns
returns c =
    let r = c.in_ok-word.ensures in
    let n = c.next.ensures in
    elim c.match-checked_sub.branch [
      | in-Some+in_ok-check w ↦
          let s = w.in-Some.ensures in
          rw w.claims-is (opt_child-read _ _ _ _ r.went.0 r.refusal _ n.image n.node n.place _ _ _ _ (omega arith) w.in_ok-check.ensures.refusal w.in_ok-check.ensures.went)
      | in_default w ↦
          let s = rw w.in_default.is at c.checked_sub.ensures in
          rw w.claims-is (opt_child-none _ _ _ _ r.went.0 r.refusal _ n.image n.node n.place _ (omega (arith, s)))
    ]
