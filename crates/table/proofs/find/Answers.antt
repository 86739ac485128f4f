use native.Mathlib.Omega.{arith}
use mathlib.Core.Option.{some}
use mathlib.Core.Path.{sym, ap, ◌∙◌}
use Rattle.table.proofs.Finds.{find-hit, find-miss, find-end}
use Rattle.table.proofs.find.Goals as goal

pub returns-then-row_is : goal.returns-then-row_is
returns-then-row_is c =
    let l = c.loop-j in
    ap some c.symbol_at.ensures ∙ sym (l.invariant.1 ∙ find-hit _ _ _ _ _ _ c.loop-j-test.true (sym c.row_is.ensures ∙ c.if-row_is.true))

pub loop-j-preserved : goal.loop-j-preserved
loop-j-preserved c =
    let l = c.loop-j in
    (omega arith, l.invariant.1 ∙ find-miss _ _ _ _ _ _ c.loop-j-test.true (sym c.row_is.ensures ∙ c.if-row_is.false))

pub returns : goal.returns
returns c = sym (c.loop-j.invariant.1 ∙ find-end _ _ _ _ _ _ c.loop-j-test.false)
