use mathlib.Core.Path.{sym, ◌∙◌}
use native.Mathlib.Omega.{arith}
use Rattle.ast.specs.Rows.{fields_at}
use Rattle.tests.proofs.Steps.{handed}
use Rattle.tests.proofs.Fields.{kind-low}
use Rattle.tests.proofs.Whole.{node-kind, node-outside, both-pass, node-bad, node_in}
use Rattle.tests.proofs.check_node.Goals as goal

pub returns-in_default : goal.returns-in_default
returns-in_default c = let e = c.in_default.ensures in node-kind _ _ (omega arith)

pub returns-then-start_at-end : goal.returns-then-start_at-end
returns-then-start_at-end c =
    let k = kind-low c.in-Ok.kind in
    let e = c.in-Ok.ensures in
    let s = c.kind_at.ensures in
    node-outside _ _ (omega arith) _ _ c.requires.3 c.args.image.now.within.head.operands_are (rw c.start_at.ensures at c.if-start_at-end.true)

pub returns-in_err-fields : goal.returns-in_err-fields
unfolding fields_at
returns-in_err-fields c =
    let k = kind-low c.in-Ok.kind in
    let e = c.in-Ok.ensures in
    let s = c.kind_at.ensures in
    let p = both-pass _ _ _ c.if-start_at-end.false in
    handed _ _ _ c.from_residual.ensures.1
    (node-bad _ _ (omega arith) (sym c.start_at.ensures ∙ p.0 ∙ c.requires.3) _ (rw (sym p.0 ∙ c.start_at.ensures, c.in-Ok.ensures ∙ c.kind_at.ensures) at c.in_err-fields.ensures))

pub returns : goal.returns
unfolding fields_at
returns c =
    let k = kind-low c.in-Ok.kind in
    let e = c.in-Ok.ensures in
    let s = c.kind_at.ensures in
    let p = both-pass _ _ _ c.if-start_at-end.false in
    node_in _ _ (omega arith) (sym c.start_at.ensures ∙ p.0 ∙ c.requires.3) c.in_ok-fields.field-0 (rw (sym p.0 ∙ c.start_at.ensures, c.in-Ok.ensures ∙ c.kind_at.ensures) at c.in_ok-fields.ensures)
