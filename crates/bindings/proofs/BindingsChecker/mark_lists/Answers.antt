use mathlib.Core.Path.{sym, ap, subst, ◌∙◌}
use Prim.Native.Nat.{◌+◌}
use native.Mathlib.Omega.{arith}
use borrow.Author.Tests.{eqb-false}
use Rattle.ast.proofs.Accepted.{sized, within}
use Rattle.bindings.specs.Errors.{repeated_in}
use Rattle.bindings.specs.Promises.{marked, Earlier}
use Rattle.bindings.proofs.Marking.{to_start, to-next, no-list, none-earlier}
use Rattle.bindings.proofs.BindingsChecker.mark_lists.Goals.{then-is_kind, else-is_kind}
use Rattle.bindings.proofs.BindingsChecker.mark_lists.Goals as goal

pub loop-m-init : goal.loop-m-init
loop-m-init c = (to_start _ _, none-earlier c.new-stamps.ensures)

pub invariant_of-sized : goal.invariant_of-sized
invariant_of-sized c = record { within = within _ (sized _ c.args.self.now.accepted) c.sizes_of.ensures }

pub loop-m-preserved : goal.loop-m-preserved
loop-m-preserved c =
    elim c.if-is_kind.branch [
      | then-is_kind w ↦ (
        w.marks-is ∙ w.mark_list.ensures.marks ∙ ap (marked (repeated_in _ _)) c.loop-m.invariant.0 ∙ to-next _ _ _,
        subst (Earlier (c.loop-m.m + 1)) (sym w.stamps-is) w.mark_list.ensures.stamps,
      )
      | else-is_kind w ↦ (
        w.marks-is ∙ no-list _ _ _ (eqb-false _ _ (sym c.is_kind.ensures ∙ w.if-is_kind.false)) ∙ ap (marked (repeated_in _ _)) c.loop-m.invariant.0 ∙ to-next _ _ _,
        subst (Earlier (c.loop-m.m + 1)) (sym w.stamps-is) (λ x. let z = c.loop-m.invariant.1 x in omega arith),
      )
    ]
