use mathlib.Core.Path.{refl, sym, subst}
use native.Mathlib.Omega.{arith}
use Rattle.ast.proofs.Accepted.{sized}
use Rattle.rows.proofs.Parts.{left-start, left-next, left-room, left_end, appends-no}
use Rattle.rows.specs.Rows.{Appends}
use Rattle.bindings.proofs.Marking.{strict-start, group-next, group-none, strict-end}
use Rattle.bindings.proofs.BindingsChecker.put_marked.Goals.{then-has, else-has}
use Rattle.bindings.proofs.BindingsChecker.put_marked.Goals as goal

pub loop-group-init : goal.loop-group-init
loop-group-init c = left-start _ (strict-start _) c.requires.fits

pub put_group-requires : goal.put_group-requires
put_group-requires c = (record { all = c.requires.all; fits = left-room _ _ c.loop-group.invariant (group-next _ c.loop-group.group) }, c.loop-group-test.true)

pub loop-group-preserved : goal.loop-group-preserved
loop-group-preserved c =
    elim c.if-has.branch [
      | then-has w ↦ left-next c.loop-group.invariant (group-next _ c.loop-group.group) (subst (Appends _ c.loop-group.rows) (sym w.rows-is) w.put_group.ensures)
      | else-has w ↦
          left-next c.loop-group.invariant (group-none _ c.args.self.now.accepted c.requires c.loop-group.group (c.has.ensures w.if-has.false))
          (subst (Appends _ c.loop-group.rows) (sym w.rows-is) (appends-no _ refl))
    ]

pub returns : goal.returns
returns c = left_end c.loop-group.invariant (strict-end _ _ _ (let s = c.loop-group-test.false in let f = (sized _ c.args.self.now.accepted).few_nodes in omega arith))
