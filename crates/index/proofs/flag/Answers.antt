use mathlib.Core.Path.{sym, subst}
use mathlib.Core.Bool.{Bool}
use mathlib.Core.List.{List}
use Rattle.index.proofs.Along.{Climbing, climb-begin, climb-up, climb-end}
use Rattle.index.proofs.flag.Goals as goal

pub loop-at-init : goal.loop-at-init
loop-at-init c =
    subst (λ (flags : List Bool). Climbing c.args.image.now c.args.table.now c.args.scope.0 flags c.args.scope.0) (sym c.requires.0)
    (climb-begin c.args.image.now c.args.table.now c.args.scope.0 c.requires.1)

pub returns-then-at-parent : goal.returns-then-at-parent
returns-then-at-parent c = climb-end _ _ c.loop-at.invariant _ c.parent_of-parent.ensures c.if-at-parent.true

pub loop-at-preserved : goal.loop-at-preserved
loop-at-preserved c = climb-up _ _ c.loop-at.invariant _ c.parent_of-parent.ensures c.if-at-parent.false
