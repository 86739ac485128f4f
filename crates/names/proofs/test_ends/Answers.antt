use mathlib.Core.Path.{sym, ◌∙◌}
use native.Mathlib.Omega.{arith}
use Rattle.names.proofs.Names.{ends-begin, ends_next, ends_first, ends-bad, ends-good}
use Rattle.names.proofs.test_ends.Goals as goal
use Rattle.names.proofs.test_ends.Goals.{then-end-start, else-end-start}

pub loop-i-init : goal.loop-i-init
loop-i-init c = ends-begin _

pub loop-i-preserved : goal.loop-i-preserved
loop-i-preserved c =
    let w = c.args.image.now.within.head in
    elim c.if-end-start.branch [
      | then-end-start b ↦ rw b.rising-is (ends_first _ _ _ _ _ c.loop-i.invariant (omega arith) c.name_end-end.ensures b.if-end-start.true)
      | else-end-start b ↦ rw b.rising-is (ends_next _ _ _ _ _ c.loop-i.invariant (omega arith) c.name_end-end.ensures b.if-end-start.false)
    ]

pub returns-then-start-image : goal.returns-then-start-image
returns-then-start-image c = let w = c.args.image.now.within.head in sym (ends-bad _ _ _ _ c.loop-i.invariant (omega arith) (λ e. c.if-start-image.true (e ∙ sym w.bytes_are)))

pub returns : goal.returns
returns c = let w = c.args.image.now.within.head in sym (ends-good _ _ _ _ c.loop-i.invariant (omega arith) (c.if-start-image.false ∙ w.bytes_are))
