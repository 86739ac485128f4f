use mathlib.Core.Path.{refl, sym}
use Rattle.tests.proofs.Steps.{handed}
use Rattle.tests.proofs.Fields.{cases-out, case-none, case-in}
use Rattle.tests.proofs.Entries.{the_bare, not_bare, at-case}
use Rattle.tests.proofs.Row.cases.Goals as goal

pub returns-in_err-case : goal.returns-in_err-case
returns-in_err-case c = handed _ _ _ c.from_residual.ensures.1 (cases-out _ _ _ _ _ c.in_err-case.ensures.refusal _ (sym c.requires.long))

pub returns-then-eq : goal.returns-then-eq
returns-then-eq c =
    let h = c.in_ok-case.ensures in
    let b = the_bare _ _ c.if-eq.ensures in
    case-none _ _ _ _ _ h.refusal c.next.ensures.image c.next.ensures.node c.next.ensures.place _ (sym c.requires.long) (at-case _ _ _ h.went.0 (c.requires.childless _ h.went.2 b))

pub returns : goal.returns
returns c =
    let h = c.in_ok-case.ensures in
    let b = not_bare _ _ c.if-eq.ensures in
    case-in _ _ _ _ c.next-2.result h.refusal c.next-2.ensures.image c.next-2.ensures.node c.next-2.ensures.place _ _ _ (sym c.requires.long) (at-case _ _ _ h.went.0 refl) (c.requires.others _ h.went.2 b) c.child.ensures
