use Rattle.tests.proofs.Steps.{handed}
use Rattle.tests.proofs.Fields.{name-out, name_in}
use Rattle.tests.proofs.Row.name.Goals as goal

pub returns-in_err-number : goal.returns-in_err-number
returns-in_err-number c = λ us. handed _ _ _ c.from_residual.ensures.1 (name-out _ _ _ _ _ c.in_err-number.ensures.refusal c.args.self.image.now.within.head.names_are)

pub returns : goal.returns
returns c = λ us. name_in _ _ _ _ _ c.in_ok-number.ensures.refusal c.next.ensures.image c.next.ensures.node c.next.ensures.place c.args.self.image.now.within.head.names_are
