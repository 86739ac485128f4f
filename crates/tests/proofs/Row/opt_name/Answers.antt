use Prim.Native.Nat.{◌+◌}
use mathlib.Core.Path.{ap}
use Rattle.tests.proofs.Steps.{handed}
use Rattle.tests.proofs.Fields.{opt_name-out, opt_name-in}
use Rattle.tests.proofs.Row.opt_name.Goals as goal

pub returns-in_err-number : goal.returns-in_err-number
returns-in_err-number c = λ us. handed _ _ _ c.from_residual.ensures.1 (opt_name-out _ _ _ _ _ c.in_err-number.ensures.refusal (ap (λ x. x + 1) c.args.self.image.now.within.head.names_are))

pub returns : goal.returns
returns c = λ us. opt_name-in _ _ _ _ _ c.in_ok-number.ensures.refusal c.next.ensures.image c.next.ensures.node c.next.ensures.place (ap (λ x. x + 1) c.args.self.image.now.within.head.names_are)
