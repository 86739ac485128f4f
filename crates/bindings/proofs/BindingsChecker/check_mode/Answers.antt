use mathlib.Core.Path.{ap}
use Rattle.rows.proofs.Parts.{appends-no}
use Rattle.bindings.specs.Promises.{mode_rows}
use Rattle.bindings.proofs.BindingsChecker.check_mode.Goals as goal

pub returns-in-Plain : goal.returns-in-Plain
returns-in-Plain c = appends-no _ (ap (mode_rows _) c.in-Plain.is)
