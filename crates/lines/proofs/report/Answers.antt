use native.Mathlib.Omega.{arith}
use Rattle.lines.proofs.Calls.{printed}
use Rattle.lines.proofs.report.Goals as goal

pub returns : goal.returns
returns c = printed _ _ _ _ (omega arith) c.put_report.ensures.out c.put_report.ensures.short
