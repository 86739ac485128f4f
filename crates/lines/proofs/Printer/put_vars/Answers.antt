use mathlib.Core.Path.{ap}
use Rattle.scopes.specs.Calls.{RowsOutcome}
use Rattle.lines.specs.Report.{var}
use Rattle.lines.specs.Bytes.{text}
use Rattle.lines.proofs.Calls.{lines_none, no-rows, var-lines}
use Rattle.lines.proofs.Printer.put_vars.Goals as goal

pub returns-in-Ok : goal.returns-in-Ok
unfolding text
returns-in-Ok c = var-lines _ c.in-Ok.ensures c.occurrences.auto.rows c.node_count-nodes.ensures c.put_rows.ensures

pub returns-in_default : goal.returns-in_default
returns-in_default c = lines_none 57344 _ (no-rows var _ _ _ (ap (λ (o : RowsOutcome). o.answer) c.in_default.ensures))
