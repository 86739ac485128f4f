use Rattle.lines.specs.Report.{body_lines, error_lines, var_lines}
use Rattle.lines.proofs.Calls.{lines_next}
use Rattle.lines.proofs.Printer.put_body.Goals as goal

pub returns : goal.returns
unfolding body_lines
returns c = lines_next (error_lines c.args.image.now) _ c.put_errors.ensures (lines_next (var_lines c.args.image.now) _ c.put_vars.ensures c.put_end.ensures)
