use mathlib.Core.Path.{sym, ap, ◌∙◌}
use native.Mathlib.Omega.{arith}
use Rattle.std.specs.Prelude.{Err}
use Rattle.ast.specs.Answer.{refused}
use Rattle.scopes.specs.Answers.{resolved_answer}
use Rattle.lines.specs.Report.{lines_of, report}
use Rattle.lines.specs.Bytes.{text, line_bytes, report_bytes}
use Rattle.lines.proofs.Calls.{lines-one, lines_more}
use Rattle.lines.proofs.Printer.put_report.Goals as goal

pub returns-in-Ok : goal.returns-in-Ok
unfolding lines_of report text line_bytes report_bytes
returns-in-Ok c = lines_more 114750 (ap (lines_of c.args.image.now) (sym c.in-Ok.ensures.0)) (omega arith) c.put_line.ensures c.put_body.ensures

pub returns-in-Err-Refused : goal.returns-in-Err-Refused
unfolding lines_of report text line_bytes report_bytes
returns-in-Err-Refused c = lines-one 114750 (ap (lines_of c.args.image.now) (sym c.in-Err-Refused.ensures.0 ∙ ap (λ u. resolved_answer (Err u)) c.in-Err-Refused.field-0-is ∙ ap refused (sym c.from.ensures))) (omega arith) c.put_line-in-Err-Refused.ensures

pub returns-in-Err-Twice : goal.returns-in-Err-Twice
unfolding lines_of report text line_bytes report_bytes
returns-in-Err-Twice c = lines-one 114750 (ap (lines_of c.args.image.now) (sym c.in-Err-Twice.ensures.0 ∙ ap (λ u. resolved_answer (Err u)) c.in-Err-Twice.field-0-is)) (omega arith) c.put_line-in-Err-Twice.ensures
