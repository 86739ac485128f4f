use mathlib.Core.Path.{ap, ◌∙◌}
use native.Mathlib.Omega.{arith}
use Rattle.std.specs.Prelude.{Ok}
use Rattle.scopes.specs.Resolve.{Outcome}
use Rattle.occurrences.specs.Answers.{once_answer}
use Rattle.lines.specs.Report.{end_lines}
use Rattle.lines.specs.Bytes.{text, line_bytes}
use Rattle.lines.proofs.Calls.{lines_none, lines-one, no-end}
use Rattle.lines.proofs.Printer.put_end.Goals as goal

pub returns-in-Ok-None : goal.returns-in-Ok-None
unfolding end_lines text line_bytes
returns-in-Ok-None c = lines-one 31 (ap (λ (o : Outcome). end_lines o.answer) c.in-Ok-None.ensures ∙ ap (λ x. end_lines (once_answer (Ok x))) c.in-Ok-None.field-0-is) (omega arith) c.put_line.ensures

pub returns-in-Ok-Some : goal.returns-in-Ok-Some
unfolding end_lines text line_bytes
returns-in-Ok-Some c = lines-one 31 (ap (λ (o : Outcome). end_lines o.answer) c.in-Ok-Some.ensures ∙ ap (λ x. end_lines (once_answer (Ok x))) c.in-Ok-Some.field-0-is) (omega arith) c.put_line-in-Ok-Some.ensures

pub returns-in-Err : goal.returns-in-Err
returns-in-Err c = lines_none 31 _ (no-end _ (ap (λ (o : Outcome). o.answer) c.in-Err.ensures))
