use Rattle.lines.proofs.RowLines.{LinesLeft}
use Rattle.lines.proofs.Printer.put_rows.Given as goal

abbrev pub invariant-loop-left : goal.invariant-loop-left
invariant-loop-left l = LinesLeft l.word l.rows l.left-iterator l.initial.self l.self
