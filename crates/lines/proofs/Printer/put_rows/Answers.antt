use mathlib.Core.Path.{ap, ◌∙◌}
use Rattle.rows.specs.Rows.{pairs_left}
use Rattle.lines.proofs.RowLines.{lines-start, lines-next, lines-end}
use Rattle.lines.proofs.Printer.put_rows.Goals as goal

pub loop-left-init : goal.loop-left-init
loop-left-init c = lines-start c.args.word.now c.args.rows _ (ap pairs_left c.into_iter-left-iterator.ensures.into_iter_gives ∙ c.pairs-left-items.ensures)

pub loop-left-preserved : goal.loop-left-preserved
loop-left-preserved c = lines-next c.args.word.now c.args.rows c.requires c.loop-left.invariant c.in-Some.ensures.steps c.put_line.ensures

pub returns : goal.returns
returns c = lines-end c.args.word.now c.args.rows c.loop-left.invariant c.in-None.ensures.steps.0
