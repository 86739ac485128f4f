use Rattle.ast.specs.Image.{word}
use mathlib.Core.Path.{ap, ◌∙◌}
use native.Mathlib.Omega.{arith}
use Rattle.ast.specs.Image.{start_at}
use Rattle.ast.proofs.row_start.Goals as goal

pub returns : goal.returns
unfolding start_at
returns c = c.word.ensures ∙ ap (word _) (omega arith)
