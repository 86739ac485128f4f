use Rattle.ast.specs.Image.{word}
use mathlib.Core.Path.{ap, ◌∙◌}
use native.Mathlib.Omega.{arith}
use Rattle.ast.specs.Image.{kind_at}
use Rattle.ast.proofs.kind_at.Goals as goal

pub returns : goal.returns
unfolding kind_at
returns c = c.word.ensures ∙ ap (word _) (omega arith)
