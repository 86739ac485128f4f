use Rattle.ast.specs.Image.{word}
use mathlib.Core.Path.{ap, ◌∙◌}
use native.Mathlib.Omega.{arith}
use Rattle.ast.specs.Image as image
use Rattle.names.proofs.name_end.Goals as goal

pub returns : goal.returns
unfolding image.name_end
returns c = c.word_in.ensures ∙ ap (word _) (omega arith)
