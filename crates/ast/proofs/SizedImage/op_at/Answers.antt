use mathlib.Core.Path.{ap, ◌∙◌}
use native.Mathlib.Omega.{arith}
use Rattle.ast.specs.Image.{word, op_at}
use Rattle.ast.proofs.SizedImage.op_at.Goals as goal

pub returns : goal.returns
unfolding op_at
returns c = let w = c.args.self.now.within.head in c.word_in.ensures ∙ ap (word _) (omega arith)
