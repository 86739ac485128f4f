use mathlib.Core.Path.{ap, ◌∙◌}
use native.Mathlib.Omega.{arith}
use Rattle.ast.specs.Image.{word, start_at}
use Rattle.ast.proofs.SizedImage.start_at.Goals as goal

pub returns : goal.returns
unfolding start_at
returns c = let w = c.args.self.now.within.head in c.word_in.ensures ∙ ap (word _) (omega arith)
