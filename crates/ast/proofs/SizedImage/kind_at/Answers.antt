use Rattle.ast.specs.Image.{kind_at}
use Rattle.ast.proofs.SizedImage.kind_at.Goals as goal

pub returns : goal.returns
unfolding kind_at
returns c = c.word_in.ensures
