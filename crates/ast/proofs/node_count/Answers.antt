use Rattle.ast.specs.Image.{nodes}
use Rattle.ast.proofs.node_count.Goals as goal

pub returns : goal.returns
unfolding nodes
returns c = cc
