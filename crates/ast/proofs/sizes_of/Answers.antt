use Rattle.ast.specs.Image.{nodes}
use Rattle.ast.specs.Image as image
use Rattle.ast.proofs.sizes_of.Goals as goal

pub returns : goal.returns
unfolding nodes image.operands image.names image.bytes
returns c = record { nodes_are = c.word.ensures; operands_are = c.word-2.ensures; names_are = c.word-3.ensures; bytes_are = c.word-4.ensures }
