use native.Mathlib.Omega.{arith}
use Rattle.ast.proofs.Words.{word_in}
use Rattle.ast.proofs.word_in.Goals as goal

pub returns : goal.returns
returns c = let a = c.args in omega (arith, word_in a.image.now a.offset (omega arith))
