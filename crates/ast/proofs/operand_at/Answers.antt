use mathlib.Core.Path.{sym}
use native.Mathlib.Omega.{arith}
use Rattle.ast.specs.Image.{op_at}
use Rattle.ast.proofs.Words.{word_out}
use Rattle.ast.proofs.operand_at.Goals as goal

pub returns-then-at-gt-NOWHERE : goal.returns-then-at-gt-NOWHERE
unfolding op_at
returns-then-at-gt-NOWHERE c = sym (word_out _ _ (omega arith))

pub returns : goal.returns
unfolding op_at
returns c = cc
