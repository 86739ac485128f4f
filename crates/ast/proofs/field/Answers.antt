use mathlib.Core.Path.{sym}
use native.Mathlib.Omega.{arith}
use Rattle.ast.specs.Image.{op_at, field}
use Rattle.ast.proofs.Words.{word_out}
use Rattle.ast.proofs.field.Goals as goal

pub returns-then-j-gt-NOWHERE : goal.returns-then-j-gt-NOWHERE
unfolding field op_at
returns-then-j-gt-NOWHERE c = sym (word_out _ _ (omega arith))

pub returns : goal.returns
unfolding field
returns c = cc
