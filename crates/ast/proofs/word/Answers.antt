use native.Mathlib.Omega.{arith}
use mathlib.Core.Path.{sym}
use Rattle.ast.proofs.Words.{word_out}
use Rattle.ast.proofs.word.Goals as goal

pub returns-then-n-lt4 : goal.returns-then-n-lt4
returns-then-n-lt4 c = sym (word_out _ _ (omega arith))
