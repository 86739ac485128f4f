use mathlib.Core.Path.{◌∙◌}
use native.Mathlib.Omega.{arith}
use Rattle.error.proofs.Refused.{refusal-some, passed-on}
use Rattle.index.proofs.Tests.{index-refused, index-unsound, index-short, index-room}
use Rattle.index.proofs.test_index.Goals as goal

pub returns-in_err-test_table : goal.returns-in_err-test_table
returns-in_err-test_table c = passed-on _ _ c.from_residual.ensures.1 ∙ index-refused _ _ _ _ c.in_err-test_table.ensures.refusal (refusal-some _)

pub returns-in_err-test_sound : goal.returns-in_err-test_sound
returns-in_err-test_sound c =
    passed-on _ _ c.from_residual-in_err-test_sound.ensures.1 ∙ index-unsound _ _ _ c.in_ok-test_table.ensures.refusal _ c.in_err-test_sound.ensures (refusal-some _)

pub returns-then-index-words_for : goal.returns-then-index-words_for
returns-then-index-words_for c = index-short _ _ _ c.in_ok-test_table.ensures.refusal c.in_ok-test_sound.ensures (omega arith)

pub returns : goal.returns
returns c = index-room _ _ _ c.in_ok-test_table.ensures.refusal c.in_ok-test_sound.ensures (omega arith)
