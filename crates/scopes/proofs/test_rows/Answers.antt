use mathlib.Core.Path.{◌∙◌}
use native.Mathlib.Omega.{arith}
use Rattle.error.proofs.Refused.{refusal-some, passed-on}
use Rattle.scopes.proofs.Calls.{rows-refused, rows_short, rows_fit}
use Rattle.scopes.proofs.test_rows.Goals as goal

pub returns-in_err-test_table : goal.returns-in_err-test_table
returns-in_err-test_table c = passed-on _ _ c.from_residual.ensures.1 ∙ rows-refused _ _ _ _ c.in_err-test_table.ensures.refusal (refusal-some _)

pub returns-then-rows-words_for : goal.returns-then-rows-words_for
returns-then-rows-words_for c = rows_short _ _ _ c.in_ok-test_table.ensures.refusal (let w = c.words_for.ensures in let n = c.node_count.ensures in omega arith)

pub returns : goal.returns
returns c = rows_fit _ _ _ c.in_ok-test_table.ensures.refusal (let w = c.words_for.ensures in let n = c.node_count.ensures in omega arith)
