use mathlib.Core.Path.{◌∙◌}
use native.Mathlib.Omega.{arith}
use Rattle.error.proofs.Refused.{refusal-some, passed-on}
use Rattle.scopes.proofs.Lookups.{table-refused, table_short, table_long}
use Rattle.scopes.proofs.test_table.Goals as goal

pub returns-in_err-accepted-clause-refusal : goal.returns-in_err-accepted-clause-refusal
returns-in_err-accepted-clause-refusal c = passed-on _ _ c.from_residual.ensures.1 ∙ table-refused _ _ _ c.in_err-accepted.ensures.code (refusal-some _)

pub returns-then-table-words_for-clause-refusal : goal.returns-then-table-words_for-clause-refusal
returns-then-table-words_for-clause-refusal c = table_short _ _ c.in_ok-accepted.ensures.code (omega arith)

pub returns-clause-refusal : goal.returns-clause-refusal
returns-clause-refusal c = table_long _ _ c.in_ok-accepted.ensures.code (omega arith)
