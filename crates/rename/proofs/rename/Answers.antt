use mathlib.Core.Path.{sym, ap, ◌∙◌}
use Prim.Native.Nat.{ℕ}
use native.Mathlib.Omega.{arith}
use Rattle.std.specs.Prelude.{Result}
use Rattle.ast.specs.Answer.{Answer}
use Rattle.error.proofs.Refused.{refusal-some}
use Rattle.error.specs.declared.Unresolved.{Unresolved}
use Rattle.scopes.specs.Answers.{rowed_answer}
use Rattle.scopes.proofs.Calls.{refused-is}
use Rattle.rename.proofs.Fitting.{image-short}
use Rattle.rename.proofs.Ways.{output_short, rows-first, refused-before, handed, after-tests, answer-refused, listed-passed}
use Rattle.rename.proofs.rename.Goals as goal

pub returns-in_err-test_rows : goal.returns-in_err-test_rows
returns-in_err-test_rows c =
    refused-before _ _ _ _ _ _ _ (rows-first _ _ _ _ _ c.in_err-test_rows.ensures (refusal-some _)) (refusal-some _)
    ∙ ap (λ (r : Result ℕ Unresolved). record { answer = rowed_answer r; table = c.args.table.now; rows = c.args.rows.now; out = c.args.output.now }) (sym (refused-is _ _ c.from_residual.ensures.1))

pub returns-then-output-image : goal.returns-then-output-image
returns-then-output-image c = refused-before _ _ _ _ _ _ 14 (output_short _ _ _ _ c.in_ok-test_rows.ensures (omega arith)) (λ z. omega arith)

pub returns-in_err-count : goal.returns-in_err-count
returns-in_err-count c = handed _ _ _ _ _ _ (omega arith) _ c.in_err-count.ensures _ c.from_residual-in_err-count.ensures.1

pub write_renamed-requires : goal.write_renamed-requires
write_renamed-requires c = (image-short _ _ _ (listed-passed _ _ _ c.in_ok-count.ensures), omega arith)

pub returns-in_err-write_renamed : goal.returns-in_err-write_renamed
returns-in_err-write_renamed c =
    after-tests _ _ _ _ _ _ (omega arith) c.in_ok-count.ensures c.node_count.ensures c.in_err-write_renamed.ensures.refusal c.in_err-write_renamed.ensures.output
    ∙ ap (λ (a : Answer). record { answer = a; table = c.occurrences.new.table; rows = c.occurrences.new.rows; out = c.write_renamed.new.output }) (answer-refused _ _ (refusal-some _))
    ∙ ap (λ (r : Result ℕ Unresolved). record { answer = rowed_answer r; table = c.occurrences.new.table; rows = c.occurrences.new.rows; out = c.write_renamed.new.output }) (sym (refused-is _ _ c.from_residual-in_err-write_renamed.ensures.1))

pub overflow_cast-result : goal.overflow_cast-result
overflow_cast-result c = let s = image-short _ _ _ (listed-passed _ _ _ c.in_ok-count.ensures) in omega arith

pub returns : goal.returns
returns c = after-tests _ _ _ _ _ _ (omega arith) c.in_ok-count.ensures c.node_count.ensures c.in_ok-write_renamed.ensures.refusal c.in_ok-write_renamed.ensures.output
