use mathlib.Core.Path.{refl, sym, ap, ◌∙◌}
use Prim.Native.Nat.{ℕ}
use Rattle.std.specs.Prelude.{Result}
use Rattle.error.proofs.Refused.{refusal-some}
use Rattle.error.specs.declared.Unresolved.{Unresolved}
use Rattle.scopes.specs.Answers.{rowed_answer}
use Rattle.scopes.proofs.Calls.{rows-table, rows_long, refused-is, stopped-is, rowed-refused, rowed-filled, rowed-stopped}
use Rattle.occurrences.specs.Occurrences.{occurrences}
use Rattle.occurrences.proofs.CollectCalls.{whole}
use Rattle.occurrences.proofs.occurrences.Goals as goal

pub returns-in_err-test_rows : goal.returns-in_err-test_rows
unfolding occurrences
returns-in_err-test_rows c =
    rowed-refused _ _ _ _ _ c.in_err-test_rows.ensures (refusal-some _)
    ∙ ap (λ (r : Result ℕ Unresolved). record { answer = rowed_answer r; table = c.args.table.now; rows = c.args.rows.now }) (sym (refused-is _ _ c.from_residual.ensures.1))

pub resolve_into-requires : goal.resolve_into-requires
resolve_into-requires c = (rows-table _ _ _ (sym c.in_ok-test_rows.ensures), c.new-env.ensures)

pub write_rows-requires : goal.write_rows-requires
write_rows-requires c = rows_long _ _ _ (sym c.in_ok-test_rows.ensures)

pub returns-in_err-scopes : goal.returns-in_err-scopes
unfolding occurrences
returns-in_err-scopes c =
    rowed-stopped _ _ _ _ (sym c.in_ok-test_rows.ensures) c.in_err-scopes.ensures.resolves refl
    ∙ ap (λ (r : Result ℕ Unresolved). record { answer = rowed_answer r; table = c.resolve_into.new.table; rows = c.args.rows.now }) (sym (stopped-is _ _ c.from_residual-in_err-scopes.ensures.1))

pub invariant_of-checker : goal.invariant_of-checker
invariant_of-checker c = record { whole = whole _ _ (rows-table _ _ _ (sym c.in_ok-test_rows.ensures)) c.in_ok-scopes.ensures.resolves refl }

pub returns : goal.returns
unfolding occurrences
returns c = rowed-filled _ _ _ _ (sym c.in_ok-test_rows.ensures) c.in_ok-scopes.ensures.resolves refl c.write_rows.ensures
