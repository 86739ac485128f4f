use mathlib.Core.Path.{refl, sym, ap, ◌∙◌}
use Rattle.std.specs.Prelude.{Result, ℕ}
use Rattle.error.specs.declared.Unresolved.{Unresolved}
use Rattle.error.proofs.Refused.{refusal-some}
use Rattle.rows.proofs.Appends.{wrote_as}
use Rattle.scopes.specs.Answers.{rowed_answer}
use Rattle.scopes.proofs.Calls.{refused-is, stopped-is, rowed-refused, rowed-filled, rowed-stopped}
use Rattle.bindings.specs.Errors.{errors}
use Rattle.bindings.proofs.Calls.{errors-table, errors-accepted, errors-long, mode-errors}
use Rattle.bindings.proofs.check_bindings.Goals as goal

pub returns-in_err-mode : goal.returns-in_err-mode
unfolding errors
returns-in_err-mode c =
    rowed-refused _ _ _ _ _ c.in_err-mode.ensures.refusal (refusal-some _)
    ∙ sym (ap (λ (r : Result ℕ Unresolved). record { answer = rowed_answer r; table = c.args.table.now; rows = c.args.rows.now }) (refused-is _ _ c.from_residual.ensures.1))

pub resolve_into-requires : goal.resolve_into-requires
resolve_into-requires c = (errors-table _ _ _ _ (sym c.in_ok-mode.ensures.refusal), c.new-env.ensures)

pub invariant_of-write_rows : goal.invariant_of-write_rows
invariant_of-write_rows c = record { accepted = errors-accepted _ _ _ _ (sym c.in_ok-mode.ensures.refusal) }

pub write_rows-requires : goal.write_rows-requires
write_rows-requires c = errors-long _ _ _ _ (sym c.in_ok-mode.ensures.refusal)

pub returns-in_err-resolved : goal.returns-in_err-resolved
unfolding errors
returns-in_err-resolved c =
    rowed-stopped _ _ _ _ (sym c.in_ok-mode.ensures.refusal) c.in_err-resolved.ensures.resolves refl
    ∙ sym (ap (λ (r : Result ℕ Unresolved). record { answer = rowed_answer r; table = c.resolve_into.new.table; rows = c.args.rows.now }) (stopped-is _ _ c.from_residual-in_err-resolved.ensures.1))

pub returns : goal.returns
unfolding errors
returns c = rowed-filled _ _ _ _ (sym c.in_ok-mode.ensures.refusal) c.in_ok-resolved.ensures.resolves refl (wrote_as (mode-errors _ _ _ c.in_ok-mode.ensures.mode) c.write_rows.ensures)
