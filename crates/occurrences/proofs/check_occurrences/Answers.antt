use mathlib.Core.Path.{refl, sym, ap, ◌∙◌}
use Rattle.std.specs.Prelude.{Option, Result}
use Rattle.error.proofs.Refused.{refusal-some}
use Rattle.error.specs.declared.Unresolved.{Unresolved}
use Rattle.scopes.proofs.Calls.{refused-is, stopped-is, call-refused, call-stopped}
use Rattle.occurrences.specs.Answers.{once_answer}
use Rattle.occurrences.specs.Occurrences.{once}
use Rattle.occurrences.specs.declared.Lone.{Lone}
use Rattle.occurrences.proofs.CollectCalls.{whole, once-checked}
use Rattle.occurrences.proofs.check_occurrences.Goals as goal

pub returns-in_err-test_table : goal.returns-in_err-test_table
unfolding once
returns-in_err-test_table c =
    call-refused _ _ _ _ c.in_err-test_table.ensures.refusal (refusal-some _)
    ∙ ap (λ (r : Result (Option Lone) Unresolved). record { answer = once_answer r; table = c.args.table.now }) (sym (refused-is _ _ c.from_residual.ensures.1))

pub returns-in_err-scopes : goal.returns-in_err-scopes
unfolding once
returns-in_err-scopes c =
    call-stopped _ _ _ (sym c.in_ok-test_table.ensures.refusal) c.in_err-scopes.ensures.resolves refl
    ∙ ap (λ (r : Result (Option Lone) Unresolved). record { answer = once_answer r; table = c.resolve_into.new.table }) (sym (stopped-is _ _ c.from_residual-in_err-scopes.ensures.1))

pub invariant_of-checker : goal.invariant_of-checker
invariant_of-checker c = record { whole = whole _ _ (sym c.in_ok-test_table.ensures.refusal) c.in_ok-scopes.ensures.resolves refl }

pub returns : goal.returns
returns c = once-checked _ _ (sym c.in_ok-test_table.ensures.refusal) c.in_ok-scopes.ensures.resolves refl c.check_module.result c.check_module.ensures c.err.ensures.value
