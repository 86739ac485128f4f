use mathlib.Core.Path.{refl, sym, ap, ◌∙◌}
use Rattle.error.proofs.Refused.{refusal-some}
use Rattle.scopes.specs.Answers.{resolved_answer}
use Rattle.scopes.proofs.Calls.{refused-is, stopped-is}
use Rattle.scopes.proofs.Rooting.{resolve-refused, resolve-twice, resolve-done}
use Rattle.scopes.proofs.resolve_scopes.Goals as goal

pub returns-in_err-test_table : goal.returns-in_err-test_table
returns-in_err-test_table c = let p = resolve-refused _ _ _ c.in_err-test_table.ensures.refusal (refusal-some _) in (ap resolved_answer (refused-is _ _ c.from_residual.ensures.1) ∙ p.0, p.1)

pub returns-in_err-resolved : goal.returns-in_err-resolved
returns-in_err-resolved c =
    let p = resolve-twice _ _ (sym c.in_ok-test_table.ensures.refusal) c.in_err-resolved.ensures.resolves refl in
    (ap resolved_answer (stopped-is _ _ c.from_residual-in_err-resolved.ensures.1) ∙ p.0, p.1)

pub returns : goal.returns
returns c = resolve-done _ _ (sym c.in_ok-test_table.ensures.refusal) c.in_ok-resolved.ensures.resolves refl
