use mathlib.Core.Path.{sym, ap, ◌∙◌}
use Rattle.ast.specs.Tests.{test_sizes, test_names}
use Rattle.error.proofs.Refused.{refusal-some, passed-on}
use Rattle.names.proofs.Places.{after_names, verdict-sizes, verdict-names, verdict-nodes}
use Rattle.names.proofs.verdict.Goals as goal

pub returns-in_err-sized-clause-code : goal.returns-in_err-sized-clause-code
returns-in_err-sized-clause-code c = passed-on _ _ c.from_residual.ensures.1 ∙ sym (verdict-sizes _ _ (sym c.in_err-sized.ensures.code) (refusal-some _))

pub returns-in_err-test_names-clause-code : goal.returns-in_err-test_names-clause-code
returns-in_err-test_names-clause-code c =
    passed-on _ _ c.from_residual-in_err-test_names.ensures.1
    ∙ sym (verdict-names _ (sym c.in_ok-sized.ensures.code) _ (ap test_names (sym c.in_ok-sized.ensures.image) ∙ sym c.in_err-test_names.ensures) (refusal-some _))

pub returns-in_err-test_nodes-clause-code : goal.returns-in_err-test_nodes-clause-code
returns-in_err-test_nodes-clause-code c =
    passed-on _ _ c.from_residual-in_err-test_nodes.ensures.1 ∙ c.in_err-test_nodes.ensures ∙ ap after_names c.in_ok-sized.ensures.image
    ∙ sym (verdict-nodes _ (sym c.in_ok-sized.ensures.code) (ap test_names (sym c.in_ok-sized.ensures.image) ∙ sym c.in_ok-test_names.ensures))

pub invariant_of-result : goal.invariant_of-result
invariant_of-result c =
    record { accepted = verdict-nodes _ (ap test_sizes c.in_ok-sized.ensures.image ∙ sym c.in_ok-sized.ensures.code) (sym c.in_ok-test_names.ensures) ∙ sym c.in_ok-test_nodes.ensures }
