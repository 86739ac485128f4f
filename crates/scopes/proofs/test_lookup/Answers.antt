use mathlib.Core.Path.{◌∙◌}
use native.Mathlib.Omega.{arith}
use Rattle.error.proofs.Refused.{refusal-some, passed-on}
use Rattle.scopes.proofs.Lookups.{lookup-refused, lookup-unsound, lookup_within, lookup_beyond}
use Rattle.scopes.proofs.test_lookup.Goals as goal

pub returns-in_err-accepted-clause-refusal : goal.returns-in_err-accepted-clause-refusal
returns-in_err-accepted-clause-refusal c = passed-on _ _ c.from_residual.ensures.1 ∙ lookup-refused _ _ _ _ c.in_err-accepted.ensures.refusal (refusal-some _)

pub returns-in_err-test_sound-clause-refusal : goal.returns-in_err-test_sound-clause-refusal
returns-in_err-test_sound-clause-refusal c = passed-on _ _ c.from_residual-in_err-test_sound.ensures.1 ∙ lookup-unsound _ _ _ c.in_ok-accepted.ensures.refusal _ c.in_err-test_sound.ensures (refusal-some _)

pub returns-then-get-scope-clause-refusal : goal.returns-then-get-scope-clause-refusal
returns-then-get-scope-clause-refusal c = lookup_beyond _ _ _ c.in_ok-accepted.ensures.refusal c.in_ok-test_sound.ensures (omega arith)

pub returns-clause-refusal : goal.returns-clause-refusal
returns-clause-refusal c = lookup_within _ _ _ c.in_ok-accepted.ensures.refusal c.in_ok-test_sound.ensures (omega arith)
