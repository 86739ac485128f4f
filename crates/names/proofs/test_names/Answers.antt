use mathlib.Core.Path.{sym, ◌∙◌}
use Rattle.ast.proofs.Accepted.{rises-of}
use Rattle.error.proofs.Refused.{refusal-some, passed-on}
use Rattle.names.proofs.Names.{names-split, names-twice}
use Rattle.names.proofs.test_names.Goals as goal

pub returns-in_err-test_ends : goal.returns-in_err-test_ends
returns-in_err-test_ends c = passed-on _ _ c.from_residual.ensures.1 ∙ sym (names-split _ _ (sym c.in_err-test_ends.ensures) (refusal-some _))

pub invariant_of-test_twice : goal.invariant_of-test_twice
invariant_of-test_twice c = record { rising_all = rises-of _ (sym c.in_ok-test_ends.ensures) }

pub returns : goal.returns
returns c = c.test_twice.ensures ∙ sym (names-twice _ (sym c.in_ok-test_ends.ensures))
