use mathlib.Core.Path.{refl, sym, ap, ◌∙◌}
use Rattle.error.proofs.Refused.{refusal-some}
use Rattle.names.specs.Number.{number_in}
use Rattle.scopes.proofs.Lookups.{call-answer, call_none, looked-refused}
use Rattle.index.proofs.Tests.{indexed-call-refused, indexed-call-looked, indexed-by, looked-by}
use Rattle.index.proofs.lookup_indexed.Goals as goal

pub returns-in_err-accepted : goal.returns-in_err-accepted
returns-in_err-accepted c = looked-refused _ _ c.from_residual.ensures.1 ∙ indexed-call-refused _ _ _ _ _ _ c.in_err-accepted.ensures.refusal (refusal-some _)

pub lookup_number-requires : goal.lookup_number-requires
lookup_number-requires c =
    indexed-by _ _ _ _ _ c.args.name.now c.in_ok-accepted.ensures.refusal (sym (ap number_in c.in-Some.is) ∙ rw c.in_ok-accepted.ensures.image at c.number_of.ensures)

pub returns-in-Some : goal.returns-in-Some
returns-in-Some c =
    c.lookup_number.ensures
    ∙ call-answer _ _ _ _ _ (looked-by _ _ _ _ c.in_ok-accepted.ensures.refusal) refl _ (sym (ap number_in c.in-Some.is) ∙ rw c.in_ok-accepted.ensures.image at c.number_of.ensures)
    ∙ indexed-call-looked _ _ _ _ _ c.in_ok-accepted.ensures.refusal

pub returns-in-None : goal.returns-in-None
returns-in-None c =
    call_none _ _ _ _ _ (looked-by _ _ _ _ c.in_ok-accepted.ensures.refusal) refl (sym (ap number_in c.in-None.is) ∙ rw c.in_ok-accepted.ensures.image at c.number_of.ensures)
    ∙ indexed-call-looked _ _ _ _ _ c.in_ok-accepted.ensures.refusal
