use mathlib.Core.Path.{sym, ◌∙◌}
use Rattle.ast.proofs.Accepted.{named}
use Rattle.error.proofs.Refused.{refusal-some}
use Rattle.names.proofs.NameParts.{none-refused, none-beyond, there, place-refused, place-beyond, place_is}
use Rattle.names.proofs.name_place.Goals as goal

pub returns-in_default-clause-given : goal.returns-in_default-clause-given
returns-in_default-clause-given c = rw (none-refused _ _ (λ e. refusal-some _ (c.in_default.ensures.code ∙ e))) (λ z. z, λ z. z)

pub returns-in_default-clause-place : goal.returns-in_default-clause-place
returns-in_default-clause-place c = sym (place-refused _ _ (λ e. refusal-some _ (c.in_default.ensures.code ∙ e)))

pub returns-then-sized-number-clause-given : goal.returns-then-sized-number-clause-given
returns-then-sized-number-clause-given c =
    let n = rw (← c.in-Ok.sized-is) at c.in-Ok.sized.within.head.names_are in
    rw (none-beyond _ _ (sym c.in-Ok.ensures.code) (rw c.in-Ok.ensures.image at (rw n at c.if-sized-number.true))) (λ z. z, λ z. z)

pub returns-then-sized-number-clause-place : goal.returns-then-sized-number-clause-place
returns-then-sized-number-clause-place c =
    let n = rw (← c.in-Ok.sized-is) at c.in-Ok.sized.within.head.names_are in
    sym (place-beyond _ _ (sym c.in-Ok.ensures.code) (rw c.in-Ok.ensures.image at (rw n at c.if-sized-number.true)))

pub invariant_of-named : goal.invariant_of-named
invariant_of-named c = record { rising_all = rw c.in-Ok.ensures.image ((named _ (sym c.in-Ok.ensures.code)).rising_all) }

pub returns-clause-given : goal.returns-clause-given
returns-clause-given c =
    let n = rw (← c.in-Ok.sized-is) at c.in-Ok.sized.within.head.names_are in
    rw (there _ _ (sym c.in-Ok.ensures.code) (rw c.in-Ok.ensures.image at (rw n at c.if-sized-number.false))) (λ z. z, λ z. z)

pub returns-clause-place : goal.returns-clause-place
returns-clause-place c =
    let n = rw (← c.in-Ok.sized-is) at c.in-Ok.sized.within.head.names_are in
    sym (place_is _ _ (there _ _ (sym c.in-Ok.ensures.code) (rw c.in-Ok.ensures.image at (rw n at c.if-sized-number.false))) _
    (rw c.in-Ok.ensures.image at c.place.ensures.start) (rw c.in-Ok.ensures.image at c.place.ensures.len))
