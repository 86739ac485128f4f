use mathlib.Core.Path.{sym, ap, ◌∙◌}
use Prim.Native.Nat.{◌-◌}
use borrow.Author.Tests.{eqb-true, eqb-false}
use Rattle.ast.proofs.Words.{name-rule, name-arg, name-plain}
use Rattle.ast.proofs.name_of.Goals as goal
use Rattle.ast.proofs.name_of.Goals.{then-is_kind-via-then-is_kind, then-is_kind-via-else-is_kind+then-is_kind-2}

pub returns-then-is_kind : goal.returns-then-is_kind
returns-then-is_kind c =
    c.saturating_sub.ensures ∙ ap (λ w. w - 1) c.field-word.ensures ∙ sym (elim c.then-is_kind.branch [
      | then-is_kind-via-then-is_kind w ↦ name-rule _ _ (eqb-true _ _ (sym c.is_kind.ensures ∙ w.if-is_kind.true))
      | then-is_kind-via-else-is_kind+then-is_kind-2 w ↦ name-arg _ _ (eqb-true _ _ (sym w.is_kind-else-is_kind.ensures ∙ w.if-is_kind-2.true))
    ])

pub returns : goal.returns
returns c =
    c.field-word.ensures
    ∙ sym (name-plain _ _ (eqb-false _ _ (sym c.is_kind.ensures ∙ c.if-is_kind.false)) (eqb-false _ _ (sym c.is_kind-else-is_kind.ensures ∙ c.if-is_kind-2.false)))
