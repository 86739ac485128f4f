use mathlib.Core.Path.{sym, ap, ◌∙◌}
use Rattle.table.specs.Values.{found_of}
use Rattle.table.proofs.Finds.{climb-hit, climb-end, climb-up}
use Rattle.table.proofs.+lookup.Goals as goal

pub returns-in-Some : goal.returns-in-Some
returns-in-Some t c = sym (climb-hit _ _ _ _ _ _ (sym c.find.ensures ∙ ap found_of c.in-Some.is))

pub returns-then-parent-scope : goal.returns-then-parent-scope
returns-then-parent-scope t c =
    c.lookup.ensures ∙ sym (climb-up _ _ _ _ _ _ (sym c.find.ensures ∙ ap found_of c.in-None.is) c.parent_of-parent.ensures c.if-parent-scope.true)

pub returns-else-parent-scope : goal.returns-else-parent-scope
returns-else-parent-scope t c =
    sym (climb-end _ _ _ _ _ _ (sym c.find.ensures ∙ ap found_of c.in-None.is) c.parent_of-parent.ensures c.if-parent-scope.false)
