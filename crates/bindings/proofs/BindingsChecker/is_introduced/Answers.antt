use mathlib.Core.Path.{refl, sym, ap, ◌∙◌}
use Rattle.table.proofs.Finds.{lookup-node}
use Rattle.table.specs.Table.{found_node, is_kind, is_var}
use Rattle.table.specs.Values.{found_of}
use Rattle.bindings.proofs.Leaves.{introduces-other, introduces-var}
use Rattle.bindings.proofs.BindingsChecker.is_introduced.Goals as goal

pub returns-in_default : goal.returns-in_default
unfolding is_kind
returns-in_default c = sym (introduces-other _ _ _ _ (lookup-node _ _ _ _ c.at_exit-found.ensures) (ap (λ o. is_var c.args.self.now.scopes.image.now (found_node (found_of o))) c.in_default.is))

pub returns-then-is_var : goal.returns-then-is_var
returns-then-is_var c = sym (introduces-var _ _ _ _ (lookup-node _ _ _ _ (sym (ap found_of c.in-Some.is) ∙ c.at_exit-found.ensures)) (sym c.is_var.ensures ∙ c.if-is_var.true) refl c.binding_visible_before.ensures)

pub returns-else-is_var : goal.returns-else-is_var
returns-else-is_var c = c.if-is_var.false ∙ sym (introduces-other _ _ _ _ (lookup-node _ _ _ _ (sym (ap found_of c.in-Some.is) ∙ c.at_exit-found.ensures)) (sym c.is_var.ensures ∙ c.if-is_var.false))
