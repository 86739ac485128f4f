use mathlib.Core.Path.{sym, ap, ◌∙◌}
use Rattle.table.specs.Table.{found_node, is_kind}
use Rattle.table.specs.Values.{found_of}
use Rattle.table.proofs.Finds.{value-var, value-other}
use Rattle.table.proofs.is_value.Goals as goal

pub returns-then-is_var : goal.returns-then-is_var
returns-then-is_var c = c.if-is_var.true ∙ sym (value-var _ _ (sym c.is_var.ensures ∙ c.if-is_var.true))

pub returns-else-is_var : goal.returns-else-is_var
returns-else-is_var c = c.is_kind.ensures ∙ ap (λ k. is_kind c.args.image.now k (found_node (found_of c.args.found))) c.from.ensures ∙ sym (value-other _ _ (sym c.is_var.ensures ∙ c.if-is_var.false))
