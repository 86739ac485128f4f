use mathlib.Core.Path.{sym, ap, ◌∙◌}
use mathlib.Core.Option.{some}
use Rattle.ast.proofs.Bools.{eqb-swap}
use Rattle.table.specs.Values.{found_of}
use Rattle.table.proofs.Finds.{lookup-node}
use Rattle.bindings.specs.Errors.{same_node}
use Rattle.bindings.proofs.BindingsChecker.binding_visible_before.Goals as goal

pub returns-in-Some : goal.returns-in-Some
unfolding same_node
returns-in-Some c = c.eq.ensures ∙ eqb-swap _ _ ∙ ap (same_node (some c.args.binding.0.0)) (lookup-node _ _ _ _ (sym (ap found_of c.in-Some.is) ∙ c.at_entry.ensures))

pub returns-in-None : goal.returns-in-None
unfolding same_node
returns-in-None c = ap (same_node (some c.args.binding.0.0)) (lookup-node _ _ _ _ (sym (ap found_of c.in-None.is) ∙ c.at_entry.ensures))
