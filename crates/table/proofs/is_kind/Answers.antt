use mathlib.Core.Path.{sym, ap, ◌∙◌}
use lib.Dec.{eqb}
use Rattle.table.specs.Table.{found_node, is_kind}
use Rattle.table.specs.Values.{found_of}
use Rattle.table.proofs.is_kind.Goals as goal

pub returns-in-Some : goal.returns-in-Some
unfolding is_kind
returns-in-Some c = ap (λ k. eqb k c.args.kind) c.kind_at.ensures ∙ sym (ap (λ o. is_kind c.args.image.now c.args.kind (found_node (found_of o))) c.in-Some.is)

pub returns-in-None : goal.returns-in-None
unfolding is_kind
returns-in-None c = sym (ap (λ o. is_kind c.args.image.now c.args.kind (found_node (found_of o))) c.in-None.is)
