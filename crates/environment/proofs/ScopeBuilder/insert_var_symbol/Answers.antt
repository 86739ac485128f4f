use mathlib.Core.Path.{ap, ◌∙◌}
use native.Mathlib.Omega.{arith}
use Rattle.table.specs.State.{Walked, introduce, child_scope, own_symbol}
use Rattle.table.specs.Table.{new_scope}
use Rattle.environment.proofs.ScopeBuilder.insert_var_symbol.Goals as goal

pub insert_symbol-requires : goal.insert_symbol-requires
unfolding child_scope new_scope
insert_symbol-requires c = omega (arith, ap (λ (e : Walked). e.table.symbols) c.new_scope-scope.ensures.walk)

pub returns-clause-walk : goal.returns-clause-walk
unfolding introduce
returns-clause-walk c = (rw c.new_scope-scope.ensures.keeps.image at c.insert_symbol.ensures.walk) ∙ ap (own_symbol _ _) c.new_scope-scope.ensures.walk
