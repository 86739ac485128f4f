use Rattle.environment.proofs.Steps.{child-is}
use Rattle.environment.proofs.ScopeBuilder.new_scope.Goals as goal

pub returns-clause-walk : goal.returns-clause-walk
returns-clause-walk c = child-is _ _ c.node_count-n.ensures _ _ _ _ _ _ c.place.ensures c.put.ensures
