use Rattle.environment.proofs.Steps.{mark-is}
use Rattle.environment.proofs.ScopeBuilder.insert_ordered.Goals as goal

pub returns-clause-table : goal.returns-clause-table
returns-clause-table c = mark-is _ _ c.node_count-n.ensures _ _ _ _ _ _ _ _ c.put.ensures c.put-2.ensures _ _ c.place.ensures c.place-2.ensures
