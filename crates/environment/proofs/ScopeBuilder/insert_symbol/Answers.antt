use Rattle.environment.proofs.Steps.{symbol-is}
use Rattle.environment.proofs.ScopeBuilder.insert_symbol.Goals as goal

pub returns-clause-walk : goal.returns-clause-walk
returns-clause-walk c = symbol-is _ _ c.node_count-n.ensures _ _ _ _ _ _ _ _ c.put.ensures c.put-2.ensures _ c.place.ensures c.place-2.ensures
