use Rattle.environment.proofs.Steps.{marked-is}
use Rattle.environment.proofs.ScopeBuilder.leave.Goals as goal

pub returns-clause-walk : goal.returns-clause-walk
returns-clause-walk c = marked-is _ _ _ _ _ _ c.insert_ordered.ensures.table
