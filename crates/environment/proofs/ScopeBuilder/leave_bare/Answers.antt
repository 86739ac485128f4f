use Rattle.environment.proofs.Steps.{unmarked-is}
use Rattle.environment.proofs.ScopeBuilder.leave_bare.Goals as goal

pub returns-clause-walk : goal.returns-clause-walk
returns-clause-walk c = unmarked-is _ _ _ _ _ c.insert_ordered.ensures.table
