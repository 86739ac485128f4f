use Rattle.environment.proofs.Leaving.{Leaves}
use Rattle.environment.proofs.ScopeBuilder.leave_scope.Given as goal

abbrev pub invariant-loop-row : goal.invariant-loop-row
invariant-loop-row l = Leaves l.initial.self.image.now l.initial.self l.self l.at.0 l.first l.row
