use Rattle.environment.specs.Builder.{walked_in}
use Rattle.environment.proofs.Leaving.{Leaving}
use Rattle.environment.proofs.leave_scope.Given as goal

abbrev pub invariant-loop-row : goal.invariant-loop-row
invariant-loop-row l = Leaving l.image (walked_in l.table l.scopes l.symbols l.at).table l.at.0 l.first l.env l.row
