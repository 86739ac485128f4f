-- From the scope asked the climb has come to a scope: those between are flagged.
use Rattle.index.proofs.Along.{Climbing}
use Rattle.index.proofs.flag.Given as goal

abbrev pub invariant-loop-at : goal.invariant-loop-at
invariant-loop-at l = Climbing l.image l.table l.fn.scope.0 l.flags l.at.0

abbrev pub decreases-loop-at : goal.decreases-loop-at
decreases-loop-at l = l.at.0
