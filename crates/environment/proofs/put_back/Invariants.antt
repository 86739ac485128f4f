use Rattle.environment.specs.Builder.{walked_in}
use Rattle.environment.proofs.Leaving.{Going}
use Rattle.environment.proofs.put_back.Given as goal

abbrev pub invariant-loop-inner : goal.invariant-loop-inner
invariant-loop-inner l = Going l.image (walked_in l.table l.scopes l.symbols l.initial.inner).table l.to.0 (walked_in l.table l.scopes l.symbols l.inner) l.env

abbrev pub decreases-loop-inner : goal.decreases-loop-inner
decreases-loop-inner l = l.inner.0
