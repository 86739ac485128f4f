use Rattle.occurrences.specs.Promises.{uncounted}
use Rattle.ast.specs.Times.{counts}
use Rattle.occurrences.proofs.CollectLone.{Counted}
use Rattle.occurrences.proofs.clear_bindings.Given as goal

abbrev pub invariant-loop-binding : goal.invariant-loop-binding
invariant-loop-binding l = Counted l.rows uncounted (λ _. 0) l.binding-iterator (counts l.initial.times) (counts l.times)
