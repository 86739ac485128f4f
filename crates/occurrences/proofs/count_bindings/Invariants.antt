use Rattle.ast.specs.Promises.{bump, claim_all}
use Rattle.ast.specs.Times.{counts}
use Rattle.occurrences.proofs.CollectLone.{Counted}
use Rattle.occurrences.proofs.count_bindings.Given as goal

abbrev pub invariant-loop-binding : goal.invariant-loop-binding
invariant-loop-binding l = Counted l.rows claim_all bump l.binding-iterator (counts l.initial.times) (counts l.times)
