use Rattle.names.proofs.Names.{Buckets}
use Rattle.names.proofs.test_twice.Given as goal

abbrev pub invariant-loop-i : goal.invariant-loop-i
invariant-loop-i l = Buckets l.names.sized.image.now l.i l.heads l.next
