use Rattle.error.specs.Refusals.{refusal_of}
use Rattle.names.proofs.Names.{EndsLeft}
use Rattle.names.proofs.test_ends.Given as goal

abbrev pub invariant-loop-i : goal.invariant-loop-i
invariant-loop-i l = EndsLeft l.image.image.now l.i l.start (refusal_of l.rising)
