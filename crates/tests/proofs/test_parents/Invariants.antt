use Rattle.ast.specs.Image as images
use Rattle.ast.proofs.Runs.{RunSeen}
use Rattle.error.specs.Refusals.{refusal_of}
use Rattle.tests.proofs.Whole.{parent}
use Rattle.tests.proofs.test_parents.Given as goal

abbrev pub invariant-loop-claim : goal.invariant-loop-claim
invariant-loop-claim l = RunSeen (parent l.image.image.now) (images.last l.image.image.now) 11 l.claim-index (refusal_of l.parents)
