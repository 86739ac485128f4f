use Rattle.environment.proofs.Leaving.{going_step}
use Rattle.environment.proofs.put_back.Goals as goal

pub leave_scope-requires : goal.leave_scope-requires
leave_scope-requires c = (c.loop-inner.invariant.stands, (going_step _ c.loop-inner.invariant c.loop-inner-test.true).first)
