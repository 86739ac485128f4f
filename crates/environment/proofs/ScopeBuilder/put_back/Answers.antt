use Rattle.environment.proofs.Leaving.{going_step}
use Rattle.environment.proofs.ScopeBuilder.put_back.Goals as goal

pub leave_scope-requires : goal.leave_scope-requires
leave_scope-requires c = rw c.loop-inner.invariant.1.image (c.loop-inner.invariant.0.stands, (going_step _ c.loop-inner.invariant.0 c.loop-inner-test.true).first)
