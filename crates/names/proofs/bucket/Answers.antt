use Rattle.names.proofs.Names.{hash-next, hash-end}
use Rattle.names.proofs.bucket.Goals as goal

pub loop-byte-preserved : goal.loop-byte-preserved
loop-byte-preserved c = hash-next _ _ _ c.loop-byte.invariant c.loop-byte-test.true

pub returns-clause-hashed : goal.returns-clause-hashed
returns-clause-hashed c = hash-end _ _ _ c.loop-byte.invariant c.loop-byte-test.false
