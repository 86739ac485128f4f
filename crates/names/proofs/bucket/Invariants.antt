use Rattle.names.proofs.Names.{HashLeft}
use Rattle.names.proofs.bucket.Given as goal

abbrev pub invariant-loop-byte : goal.invariant-loop-byte
invariant-loop-byte l = HashLeft l.name l.h l.byte-index
