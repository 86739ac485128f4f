use mathlib.Core.Path.{refl, sym, ap, ◌∙◌}
use native.Mathlib.Omega.{arith}
use Rattle.names.specs.Promises.{hash}
use Rattle.names.proofs.Names.{buckets-begin, buckets-next, buckets-stop, buckets-end}
use Rattle.names.proofs.test_twice.Goals as goal

pub loop-i-init : goal.loop-i-init
loop-i-init c = buckets-begin _

pub returns-then-meets : goal.returns-then-meets
returns-then-meets c =
    let w = c.args.names.now.sized.within in
    sym (buckets-stop _ _ _ _ _ _ c.loop-i.invariant (omega arith) (omega arith) (c.bucket-h.ensures.hashed ∙ ap (hash 0) c.bytes-name.ensures) c.bucket-h.ensures.few refl (rw c.if-meets.true at c.meets.ensures))

pub loop-i-preserved : goal.loop-i-preserved
loop-i-preserved c =
    let w = c.args.names.now.sized.within in
    buckets-next _ _ _ _ _ _ c.loop-i.invariant (omega arith) (omega arith) (c.bucket-h.ensures.hashed ∙ ap (hash 0) c.bytes-name.ensures) c.bucket-h.ensures.few refl (rw c.if-meets.false at c.meets.ensures)

pub returns : goal.returns
returns c = let w = c.args.names.now.sized.within in sym (buckets-end _ _ _ _ c.loop-i.invariant (omega arith))
