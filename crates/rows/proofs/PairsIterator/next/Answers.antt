use mathlib.Core.Path.{ap}
use native.Mathlib.Omega.{arith}
use lib.ListN.{length}
use Rattle.rows.proofs.Reading.{pairs_end, pairs_more}
use Rattle.rows.proofs.PairsIterator.next.Goals as goal

pub returns-then-self-clause-steps : goal.returns-then-self-clause-steps
returns-then-self-clause-steps c = (pairs_end c.args.self.now c.if-self.true, pairs_end c.args.self.now c.if-self.true)

pub returns-clause-steps : goal.returns-clause-steps
returns-clause-steps c = pairs_more c.args.self.now (omega arith) c.left.ensures c.right.ensures

pub returns-clause-goes : goal.returns-clause-goes
returns-clause-goes c =
    let e = ap length (pairs_more c.args.self.now (omega arith) c.left.ensures c.right.ensures) in
    record { on = λ f. (tt, f, omega arith); keeps = tt; rests = λ f. f }
