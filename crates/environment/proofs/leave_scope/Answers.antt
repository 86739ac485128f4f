use borrow.Author.Rules.{rules}
use native.Mathlib.Omega.{arith}
use Rattle.environment.specs.Builder.{walked_in}
use Rattle.environment.proofs.Leaving.{leaving-done}
use Rattle.environment.proofs.leave_scope.Goals as goal

pub returns-then-ne : goal.returns-then-ne
returns-then-ne c = leaving-done _ {e = walked_in c.args.table.now c.args.scopes c.args.symbols c.args.at} c.loop-row.invariant (λ l q. search rules)

pub returns : goal.returns
returns c = leaving-done _ {e = walked_in c.args.table.now c.args.scopes c.args.symbols c.args.at} c.loop-row.invariant (λ l q. absurd (let z = c.loop-row-test.false in omega arith))
