use borrow.Author.Rules.{rules}
use native.Mathlib.Omega.{arith}
use Rattle.environment.proofs.Leaving.{leaves-done}
use Rattle.environment.proofs.ScopeBuilder.leave_scope.Goals as goal

pub returns-then-ne-clause-stands : goal.returns-then-ne-clause-stands
returns-then-ne-clause-stands c = leaves-done _ c.loop-row.invariant (λ l q. search rules)

pub returns-clause-stands : goal.returns-clause-stands
returns-clause-stands c = leaves-done _ c.loop-row.invariant (λ l q. absurd (let z = c.loop-row-test.false in omega arith))
