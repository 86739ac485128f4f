use Rattle.environment.specs.Builder.{Keeps, table_of, walked_of}
use Rattle.environment.proofs.Leaving.{Going}
use Rattle.environment.proofs.ScopeBuilder.put_back.Given as goal

abbrev pub invariant-loop-inner : goal.invariant-loop-inner
invariant-loop-inner l = Going l.initial.self.image.now (table_of l.initial.self) l.to.0 (walked_of l.self l.inner) l.self.env.now × Keeps l.initial.self l.self

abbrev pub decreases-loop-inner : goal.decreases-loop-inner
decreases-loop-inner l = l.inner.0
