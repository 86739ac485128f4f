use mathlib.Core.Logic.{inl, inr}
use mathlib.Core.Path.{refl}
use Rattle.ast.specs.Promises.{bump}
use Rattle.ast.proofs.times.Times.more.Goals as goal

pub returns-in-Never : goal.returns-in-Never
unfolding bump
returns-in-Never c = rw c.in-Never.is refl

pub returns-in-Once : goal.returns-in-Once
unfolding bump
returns-in-Once c = elim c.in-Once.is [ inl e ↦ rw e refl | inr e ↦ rw e refl ]
