use mathlib.Core.Path.{◌∙◌}
use Rattle.names.proofs.Names.{same-names, chain_next, chain-found}
use Rattle.names.proofs.meets.Goals as goal

pub returns-then-eq : goal.returns-then-eq
returns-then-eq c = chain-found _ _ _ _ _ c.loop-j.invariant _ c.in-Some.ensures.0 c.in-Some.ensures.1 (same-names _ _ _ c.bytes.ensures c.requires.1 c.eq.ensures ∙ c.if-eq.true)

pub loop-j-preserved : goal.loop-j-preserved
loop-j-preserved c = chain_next _ _ _ _ _ c.loop-j.invariant _ c.in-Some.ensures.0 c.in-Some.ensures.1 c.requires.0.falls (same-names _ _ _ c.bytes.ensures c.requires.1 c.eq.ensures ∙ c.if-eq.false)
