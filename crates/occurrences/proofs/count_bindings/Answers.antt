use mathlib.Core.Path.{ap, ◌∙◌}
use Rattle.rows.specs.Rows.{pairs_left}
use Rattle.occurrences.proofs.CollectLone.{counted-start, counted-next, counted-end, claim-one, claim-none}
use Rattle.occurrences.proofs.count_bindings.Goals as goal

pub loop-binding-init : goal.loop-binding-init
loop-binding-init c = counted-start _ _ _ _ (ap pairs_left c.into_iter-binding-iterator.ensures.into_iter_gives ∙ c.pairs-binding-items.ensures)

pub loop-binding-preserved : goal.loop-binding-preserved
loop-binding-preserved c = counted-next _ _ _ claim-one c.loop-binding.invariant c.in-Some.ensures.steps c.count_binding.ensures

pub returns : goal.returns
returns c = counted-end _ _ _ claim-none c.loop-binding.invariant c.in-None.ensures.steps.0
