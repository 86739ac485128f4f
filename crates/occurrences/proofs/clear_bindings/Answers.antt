use mathlib.Core.Path.{ap, ◌∙◌}
use Rattle.rows.specs.Rows.{pairs_left}
use Rattle.occurrences.proofs.CollectLone.{counted-start, counted-next, counted-end, uncount-one, uncount-none}
use Rattle.occurrences.proofs.clear_bindings.Goals as goal

pub loop-binding-init : goal.loop-binding-init
loop-binding-init c = counted-start _ _ _ _ (ap pairs_left c.into_iter-binding-iterator.ensures.into_iter_gives ∙ c.pairs-binding-items.ensures)

pub loop-binding-preserved : goal.loop-binding-preserved
loop-binding-preserved c = counted-next _ _ _ uncount-one c.loop-binding.invariant c.in-Some.ensures.steps c.clear_binding.ensures

pub returns : goal.returns
returns c = counted-end _ _ _ uncount-none c.loop-binding.invariant c.in-None.ensures.steps.0
