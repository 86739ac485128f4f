use mathlib.Core.Path.{refl, sym, ◌∙◌}
use mathlib.Core.Bool.{Bool, false, false≢true}
use Rattle.ast.proofs.Blank.{blank}
use Rattle.bindings.proofs.Marks.new.Goals as goal

pub invariant_of-result : goal.invariant_of-result
invariant_of-result c = (refl, refl, λ n e. absurd (false≢true (sym (blank {A = Bool} false 2048 n) ∙ e)))
