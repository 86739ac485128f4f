use mathlib.Core.Path.{ap}
use mathlib.Core.Bool.{not}
use lib.Dec.{eqb}
use Rattle.sound.specs.Sound.{has_name}
use Rattle.sound.proofs.has_name.Goals as goal

pub returns : goal.returns
unfolding has_name
returns c = ap (λ w. not (eqb w 0)) c.field.ensures
