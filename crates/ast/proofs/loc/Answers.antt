use mathlib.Core.Path.{ap, ap₂, ◌∙◌}
use Prim.Native.Nat.{ℕ}
use native.Mathlib.Omega.{arith}
use Rattle.ast.specs.Image.{op_at}
use Rattle.ast.specs.Location.{location_of}
use Rattle.ast.specs.declared.Location.{Location}
use Rattle.ast.proofs.loc.Goals as goal

abbrev location : ℕ → ℕ → Location
location a b = record { 0 = a; 1 = b }

pub returns : goal.returns
unfolding location_of
returns c = ap₂ location (c.operand.ensures ∙ ap (op_at _) (omega arith)) (c.operand-2.ensures ∙ ap (op_at _) (omega arith))
