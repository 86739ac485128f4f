-- A call that resolves and whose answer is no refusal has passed its tests.
use mathlib.Core.Path.{◌≡◌, refl}
use mathlib.Core.List.{List}
use Prim.Native.Nat.{ℕ, zero, suc}
use Rattle.ast.specs.Answer.{Answer}
use Rattle.table.specs.Table.{Table}
use Rattle.scopes.specs.Resolve.{way, answer_by}
use Rattle.sight.specs.Listing.{Unrefused}

pub passes : (img tab : List ℕ) (f : Table → Answer) (refusal : ℕ) → Unrefused (answer_by f (way img tab refusal)) → refusal ≡ 0
unfolding way answer_by
passes img tab f zero u = refl
passes img tab f (suc r) u = absurd u
