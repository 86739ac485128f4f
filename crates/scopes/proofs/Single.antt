-- Where no module or model list declares one name twice, the walk comes to its end.
use mathlib.Core.Path.{◌≡◌, refl, ap}
use mathlib.Core.Bool.{false}
use mathlib.Core.List.{List}
use Prim.Native.Nat.{ℕ}
use Rattle.ast.specs.Answer.{result}
use Rattle.table.specs.State.{Walked}
use Rattle.table.specs.Table.{Table}
use Rattle.ast.proofs.Bools.{true-not-false}
use Rattle.scopes.specs.Resolve.{test_table, walked, answer_by, table_call, resolve}
use Rattle.scopes.specs.Twice.{declared_twice}
use Rattle.scopes.specs.Walk.{Listed, done, twice}
use Rattle.scopes.proofs.Calls.{way-stops}
use Rattle.scopes.proofs.Declaring.{twice-exactly}

pub single-done : (img tab : List ℕ) → test_table img tab ≡ 0 → declared_twice img ≡ false → (e : Walked) × (walked img tab ≡ done e)
unfolding resolve table_call answer_by
single-done img tab passes single = go (walked img tab) refl
  where
    go : (l : Listed) → walked img tab ≡ l → (e : Walked) × (walked img tab ≡ done e)
    go (done e) q = (e, q)
    go (twice x a b) q = absurd (true-not-false ((twice-exactly img tab passes).0 (x, a, b, ap (answer_by (λ (t : Table). result t.scopes t.symbols)) (way-stops img tab passes q))) single)
