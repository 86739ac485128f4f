-- Laws of refusals that `?` passes on.
use mathlib.Core.Path.{◌≡◌, ap}
use native.Mathlib.Omega.{arith}
use Rattle.std.specs.Prelude.{Result, Ok, Err, IsErrAnd}
use Rattle.error.specs.declared.Refusal.{Refusal}
use Rattle.error.specs.declared.Refusal.TheVariants as refusal
use Rattle.error.specs.Refusals.{refusal_number, refusal_of}

-- no refusal has the number 0
pub refusal-some : (e : Refusal) → refusal_number e ≡ 0 → ⊥
refusal-some refusal.ShortImage z = absurd (omega arith)
refusal-some refusal.SizesTooLarge z = absurd (omega arith)
refusal-some refusal.ImageLength z = absurd (omega arith)
refusal-some refusal.NameEnds z = absurd (omega arith)
refusal-some refusal.EqualNames z = absurd (omega arith)
refusal-some refusal.UnknownKind z = absurd (omega arith)
refusal-some refusal.RowOutside z = absurd (omega arith)
refusal-some refusal.UnknownNumber z = absurd (omega arith)
refusal-some refusal.WrongChild z = absurd (omega arith)
refusal-some refusal.LastRow z = absurd (omega arith)
refusal-some refusal.Parents z = absurd (omega arith)
refusal-some refusal.WrongVariable z = absurd (omega arith)
refusal-some refusal.ShortTable z = absurd (omega arith)
refusal-some refusal.ShortRows z = absurd (omega arith)
refusal-some refusal.UnknownMode z = absurd (omega arith)
refusal-some refusal.UnsoundTable z = absurd (omega arith)
refusal-some refusal.UnknownScope z = absurd (omega arith)
refusal-some refusal.WrongIndex z = absurd (omega arith)
refusal-some refusal.UnknownBinding z = absurd (omega arith)
refusal-some refusal.UnknownName z = absurd (omega arith)
refusal-some refusal.OtherList z = absurd (omega arith)

-- what `?` hands back has the same number
pub passed-on : {A : Type 0} (r : Result A Refusal) (e : Refusal) → IsErrAnd r (λ y. y ≡ e) → refusal_of r ≡ refusal_number e
passed-on (Ok a) e h = absurd h
passed-on (Err y) e h = ap refusal_number h
