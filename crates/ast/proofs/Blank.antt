-- A list of one value has it everywhere, where it is what is read past the end.
use mathlib.Core.Path.{◌≡◌, refl}
use Prim.Native.Nat.{ℕ, zero, suc}
use lib.ListN.{get_or, replicate}

pub blank : {A : Type 0} (d : A) (n i : ℕ) → get_or (replicate n d) i d ≡ d
blank d zero i = refl
blank d (suc n) zero = refl
blank d (suc n) (suc i) = blank d n i
