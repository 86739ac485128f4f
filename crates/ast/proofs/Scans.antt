-- Laws of tests that follow one another, and of claims.
use mathlib.Core.Path.{◌≡◌, refl}
use mathlib.Core.Bool.{Bool, true, false}
use mathlib.Core.List.{List, [], ◌∷◌, ◌++◌}
use Prim.Native.Nat.{ℕ, zero, suc}
use lib.ListN.{get_or, set}
use Rattle.ast.specs.Tests.{◌▸◌, need}
use Rattle.ast.specs.Promises.{bump, claim_all}

pub need-in : (r : ℕ) (b : Bool) → b ≡ true → need r b ≡ 0
unfolding need
need-in r b e = rw e

pub need-out : (r : ℕ) (b : Bool) → b ≡ false → need r b ≡ r
unfolding need
need-out r b e = rw e

pub ▸-zero : (a : ℕ) → a ▸ 0 ≡ a
unfolding ◌▸◌
▸-zero zero = refl
▸-zero (suc a) = refl

pub ▸-assoc : (a b c : ℕ) → (a ▸ b) ▸ c ≡ a ▸ (b ▸ c)
unfolding ◌▸◌
▸-assoc zero b c = refl
▸-assoc (suc a) b c = refl

pub claim-append : (cs ds us : List ℕ) → claim_all (cs ++ ds) us ≡ claim_all ds (claim_all cs us)
unfolding claim_all
claim-append [] ds us = refl
claim-append (c ∷ cs) ds us = claim-append cs ds (set us c (bump (get_or us c 0)))
