-- The list's order goes one way; places as spots.
use mathlib.Core.Logic.{inl, inr}
use mathlib.Core.List.{List, [], ◌∷◌}
use Prim.Native.Nat.{◌<◌}
use native.Mathlib.Omega.{arith}
use Rattle.sight.specs.Listing.{InTermSort, Ahead}
use Rattle.sight.specs.Sight.{Sort, ordinary, declared, applied, defined, Place}
use Rattle.occurrences.specs.Spots.{Spot}

-- the Term or AppHead of a place, with its IdentTerm
abbrev pub spot_of : Place → Spot
spot_of p = record { node = p.node; ident = p.ident }

abbrev pub spots_of : List Place → List Spot
spots_of [] = []
spots_of (p ∷ ps) = spot_of p ∷ spots_of ps

in-term-below : (σ : Sort) (d q : Place) → InTermSort σ d q → q.at < d.at
in-term-below ordinary d q h = absurd h
in-term-below declared d q h = absurd h
in-term-below applied d q h = absurd h
in-term-below (defined k) d q h = h.1

-- of two places at most one is ahead of the other: so places that stand in the list's order stand there once
pub ahead-one-way : (p q : Place) → Ahead p q → Ahead q p → ⊥
ahead-one-way p q (inl f) (inl g) = let a = in-term-below p.sort p q f in let b = in-term-below q.sort q p g in omega arith
ahead-one-way p q (inl f) (inr g) = g.1 f
ahead-one-way p q (inr f) (inl g) = f.1 g
ahead-one-way p q (inr f) (inr g) = let a = f.0 in let b = g.0 in omega arith
