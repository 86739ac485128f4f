-- Start and length are below 2^16 each, so the sum fits, and both are read off again.
use mathlib.Core.Path.{ap, subst}
use native.Mathlib.Omega.{arith}
use Rattle.exports.specs.Packed.{placed}
use Rattle.exports.proofs.Places.{SmallPlace, place-small}
use Rattle.exports.proofs.eqlog_name.Goals as goal

pub overflow_mul-result : goal.overflow_mul-result
overflow_mul-result c = let s = place-small _ _ _ c.in-Some.ensures.place in omega arith

pub overflow_add-result : goal.overflow_add-result
overflow_add-result c = let s = place-small _ _ _ c.in-Some.ensures.place in omega arith

pub returns-in-Some : goal.returns-in-Some
returns-in-Some c =
    let s = subst SmallPlace c.in-Some.ensures.place (place-small _ _ _ c.in-Some.ensures.place) in
    record { number = ap placed c.in-Some.ensures.place; start_fits = s.0; len_fits = s.1 }
