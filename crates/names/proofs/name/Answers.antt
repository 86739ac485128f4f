use native.Mathlib.Omega.{arith}
use Rattle.names.proofs.NameParts.{name-part}
use Rattle.names.proofs.name.Goals as goal

pub slice_bounds-result-end : goal.slice_bounds-result-end
slice_bounds-result-end c = let p = name-part _ _ _ c.in-Some.ensures.place in omega arith

pub overflow_add-end : goal.overflow_add-end
overflow_add-end c = let p = name-part _ _ _ c.in-Some.ensures.place in omega arith

pub returns-in-Some-clause-bytes : goal.returns-in-Some-clause-bytes
returns-in-Some-clause-bytes c = (name-part _ _ _ c.in-Some.ensures.place).bytes_are

pub returns-in-None-clause-bytes : goal.returns-in-None-clause-bytes
returns-in-None-clause-bytes c = (name-part _ _ _ c.in-None.ensures.place).bytes_are
