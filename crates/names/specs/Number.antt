-- The number of a name that is given by its bytes.
use Rattle.std.specs.Prelude.{true, false, List, ℕ, zero, suc, ◌+◌, Option as Given, Some, None}
use Rattle.std.proofs.Math.Option.{Option, none, some}
use Rattle.ast.specs.Image.{names, name_bytes}
use Rattle.ast.specs.Tests.{same}

module _ (img : List ℕ) where
  -- the number of the name with these bytes, among the c names from i on
  unfoldable pub number_from : ℕ → ℕ → List ℕ → Option ℕ
  number_from zero i bs = none
  number_from (suc c) i bs = elim (same (name_bytes img i) bs) [ true ↦ some i | false ↦ number_from c (i + 1) bs ]

  unfoldable pub number_of : List ℕ → Option ℕ
  unfolding number_from
  number_of bs = number_from (names img) 0 bs

-- the code's value as the definition's
abbrev pub number_in : Given ℕ → Option ℕ
number_in (Some x) = some x
number_in None = none
