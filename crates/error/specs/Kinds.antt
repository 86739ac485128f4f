-- The numbers of the error rows, as document 01 gives them, and below which kinds row 1 is asked for.
use Rattle.std.specs.Prelude.{Bool, true, false, ◌||◌, ℕ, eqb}
use Rattle.error.specs.declared.ErrorKind.{ErrorKind}
use Rattle.error.specs.declared.ErrorKind.TheVariants.{SymbolDeclaredTwice, VariableIntroducedInThenStmt, ThenDefinedVarNotNew, MatchPatternArgVarIsNotFresh, VariableOccursOnlyOnce, RepeatedArgument}

abbrev pub introduced_in_then : ℕ
introduced_in_then = 1

abbrev pub defined_not_new : ℕ
defined_not_new = 2

abbrev pub pattern_not_fresh : ℕ
pattern_not_fresh = 3

-- strict mode alone; the Rust has no such kind
abbrev pub repeated_argument : ℕ
repeated_argument = 4

-- the row number of each kind; 0 for the two that are answers of their own and stand in no row
abbrev pub row_number : ErrorKind → ℕ
row_number SymbolDeclaredTwice = 0
row_number VariableIntroducedInThenStmt = introduced_in_then
row_number ThenDefinedVarNotNew = defined_not_new
row_number MatchPatternArgVarIsNotFresh = pattern_not_fresh
row_number VariableOccursOnlyOnce = 0
row_number RepeatedArgument = repeated_argument

-- below a then-atom rows of number 1 are asked for, and not below Dom, Cod or a predicate's receiver
unfoldable pub asked : ℕ → Bool → Bool
asked k a =
    elim (eqb k 29) [
      | true ↦ true
      | false ↦ elim (eqb k 18 || (eqb k 19 || eqb k 26)) [ true ↦ false | false ↦ a ]
    ]
