-- Every number of Errors' answer fits 16 bits.
use mathlib.Core.List.{List}
use Prim.Native.Nat.{ℕ}
use native.Mathlib.Omega.{arith}
use Rattle.ast.specs.Answer.{Fits}
use Rattle.ast.proofs.Refusals.{Low, first-low, need-low}
use Rattle.scopes.proofs.Fitting.{rows-low, rows_fit}
use Rattle.bindings.specs.Errors.{error_rows, test_errors, errors}
use Rattle.bindings.proofs.Bound.{rows_few}
use Rattle.bindings.proofs.Calls.{errors-table}

pub errors-low : (img tab rows : List ℕ) (mode : ℕ) → Low (test_errors img tab rows mode)
unfolding test_errors
errors-low img tab rows mode = first-low _ _ (rows-low img tab rows) (need-low 15 _ (omega arith))

pub errors-fit : (img tab rows : List ℕ) (mode : ℕ) → Fits (errors img tab rows mode).answer
unfolding errors
errors-fit img tab rows mode =
    rows_fit img tab rows (λ t. error_rows img t mode) (errors-low img tab rows mode) (errors-table img tab rows mode) (λ a t. rows_few img a t mode)
