-- Document 02's S-6, for all inputs: mode 0 is mode 2, in Errors and in Sorted, and mode 1 is plain.
use mathlib.Core.Path.{◌≡◌, refl}
use mathlib.Core.List.{List}
use Prim.Native.Nat.{ℕ}
use Rattle.std.proofs.lemmas.List.{append-nil}
use Rattle.table.specs.Table.{Table}
use Rattle.bindings.specs.Errors.{is_strict, plain_rows, error_rows, test_errors, errors}
use Rattle.sorted.specs.Sorted.{sorted}

-- by default strict: one answer, one table and the same rows
pub errors-default : (img tab rows : List ℕ) → errors img tab rows 0 ≡ errors img tab rows 2
unfolding is_strict error_rows test_errors errors
errors-default img tab rows = refl

pub sorted-default : (img tab rows : List ℕ) → sorted img tab rows 0 ≡ sorted img tab rows 2
unfolding is_strict error_rows test_errors sorted
sorted-default img tab rows = refl

-- in mode 1 rows 1 to 3 alone, whatever the table: those that the Rust has, and the report
pub plain-alone : (img : List ℕ) (t : Table) → error_rows img t 1 ≡ plain_rows img t
unfolding is_strict error_rows
plain-alone img t = append-nil (plain_rows img t)
