-- The calls that write rows: their refusals, and what they leave.
use Rattle.std.specs.Prelude.{List, ℕ, leb, length, replicate}
use Rattle.ast.specs.Image.{nodes}
use Rattle.ast.specs.Tests.{◌▸◌, need}
use Rattle.ast.specs.Answer.{Answer, result}
use Rattle.table.specs.Layout.{table_length}
use Rattle.table.specs.Table.{Table}
use Rattle.rows.specs.Rows.{Row, rows_length, written}
use Rattle.scopes.specs.Resolve.{test_table, Way, refuses, stops, fills, way, answer_by, table_by}

-- words of zeros, a table and rows, enough for any image: what a call of ours lends to another
abbrev pub lent_table : List ℕ
lent_table = replicate (table_length 2048) 0

abbrev pub lent_rows : List ℕ
lent_rows = replicate (rows_length 2048) 0

-- the refusals of a call that is lent rows too: 1 to 14
unfoldable pub test_rows : List ℕ → List ℕ → List ℕ → ℕ
test_rows img tab rows = test_table img tab ▸ need 14 (leb (rows_length (nodes img)) (length rows))

-- an answer, and the words of the table and of the rows afterwards
pub record RowsOutcome : Type 0 where
  pub answer : Answer
  pub table : List ℕ
  pub rows : List ℕ

-- the words of the rows afterwards, where f gives the rows that a filled table has: untouched, or written
unfoldable pub rows_by : List ℕ → List ℕ → (Table → List Row) → Way → List ℕ
rows_by img rows f (refuses number) = rows
rows_by img rows f (stops x a b) = rows
rows_by img rows f (fills t) = written (nodes img) (f t) rows

-- a call that is lent a table and rows: by its refusal, 0 for none, and the rows that the table which it has filled has; it answers how many
unfoldable pub rows_call : List ℕ → List ℕ → List ℕ → ℕ → (Table → List Row) → RowsOutcome
rows_call img tab rows refusal f =
    let w = way img tab refusal in
    record { answer = answer_by (λ t. result 0 (length (f t))) w; table = table_by img tab w; rows = rows_by img rows f w }
