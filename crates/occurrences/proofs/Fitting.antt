-- Every number of the answers of Occurrences and Once fits 16 bits.
use mathlib.Core.Path.{◌≡◌, refl}
use mathlib.Core.List.{List}
use mathlib.Core.Option.{Option, none as nothing, some}
use Prim.Native.Nat.{ℕ}
use native.Mathlib.Omega.{arith}
use Rattle.ast.specs.Answer.{Fits}
use Rattle.ast.specs.Rules.{module_rules}
use Rattle.ast.proofs.Accepted.{sized}
use Rattle.table.specs.Table.{Table}
use Rattle.rows.specs.Rows.{Row}
use Rattle.scopes.specs.Resolve.{counted, table_call}
use Rattle.scopes.proofs.Calls.{rows-table}
use Rattle.scopes.proofs.Fitting.{table-low, rows-low, call_fits, rows_fit}
use Rattle.scopes.proofs.Headed.{FilledTable, counted-filled}
use Rattle.occurrences.specs.Occurrences.{occurrence_rows, lone, rows_by_rule, lone_answer, occurrences, once}
use Rattle.occurrences.proofs.Few.{rows_few, lone_below}

pub occurrences-fit : (img tab rows : List ℕ) → Fits (occurrences img tab rows).answer
unfolding occurrences
occurrences-fit img tab rows = rows_fit img tab rows (occurrence_rows img) (rows-low img tab rows) (rows-table img tab rows) (λ a t. rows_few img t a)

-- Once -------------------------------------------------------------------------------------------------------------------
-- a lone occurrence and its binding are below N
lone-fits : (img : List ℕ) (t : Table) → FilledTable img t → (o : Option Row) → lone (rows_by_rule img t (module_rules img)) ≡ o → Fits (lone_answer o)
unfolding lone_answer Fits
lone-fits img t g nothing p = (omega arith, omega arith)
lone-fits img t g (some w) p =
    let s = sized img g.accepted in
    let l = lone_below img t g.symbols g.accepted w p in
    (omega arith, omega arith)

pub once-fits : (img tab : List ℕ) → Fits (once img tab).answer
unfolding once table_call
once-fits img tab =
    call_fits img tab (λ t. lone_answer (lone (rows_by_rule img t (module_rules img)))) (table-low img tab) (λ p. p)
    (λ e q h. lone-fits img (counted img e.table) (counted-filled img tab q h) _ refl)
