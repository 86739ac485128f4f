-- Occurrences and Once: the list of variable occurrences with their bindings, and the first lone one.
use Rattle.std.proofs.Math.Bool.{true, false}
use mathlib.Core.List.{List, [], ◌∷◌, ◌++◌}
use Rattle.std.proofs.Math.Option.{Option, none as nothing, some}
use Rattle.std.specs.Prelude.{ℕ, suc, eqb, leb}
use Rattle.ast.specs.Answer.{Answer, result, other}
use Rattle.table.specs.Table.{Table, is_kind, is_var, at_exit}
use Rattle.rows.specs.Rows.{Row, row}
use Rattle.scopes.specs.Resolve.{test_table, Outcome, table_call}
use Rattle.scopes.specs.Calls.{test_rows, RowsOutcome, rows_call}
use Rattle.occurrences.specs.Spots.{Spot, rule_spots}
use Rattle.ast.specs.Rules.{Rule, module_rules}

module _ (img : List ℕ) (t : Table) where
  -- the binding: what lookup of its name gives, in the table, at the exit of the occurrence's node
  abbrev pub found : Spot → Option ℕ
  found s = at_exit img t s.node s.ident

  unfoldable pub listed : ℕ → Option ℕ → List Row → List Row
  unfolding is_kind
  listed n nothing l = l
  listed n (some i) l = elim (is_var img (some i)) [ true ↦ row n i ∷ l | false ↦ l ]

  -- the rows for spots: those that lookup gives as a Var
  unfoldable pub rows_for : List Spot → List Row
  unfolding listed
  rows_for [] = []
  rows_for (s ∷ l) = listed s.node (found s) (rows_for l)

  -- the list of a rule
  unfoldable pub rule_rows : Rule → List Row
  unfolding rows_for rule_spots
  rule_rows r = rows_for (rule_spots r.statements)

  -- the list of some rules, one after another
  unfoldable pub all_rows : List Rule → List Row
  unfolding rule_rows
  all_rows [] = []
  all_rows (r ∷ rs) = rule_rows r ++ all_rows rs

  unfoldable pub occurrence_rows : List Row
  unfolding all_rows module_rules
  occurrence_rows = all_rows (module_rules img)

-- how often a binding stands in a list of rows
unfoldable pub times_bound : ℕ → List Row → ℕ
times_bound b [] = 0
times_bound b (w ∷ l) = elim (eqb b w.right) [ true ↦ suc (times_bound b l) | false ↦ times_bound b l ]

-- the first of the rows `left` whose binding stands under two times in `all`
unfoldable pub lone_in : List Row → List Row → Option Row
unfolding times_bound
lone_in all [] = nothing
lone_in all (w ∷ left) = elim (leb 2 (times_bound w.right all)) [ true ↦ lone_in all left | false ↦ some w ]

-- the first lone occurrence: counts are per binding and per rule
unfoldable pub lone : List (List Row) → Option Row
unfolding lone_in
lone [] = nothing
lone (l ∷ ls) = elim (lone_in l l) [ nothing ↦ lone ls | some w ↦ some w ]

unfoldable pub rows_by_rule : List ℕ → Table → List Rule → List (List Row)
unfolding rule_rows
rows_by_rule img t [] = []
rows_by_rule img t (r ∷ rs) = rule_rows img t r ∷ rows_by_rule img t rs

-- what Once says: "ok", or the lone occurrence with its binding
unfoldable pub lone_answer : Option Row → Answer
lone_answer nothing = result 0 0
lone_answer (some w) = other w.left w.right

module _ (img : List ℕ) where
  -- document 01's Occurrences
  unfoldable pub occurrences : List ℕ → List ℕ → RowsOutcome
  occurrences tab rows = rows_call img tab rows (test_rows img tab rows) (occurrence_rows img)

  -- document 01's Once
  unfoldable pub once : List ℕ → Outcome
  once tab = table_call img tab (test_table img tab) (λ t. lone_answer (lone (rows_by_rule img t (module_rules img))))
