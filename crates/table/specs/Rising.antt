-- The rows of symbols and the parents of scopes, and rows that stand by rising scope.
use Rattle.std.specs.Prelude.{List, ℕ, ◌<◌, ◌≤◌, length, get_or}
use Rattle.table.specs.Layout.{parent_place, scope_place, node_place, table_length}

-- the scope of row j, in the table of an image of n nodes
abbrev pub scope_of : ℕ → List ℕ → ℕ → ℕ
scope_of n ws j = get_or ws (scope_place n j) 0

-- its node
abbrev pub node_at : ℕ → List ℕ → ℕ → ℕ
node_at n ws j = get_or ws (node_place n j) 0

-- the parent of a scope
abbrev pub parent_at : ℕ → List ℕ → ℕ → ℕ
parent_at n ws s = get_or ws (parent_place n s) 0

-- the first y rows are within the table and stand by rising scope
pub record Sorted (n y : ℕ) (ws : List ℕ) : Type 0 where
  pub within : y ≤ n
  pub long : table_length n ≤ length ws
  pub rises : (i j : ℕ) → i ≤ j → j < y → scope_of n ws i ≤ scope_of n ws j
