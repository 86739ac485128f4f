-- What the walk keeps of its table: the rows stand by rising scope, all below the count of scopes.
use Rattle.std.specs.Prelude.{List, ℕ, ◌<◌}
use Rattle.ast.specs.Image.{nodes}
use Rattle.table.specs.Rising.{scope_of, Sorted}
use Rattle.table.specs.Table.{Table}

module _ (img : List ℕ) where
  -- the rows stand by rising scope, each of a scope that is there
  pub record Kept (t : Table) : Type 0 where
    pub rising : Sorted (nodes img) t.symbols t.words
    pub under : (j : ℕ) → j < t.symbols → scope_of (nodes img) t.words j < t.scopes
