-- Where a walk stands: its scope, and the table. The steps of a walk on them.
use Rattle.std.specs.Prelude.{List, ℕ}
use Rattle.table.specs.Layout.{all_ones}
use Rattle.table.specs.Table.{Table, mark, new_scope, new_symbol}

-- the scope after a walk, and the table
pub record Walked : Type 0 where
  pub scope : ℕ
  pub table : Table

module _ (img : List ℕ) where
  -- a new scope, below the one that the walk stands in
  unfoldable pub child_scope : Walked → Walked
  unfolding new_scope
  child_scope e = record { scope = e.table.scopes; table = new_scope img e.scope e.table }

  -- the node n as a symbol of the scope that the walk stands in
  unfoldable pub own_symbol : ℕ → Walked → Walked
  unfolding new_symbol
  own_symbol n e = record { scope = e.scope; table = new_symbol img e.scope n e.table }

  -- the node n as the symbol of a new scope
  unfoldable pub introduce : ℕ → Walked → Walked
  unfolding own_symbol child_scope
  introduce n e = own_symbol n (child_scope e)

  -- the node n, entered at the scope cur and left at e's
  unfoldable pub marked : ℕ → ℕ → Walked → Walked
  unfolding mark
  marked n cur e = record { scope = e.scope; table = mark img n cur e.scope e.table }

  -- an AppHeadMember, for which the Rust records nothing: all ones in both places
  unfoldable pub unmarked : ℕ → Walked → Walked
  unfolding mark
  unmarked n e = record { scope = e.scope; table = mark img n all_ones all_ones e.table }

  -- in the scope cur again
  abbrev pub back : ℕ → Walked → Walked
  back cur e = record { scope = cur; table = e.table }
