-- What a walk fills, as the definitions see it.
use Rattle.std.specs.Prelude.{◌≡◌, List, ℕ, length}
use Rattle.table.specs.State.{Walked}
use Rattle.table.specs.Table.{Table}
use Rattle.table.specs.declared.ScopeId.{ScopeId}
use Rattle.environment.specs.declared.ScopeBuilder.{ScopeBuilder}

-- the table that the walk fills
abbrev pub table_of : ScopeBuilder → Table
table_of b = record { words = b.table.now; scopes = b.scopes; symbols = b.symbols }

-- where the walk stands: a scope, and the table
abbrev pub walked_of : ScopeBuilder → ScopeId → Walked
walked_of b s = record { scope = s.0; table = table_of b }

-- where a walk stands over words that are only read, with so many scopes and symbols
abbrev pub walked_in : List ℕ → ℕ → ℕ → ScopeId → Walked
walked_in ws scopes symbols s = record { scope = s.0; table = record { words = ws; scopes = scopes; symbols = symbols } }

-- the image that a builder was lent, and the words, are lent to it still, and as many
pub record Keeps (old new : ScopeBuilder) : Type 0 where
  pub image : new.image.now ≡ old.image.now
  pub table : new.table.ghost_name ≡ old.table.ghost_name
  pub env : new.env.ghost_name ≡ old.env.ghost_name
  pub long : length new.table.now ≡ length old.table.now
