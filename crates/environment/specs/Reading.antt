-- What the checks read, as the definitions see it.
use Rattle.std.specs.Prelude.{List, ℕ}
use Rattle.table.specs.Table.{Table}
use Rattle.environment.specs.declared.Scopes.{Scopes}

-- the table that is read
abbrev pub table_in : Scopes → Table
table_in s = record { words = s.table.now; scopes = s.scopes; symbols = s.symbols }

-- what a definition says of the image and the table that are read
abbrev pub seen {ℓ} : {A : Type ℓ} → (List ℕ → Table → A) → Scopes → A
seen f s = f s.image.now (table_in s)
