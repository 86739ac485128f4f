-- What Lookup's answer says of a table: the words of document 02's S-2.
use Rattle.std.specs.Prelude.{◌≡◌, List, ℕ}
use Rattle.std.proofs.Math.Option.{some}
use Rattle.ast.specs.Image.{kind_at}
use Rattle.names.specs.Number.{number_of}
use Rattle.sound.specs.Sound.{table_in}
use Rattle.table.specs.Table.{symbol_of}
use Rattle.table.specs.Where.{FoundAt}

-- what Lookup says of the name with the bytes bs, from the scope s, by a scope, a symbol number and a node: it is found so, and the number
-- is that of the node's kind
pub record Located (img tab : List ℕ) (s : ℕ) (bs : List ℕ) (u k n : ℕ) : Type 0 where
  pub name : ℕ
  pub named : number_of img bs ≡ some name
  pub at : FoundAt img (table_in img tab) s name (record { node = n; scope = u })
  pub symbol : k ≡ symbol_of (kind_at img n)
