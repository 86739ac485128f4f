-- The answers of the C interface, each packed in one 64-bit number.
use Rattle.std.specs.Prelude.{◌≡◌, List, ℕ, ◌+◌, ◌*◌}
use Rattle.ast.specs.Answer.{Answer, refused, twice, result, located, other, Short, Fits}
use Rattle.names.specs.declared.NamePlace.{NamePlace}
use Rattle.scopes.specs.Resolve.{Outcome}
use Rattle.scopes.specs.Calls.{RowsOutcome}
use Rattle.index.specs.Index.{Outcome as IndexOutcome}
use Rattle.rename.specs.Rename.{Outcome as RenameOutcome}

-- a tag and three fields of 16 bits: tag · 2^48 + a · 2^32 + b · 2^16 + c
abbrev pub fields : ℕ → ℕ → ℕ → ℕ → ℕ
fields tag a b c = tag * 281474976710656 + a * 4294967296 + b * 65536 + c

-- tag 0 refused, 1 twice, 2 a result, 3 nothing or a lone occurrence; fields without a meaning are 0
unfoldable pub packed : Answer → ℕ
packed (refused number) = fields 0 0 0 number
packed (twice name first second) = fields 1 name first second
packed (result a b) = fields 2 0 a b
packed (located scope symbol node) = fields 2 scope symbol node
packed (other a b) = fields 3 0 a b

-- what an exported call hands back for an answer of document 01
pub record Packs (r : ℕ) (answer : Answer) : Type 0 where
  pub number : r ≡ packed answer  -- the answer, packed
  pub fits : Fits answer  -- no field runs into the next

-- what a call that is lent a table does: its packed answer, and the words of the table afterwards
pub record Leaves (o : Outcome) (r : ℕ) (table : List ℕ) : Type 0 where
  pub packs : Packs r o.answer
  pub table_is : table ≡ o.table

-- what a call that is lent rows too does
pub record LeavesRows (o : RowsOutcome) (r : ℕ) (table rows : List ℕ) : Type 0 where
  pub packs : Packs r o.answer
  pub table_is : table ≡ o.table
  pub rows_are : rows ≡ o.rows

-- what the call that makes an index does: its packed answer, and the words of the index afterwards
pub record LeavesIndex (o : IndexOutcome) (r : ℕ) (index : List ℕ) : Type 0 where
  pub packs : Packs r o.answer
  pub index_is : index ≡ o.index

-- what the call that renames does: its packed answer, the words of the table and of the rows, and the bytes of the output afterwards
pub record LeavesOutput (o : RenameOutcome) (r : ℕ) (table rows out : List ℕ) : Type 0 where
  pub packs : Packs r o.answer
  pub table_is : table ≡ o.table
  pub rows_are : rows ≡ o.rows
  pub out_is : out ≡ o.out

-- the place of a name's bytes in the image: start · 2^32 + length
abbrev pub placed : NamePlace → ℕ
placed p = p.start * 4294967296 + p.len

-- what the exported Name hands back for a place: the number, of which both are read off again
pub record Places (r : ℕ) (p : NamePlace) : Type 0 where
  pub number : r ≡ placed p
  pub start_fits : Short p.start
  pub len_fits : Short p.len
