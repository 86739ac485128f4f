-- The words of an image as document 01 lays them out: the sizes N, C, S, B; N kinds and N starts; C operand words; S name ends;
-- B name bytes. Every read is total: 0 where the word is not there.
use Rattle.std.specs.Prelude.{true, false, List, ℕ, zero, suc, ◌+◌, ◌*◌, ◌-◌, leb, eqb, length, get_or, take, drop}

-- the little-endian word at a byte offset; 0 where it does not fit
unfoldable pub word : List ℕ → ℕ → ℕ
word img o = elim (leb (o + 4) (length img)) [
  | true ↦ get_or img o 0 + 256 * get_or img (o + 1) 0 + 65536 * get_or img (o + 2) 0 + 16777216 * get_or img (o + 3) 0
  | false ↦ 0
]

-- N, the number of nodes
unfoldable pub nodes : List ℕ → ℕ
nodes img = word img 0

-- the kind of the node n
unfoldable pub kind_at : List ℕ → ℕ → ℕ
kind_at img n = word img (16 + 4 * n)

-- the place where the row of the node n starts
unfoldable pub start_at : List ℕ → ℕ → ℕ
start_at img n = word img (16 + 4 * nodes img + 4 * n)

-- the operand word at place p: places count the operand words from 0
unfoldable pub op_at : List ℕ → ℕ → ℕ
op_at img p = word img (16 + 8 * nodes img + 4 * p)

-- the j-th word of the row of n after its two location words
unfoldable pub field : List ℕ → ℕ → ℕ → ℕ
field img n j = op_at img (start_at img n + 2 + j)

-- the name number of a node that has a name: an optional one, of RuleDecl (6) and ArgDecl (10), is its word less 1
unfoldable pub name_of : List ℕ → ℕ → ℕ
name_of img n = elim (eqb (kind_at img n) 6) [
  | true ↦ field img n 0 - 1
  | false ↦ elim (eqb (kind_at img n) 10) [ true ↦ field img n 0 - 1 | false ↦ field img n 0 ]
]

module _ (img : List ℕ) where
  -- C, the number of operand words
  unfoldable pub operands : ℕ
  operands = word img 4

  -- S, the number of names
  unfoldable pub names : ℕ
  names = word img 8

  -- B, the number of name bytes
  unfoldable pub bytes : ℕ
  bytes = word img 12

  -- the last node
  unfoldable pub last : ℕ
  last = nodes img - 1

  -- the end of the name i among the name bytes
  unfoldable pub name_end : ℕ → ℕ
  name_end i = word img (16 + 8 * nodes img + 4 * operands + 4 * i)

  -- its start: the end of the name before, 0 for the first
  unfoldable pub name_start : ℕ → ℕ
  name_start zero = 0
  name_start (suc i) = name_end i

  -- where the name bytes begin in the image
  abbrev pub bytes_place : ℕ
  bytes_place = 16 + 8 * nodes img + 4 * operands + 4 * names

  -- the bytes of the name i
  unfoldable pub name_bytes : ℕ → List ℕ
  name_bytes i = take (name_end i - name_start i) (drop (bytes_place + name_start i) img)
