-- The rows of an image as numbers: the place after each field, the children that a row holds, and its shape. A row is the two
-- location words, then the fields of its kind; places count the operand words.
use Rattle.std.specs.Prelude.{true, false, List, [], ◌∷◌, ◌++◌, ℕ, zero, suc, ◌+◌, eqb, get_or}
use Rattle.ast.specs.Image.{kind_at, start_at, op_at}
use Rattle.ast.specs.Kinds.{Field, name, opt_name, child, opt_child, list, lists, cases, no_child, kind_of}

-- what stands in a row for its children: one node, or a block of a branch
pub data Kid : Type 0 where
  one : ℕ → Kid
  many : List ℕ → Kid

-- nodes, one by one
unfoldable pub ones : List ℕ → List Kid
ones [] = []
ones (c ∷ cs) = one c ∷ ones cs

-- the child numbers, in row order
unfoldable pub numbers : List Kid → List ℕ
numbers [] = []
numbers (one c ∷ ks) = c ∷ numbers ks
numbers (many cs ∷ ks) = cs ++ numbers ks

module _ (img : List ℕ) where
  -- the c operand words from place p on
  unfoldable pub ops_from : ℕ → ℕ → List ℕ
  ops_from zero p = []
  ops_from (suc c) p = op_at img p ∷ ops_from c (p + 1)

  -- the place after c blocks from place p on, each a count and its items
  unfoldable pub after_blocks : ℕ → ℕ → ℕ
  after_blocks zero p = p
  after_blocks (suc c) p = after_blocks c (p + 1 + op_at img p)

  -- these blocks
  unfoldable pub block_kids : ℕ → ℕ → List Kid
  block_kids zero p = []
  block_kids (suc c) p = many (ops_from (op_at img p) (p + 1)) ∷ block_kids c (p + 1 + op_at img p)

  -- their counts
  unfoldable pub block_counts : ℕ → ℕ → List ℕ
  block_counts zero p = []
  block_counts (suc c) p = op_at img p ∷ block_counts c (p + 1 + op_at img p)

  -- the place after a field that starts at place p
  unfoldable pub after : Field → ℕ → ℕ
  after name p = p + 1
  after opt_name p = p + 1
  after (child k) p = p + 1
  after (opt_child k) p = p + 1
  after (list k) p = p + 1 + op_at img p
  after (lists k) p = after_blocks (op_at img p) (p + 1)
  after (cases ks) p = elim (eqb (get_or ks (op_at img p) no_child) no_child) [ true ↦ p + 1 | false ↦ p + 2 ]

  -- the children that a field holds
  unfoldable pub field_kids : Field → ℕ → List Kid
  field_kids name p = []
  field_kids opt_name p = []
  field_kids (child k) p = one (op_at img p) ∷ []
  field_kids (opt_child k) p = elim (op_at img p) [ zero ↦ [] | suc c ↦ one c ∷ [] ]
  field_kids (list k) p = ones (ops_from (op_at img p) (p + 1))
  field_kids (lists k) p = block_kids (op_at img p) (p + 1)
  field_kids (cases ks) p = elim (eqb (get_or ks (op_at img p) no_child) no_child) [ true ↦ [] | false ↦ one (op_at img (p + 1)) ∷ [] ]

  -- the shape words of a field: case number, counts, whether an option is there
  unfoldable pub field_shape : Field → ℕ → List ℕ
  field_shape name p = []
  field_shape opt_name p = elim (op_at img p) [ zero ↦ 0 | suc c ↦ 1 ] ∷ []
  field_shape (child k) p = []
  field_shape (opt_child k) p = elim (op_at img p) [ zero ↦ 0 | suc c ↦ 1 ] ∷ []
  field_shape (list k) p = op_at img p ∷ []
  field_shape (lists k) p = op_at img p ∷ block_counts (op_at img p) (p + 1)
  field_shape (cases ks) p = op_at img p ∷ []

  -- the same three of fields that follow one another
  unfoldable pub after_fields : List Field → ℕ → ℕ
  after_fields [] p = p
  after_fields (g ∷ gs) p = after_fields gs (after g p)

  unfoldable pub fields_kids : List Field → ℕ → List Kid
  fields_kids [] p = []
  fields_kids (g ∷ gs) p = field_kids g p ++ fields_kids gs (after g p)

  unfoldable pub fields_shape : List Field → ℕ → List ℕ
  fields_shape [] p = []
  fields_shape (g ∷ gs) p = field_shape g p ++ fields_shape gs (after g p)

  -- the fields that the kind of n says
  unfoldable pub fields_at : ℕ → List Field
  fields_at n = (kind_of (kind_at img n)).fields

  -- the place after the row of n
  unfoldable pub row_end : ℕ → ℕ
  row_end n = after_fields (fields_at n) (start_at img n + 2)

  -- the children of n, in row order
  unfoldable pub kids : ℕ → List Kid
  kids n = fields_kids (fields_at n) (start_at img n + 2)

  -- the shape of n: its shape words in row order
  unfoldable pub shape : ℕ → List ℕ
  shape n = fields_shape (fields_at n) (start_at img n + 2)

  -- the child numbers of the first m rows
  unfoldable pub kids_to : ℕ → List ℕ
  kids_to zero = []
  kids_to (suc m) = kids_to m ++ numbers (kids m)
