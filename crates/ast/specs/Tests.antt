-- The image tests: document 01's table of refusals, read downward, a place at a time: the first refusal of 1 to 12, or 0 for an
-- accepted image.
use Rattle.std.specs.Prelude.{Bool, true, false, not, List, [], ◌∷◌, ℕ, zero, suc, ◌+◌, ◌*◌, leb, ltb, eqb, length, get_or}
use Rattle.ast.specs.Image.{nodes, operands, names, bytes, last, kind_at, start_at, op_at, name_start, name_end, name_bytes}
use Rattle.ast.specs.Kinds.{Field, name, opt_name, child, opt_child, list, lists, cases, no_child}
use Rattle.ast.specs.Rows.{after, fields_at, row_end, kids_to}

infixr 30 ◌▸◌
-- the first refusal of two: the left one is tested first
unfoldable pub ◌▸◌ : ℕ → ℕ → ℕ
zero ▸ b = b
suc a ▸ b = suc a

-- the refusal r where the test fails
unfoldable pub need : ℕ → Bool → ℕ
need r true = 0
need r false = r

-- the first refusal of c tests, at i, i + 1 and so on
unfoldable pub run : (ℕ → ℕ) → ℕ → ℕ → ℕ
run f zero i = 0
run f (suc c) i = let rest = run f c (i + 1) in f i ▸ rest

-- 1 for the same number, else 0
unfoldable pub is : ℕ → ℕ → ℕ
is v c = elim (eqb v c) [ true ↦ 1 | false ↦ 0 ]

-- how often a number stands in a list
unfoldable pub times : ℕ → List ℕ → ℕ
times v [] = 0
times v (c ∷ cs) = is v c + times v cs

-- equal bytes
unfoldable pub same : List ℕ → List ℕ → Bool
same [] [] = true
same [] (y ∷ ys) = false
same (x ∷ xs) [] = false
same (x ∷ xs) (y ∷ ys) = elim (eqb x y) [ true ↦ same xs ys | false ↦ false ]

module _ (img : List ℕ) where
  -- sizes. 1: under 16 bytes. 2: N is 0 or over 2,048, C over 8,192, S over 1,024 or B over 8,192. 3: the byte length is not
  -- 16 + 8N + 4C + 4S + B
  unfoldable pub test_sizes : ℕ
  test_sizes = need 1 (leb 16 (length img))
      ▸ need 2 (ltb 0 (nodes img)) ▸ need 2 (leb (nodes img) 2048)
      ▸ need 2 (leb (operands img) 8192) ▸ need 2 (leb (names img) 1024) ▸ need 2 (leb (bytes img) 8192)
      ▸ need 3 (eqb (length img) (16 + 8 * nodes img + 4 * (operands img) + 4 * (names img) + (bytes img)))

  -- 4: the name i ends above the end of the one before, the first above 0
  abbrev pub rising : ℕ → ℕ
  rising i = need 4 (ltb (name_start img i) (name_end img i))

  -- 4: name ends rise strictly from above 0, and the last is B (S = 0 wants B = 0)
  unfoldable pub test_ends : ℕ
  test_ends = run rising (names img) 0 ▸ need 4 (eqb (name_start img (names img)) (bytes img))

  -- 5: the names j and i have unequal bytes
  abbrev pub unequal : ℕ → ℕ → ℕ
  unequal i j = need 5 (not (same (name_bytes img j) (name_bytes img i)))

  -- 5: no two names have equal bytes
  unfoldable pub test_twice : ℕ
  test_twice = run (λ i. run (unequal i) i 0) (names img) 0

  -- names: 4 before 5
  unfoldable pub test_names : ℕ
  unfolding test_ends test_twice
  test_names = test_ends ▸ test_twice

  -- 7: a word of a row lies at or past C
  unfoldable pub in_row : ℕ → ℕ
  in_row p = need 7 (ltb p (operands img))

  module _ (n : ℕ) where
    -- 9: a child number not below its own, or a child of the wrong kind
    unfoldable pub is_child : ℕ → ℕ → ℕ
    is_child k c = need 9 (ltb c n) ▸ need 9 (eqb (kind_at img c) k)

    -- 7, then 9: the word at place p, a child of kind k
    unfoldable pub child_word : ℕ → ℕ → ℕ
    child_word k p = in_row p ▸ is_child k (op_at img p)

    -- 7, 9: c blocks of children of kind k from place p on
    unfoldable pub test_blocks : ℕ → ℕ → ℕ → ℕ
    test_blocks k zero p = 0
    test_blocks k (suc c) p =
        let rest = test_blocks k c (p + 1 + op_at img p) in
        in_row p ▸ run (child_word k) (op_at img p) (p + 1) ▸ rest

    -- 7, 8, 9: a field that starts at place p, its words left to right, each first for lying below C (7), then for what it holds:
    -- 8 for a case number or name number that does not exist, 9 for a child; a count has no test of its own
    unfoldable pub test_field : Field → ℕ → ℕ
    test_field name p = in_row p ▸ need 8 (ltb (op_at img p) (names img))
    test_field opt_name p = in_row p ▸ need 8 (leb (op_at img p) (names img))
    test_field (child k) p = child_word k p
    test_field (opt_child k) p = in_row p ▸ elim (op_at img p) [ zero ↦ 0 | suc c ↦ is_child k c ]
    test_field (list k) p = in_row p ▸ run (child_word k) (op_at img p) (p + 1)
    test_field (lists k) p = in_row p ▸ test_blocks k (op_at img p) (p + 1)
    test_field (cases ks) p =
        in_row p ▸ need 8 (ltb (op_at img p) (length ks))
        ▸ elim (eqb (get_or ks (op_at img p) no_child) no_child) [ true ↦ 0 | false ↦ child_word (get_or ks (op_at img p) no_child) (p + 1) ]

    -- the fields of a row, from place p on
    unfoldable pub test_fields : List Field → ℕ → ℕ
    test_fields [] p = 0
    test_fields (g ∷ gs) p = let rest = test_fields gs (after img g p) in test_field g p ▸ rest

  -- the end of the row before; 0 for the first
  unfoldable pub end_before : ℕ → ℕ
  end_before zero = 0
  end_before (suc n) = row_end img n

  -- each node. 6: kind over 40. 7: its start is not the end of the row before. Then its words, those of its location first
  unfoldable pub test_node : ℕ → ℕ
  test_node n = need 6 (leb (kind_at img n) 40) ▸ need 7 (eqb (start_at img n) (end_before n))
      ▸ in_row (start_at img n) ▸ in_row (start_at img n + 1) ▸ test_fields n (fields_at img n) (start_at img n + 2)

  -- 11: a node other than the last stands as a child in no place or in several
  unfoldable pub test_parents : ℕ
  test_parents = let cs = kids_to img (nodes img) in run (λ v. need 11 (eqb (times v cs) 1)) (last img) 0

  -- the first word of a row after its location: a term's case number, an if-var's term, the word of a defined-then's variable
  unfoldable pub first : ℕ → ℕ
  first n = op_at img (start_at img n + 2)

  -- 12: the term c is neither Ident (0) nor Wildcard (1)
  unfoldable pub is_var : ℕ → ℕ
  is_var c = need 12 (leb (first c) 1)

  -- 12: of an if-var (33) its term, of a defined-then (34) its variable, if it has one
  unfoldable pub test_var : ℕ → ℕ
  test_var n = elim (eqb (kind_at img n) 33) [
    | true ↦ is_var (first n)
    | false ↦ elim (eqb (kind_at img n) 34) [
      | true ↦ elim (first n) [ zero ↦ 0 | suc c ↦ is_var c ]
      | false ↦ 0
    ]
  ]

  -- whole tree. 10: the last row does not end at C, or the last node is not Module. Then 11, then 12
  unfoldable pub test_tree : ℕ
  test_tree = need 10 (eqb (row_end img (last img)) (operands img)) ▸ need 10 (eqb (kind_at img (last img)) 0) ▸ test_parents ▸ run test_var (nodes img) 0

  -- the image test: sizes, names, each node by rising number, whole tree
  unfoldable pub verdict : ℕ
  verdict = test_sizes ▸ test_names ▸ run test_node (nodes img) 0 ▸ test_tree
