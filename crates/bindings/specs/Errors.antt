-- The error rows, in check_bindings' order, and document 01's Errors in its three modes, as document 02's S-6 has them.
use Rattle.std.specs.Prelude.{Bool, ◌&&◌, leb, eqb}
use Rattle.std.proofs.Math.Bool.{true, false, not}
use mathlib.Core.List.{List, [], ◌∷◌, ◌++◌}
use Rattle.std.proofs.Math.Option.{Option, none as nothing, some}
use Prim.Native.Nat.{ℕ, zero, suc, ◌+◌}
use Rattle.ast.specs.Named.{ctor_decl_kind, arg_decl_list_kind, app_term_kind}
use Rattle.ast.specs.Image.{nodes, last, kind_at, start_at, field}
use Rattle.ast.specs.Kinds.{outer, inner, root, decl, signature, rule, enum, model, plain, term, ident, head, head_member, member, case, if_var, defined_then, arg}
use Rattle.ast.specs.Tests.{◌▸◌, need}
use Rattle.ast.specs.Tree.{Tree, node, block, Trees, none, ◌◂◌, tree_at}
use Rattle.ast.specs.Rows.{ops_from}
use Rattle.error.specs.Kinds.{introduced_in_then, defined_not_new, pattern_not_fresh, repeated_argument, asked}
use Rattle.table.specs.Table.{Table, is_kind, is_var, at_entry, at_exit}
use Rattle.rows.specs.Rows.{Row, row}
use Rattle.scopes.specs.Twice.{among}
use Rattle.scopes.specs.Calls.{test_rows, RowsOutcome, rows_call}
use Rattle.rows.specs.Rows.{when}

unfoldable pub same_node : Option ℕ → Option ℕ → Bool
same_node nothing o = false
same_node (some a) nothing = false
same_node (some a) (some b) = eqb a b

module _ (img : List ℕ) (t : Table) where
  -- the term n, of the IdentTerm i, introduces its name: it is a Var at the exit, and not that one at the entry
  unfoldable pub introduces : ℕ → ℕ → Bool
  unfolding same_node
  introduces n i = is_var img (at_exit img t n i) && not (same_node (at_exit img t n i) (at_entry img t n i))

  -- row 1
  unfoldable pub introduced_row : Bool → ℕ → ℕ → List Row
  unfolding introduces when
  introduced_row asks n i = when (asks && introduces n i) (row introduced_in_then n)

  -- row 2, at the variable of a defined-then below the atom `at`
  unfoldable pub defined_row : ℕ → Tree → List Row
  unfolding when
  defined_row at (block ts) = []
  defined_row at (node n k c sh none) = []
  defined_row at (node n k c sh (block ts ◂ us)) = []
  defined_row at (node n k c sh (node i l d sh2 ts ◂ us)) = when (is_var img (at_entry img t at i)) (row defined_not_new n)

  unfoldable pub defined_rows : ℕ → Trees → List Row
  unfolding defined_row
  defined_rows at none = []
  defined_rows at (u ◂ us) = defined_row at u ++ defined_rows at us

  -- row 3: an ident argument of a pattern that is a Var at its own entry
  unfoldable pub arg_row : Tree → List Row
  unfolding when
  arg_row (block ts) = []
  arg_row (node n k c [] ts) = []
  arg_row (node n k c (suc x ∷ sh) ts) = []
  arg_row (node n k c (zero ∷ sh) none) = []
  arg_row (node n k c (zero ∷ sh) (block ts ◂ us)) = []
  arg_row (node n k c (zero ∷ sh) (node i l d sh2 ts ◂ us)) = when (is_var img (at_entry img t n i)) (row pattern_not_fresh n)

  unfoldable pub arg_rows : Trees → List Row
  unfolding arg_row
  arg_rows none = []
  arg_rows (u ◂ us) = arg_row u ++ arg_rows us

  -- the arguments of an application: below its TermList
  unfoldable pub list_rows : Trees → List Row
  unfolding arg_rows
  list_rows none = []
  list_rows (block ts ◂ us) = []
  list_rows (node n k c sh ts ◂ us) = arg_rows ts

  -- the head is an ident that lookup gives as Ctor
  unfoldable pub is_ctor : Tree → Bool
  is_ctor (block ts) = false
  is_ctor (node n k c [] ts) = false
  is_ctor (node n k c (suc x ∷ sh) ts) = false
  is_ctor (node n k c (zero ∷ sh) none) = false
  is_ctor (node n k c (zero ∷ sh) (block ts ◂ us)) = false
  is_ctor (node n k c (zero ∷ sh) (node i l d sh2 ts ◂ us)) = is_kind img ctor_decl_kind (at_exit img t n i)

  unfoldable pub app_rows : Trees → List Row
  unfolding is_ctor list_rows
  app_rows none = []
  app_rows (h ◂ us) = elim (is_ctor h) [ true ↦ list_rows us | false ↦ [] ]

  -- rows 3 of a case's pattern: a term of case App
  unfoldable pub pattern_rows : Trees → List Row
  unfolding app_rows
  pattern_rows none = []
  pattern_rows (block ts ◂ us) = []
  pattern_rows (node n k c sh none ◂ us) = []
  pattern_rows (node n k c sh (block ts ◂ vs) ◂ us) = []
  pattern_rows (node n k c sh (node m l d sh2 ts ◂ vs) ◂ us) = elim (eqb l app_term_kind) [ true ↦ app_rows ts | false ↦ [] ]

  -- the rows of a rule's tree: whether rows 1 are asked for, and the node above
  unfoldable mutual
    unfolding asked introduced_row defined_rows pattern_rows

    pub rows_of : Bool → ℕ → Tree → List Row
    rows_of a o (block ts) = rows_seq a o ts
    rows_of a o (node n k (outer c) sh ts) = []
    rows_of a o (node n k (inner plain) sh ts) = rows_seq (asked k a) n ts
    rows_of a o (node n k (inner term) sh ts) = rows_seq a n ts
    rows_of a o (node n k (inner ident) sh ts) = introduced_row a o n
    rows_of a o (node n k (inner head) [] ts) = []
    rows_of a o (node n k (inner head) (zero ∷ sh) ts) = []
    rows_of a o (node n k (inner head) (suc x ∷ sh) ts) = rows_seq a n ts
    rows_of a o (node n k (inner head_member) sh ts) = rows_first a n ts
    rows_of a o (node n k (inner member) sh ts) = rows_first a n ts
    rows_of a o (node n k (inner case) sh ts) = pattern_rows ts ++ rows_seq a n ts
    rows_of a o (node n k (inner if_var) sh ts) = []
    rows_of a o (node n k (inner defined_then) sh ts) = rows_defined a o n ts
    rows_of a o (node n k (inner arg) sh ts) = []

    pub rows_seq : Bool → ℕ → Trees → List Row
    rows_seq a o none = []
    rows_seq a o (u ◂ us) = rows_of a o u ++ rows_seq a o us

    -- the first alone
    pub rows_first : Bool → ℕ → Trees → List Row
    rows_first a o none = []
    rows_first a o (u ◂ us) = rows_of a o u

    -- a defined-then: row 2 at its variable, then the rows of its term
    pub rows_defined : Bool → ℕ → ℕ → Trees → List Row
    rows_defined a at o none = []
    rows_defined a at o (u ◂ us) = defined_rows at us ++ rows_of a o u

  -- the rows of the rules of a declaration list, models included
  unfoldable mutual
    unfolding rows_seq

    pub decl_rows : Tree → List Row
    decl_rows (block ts) = []
    decl_rows (node n k (inner i) sh ts) = []
    decl_rows (node n k (outer root) sh ts) = decls_rows ts
    decl_rows (node n k (outer decl) sh ts) = decls_rows ts
    decl_rows (node n k (outer signature) sh ts) = []
    decl_rows (node n k (outer rule) sh ts) = rows_seq false n ts
    decl_rows (node n k (outer enum) sh ts) = []
    decl_rows (node n k (outer model) sh ts) = decls_rows ts

    pub decls_rows : Trees → List Row
    decls_rows none = []
    decls_rows (u ◂ us) = decl_rows u ++ decls_rows us

  -- rows 1, 2 and 3
  unfoldable pub plain_rows : List Row
  unfolding decl_rows
  plain_rows = decl_rows (tree_at img (last img))

module _ (img : List ℕ) where
  -- the arguments of an argument list
  unfoldable pub args_of : ℕ → List ℕ
  args_of m = ops_from img (field img m 0) (start_at img m + 3)

  -- those whose name an earlier one carries: `seen` has the names before them
  unfoldable pub repeated : List ℕ → List ℕ → List ℕ
  unfolding among
  repeated seen [] = []
  repeated seen (n ∷ ns) =
      elim (field img n 0) [
        | zero ↦ repeated seen ns
        | suc x ↦ elim (among x seen) [ true ↦ n ∷ repeated (x ∷ seen) ns | false ↦ repeated (x ∷ seen) ns ]
      ]

  unfoldable pub repeated_in : ℕ → List ℕ
  unfolding repeated args_of
  repeated_in m = elim (eqb (kind_at img m) arg_decl_list_kind) [ true ↦ repeated [] (args_of m) | false ↦ [] ]

  -- those of the argument lists among the first m nodes
  unfoldable pub repeated_to : ℕ → List ℕ
  unfolding repeated_in
  repeated_to zero = []
  repeated_to (suc m) = repeated_to m ++ repeated_in m

  -- row 4 at those of the c nodes from n on that are in the list
  unfoldable pub strict_from : List ℕ → ℕ → ℕ → List Row
  unfolding when among
  strict_from ns zero n = []
  strict_from ns (suc c) n = when (among n ns) (row repeated_argument n) ++ strict_from ns c (n + 1)

  -- rows 4, by rising node number
  unfoldable pub strict_rows : List Row
  unfolding repeated_to strict_from
  strict_rows = let ns = repeated_to (nodes img) in strict_from ns (nodes img) 0

  -- mode 1 is plain; 0, the default, and 2 are strict (a mode over 2 is refused)
  unfoldable pub is_strict : ℕ → Bool
  is_strict mode = not (eqb mode 1)

  unfoldable pub error_rows : Table → ℕ → List Row
  unfolding is_strict plain_rows strict_rows
  error_rows t mode = plain_rows img t ++ elim (is_strict mode) [ true ↦ strict_rows | false ↦ [] ]

  -- the refusals: 1 to 15
  unfoldable pub test_errors : List ℕ → List ℕ → ℕ → ℕ
  test_errors tab rows mode = test_rows img tab rows ▸ need 15 (leb mode 2)

  -- document 01's Errors
  unfoldable pub errors : List ℕ → List ℕ → ℕ → RowsOutcome
  errors tab rows mode = rows_call img tab rows (test_errors tab rows mode) (λ t. error_rows t mode)
