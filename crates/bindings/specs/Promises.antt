-- What the contracts of the checks cite.
use Rattle.std.specs.Prelude.{◌≡◌, Bool, true, false, List, [], ◌∷◌, ◌++◌, ℕ, zero, suc, ◌+◌, ◌-◌, ◌*◌, ◌<◌, ◌≤◌, ◌^◌, min, eqb, length, get_or, set, replicate, Result, Ok, Err}
use Rattle.ast.specs.Image.{nodes, field}
use Rattle.ast.specs.Kinds.{Kind, kind_of}
use Rattle.ast.specs.Is.{Is, Run}
use Rattle.ast.specs.Tree.{tree_at}
use Rattle.ast.specs.Items.{items, below}
use Rattle.ast.specs.Named.{term_kind, then_atom_kind}
use Rattle.typed.specs.declared.nodes.NodeList.{NodeList}
use Rattle.error.specs.declared.Refusal.{Refusal}
use Rattle.error.specs.declared.Refusal.TheVariants.{UnknownMode}
use Rattle.table.specs.Table.{Table}
use Rattle.environment.specs.Layout.{nodes_most}
use Rattle.environment.specs.Asked.{Asks}
use Rattle.environment.specs.declared.Scopes.{Scopes}
use Rattle.rows.specs.Rows.{Row}
use Rattle.scopes.specs.Twice.{among}
use Rattle.bindings.specs.declared.Mode.{Mode}
use Rattle.bindings.specs.declared.Mode.TheVariants.{Plain, Strict}
use Rattle.bindings.specs.Errors.{is_ctor, defined_row, arg_row, rows_of, rows_seq, pattern_rows, arg_rows, decl_rows, decls_rows, plain_rows, repeated, repeated_to, strict_from, strict_rows, is_strict}

-- the mode of a number
abbrev pub mode_of : ℕ → Result Mode Refusal
mode_of zero = Ok Strict
mode_of (suc zero) = Ok Plain
mode_of (suc (suc zero)) = Ok Strict
mode_of (suc (suc (suc n))) = Err UnknownMode

abbrev pub IsMode : ℕ → Result Mode Refusal → Type 0
IsMode number r = r ≡ mode_of number

-- what a check of the node n asks: its kind, and that the count has room for the rows l that it appends. A predicate, since it is of
-- the scopes, the node and the count together
pub record Ready (s : Scopes) (kd : Kind) (n : ℕ) (l : List Row) (count : ℕ) : Type 0 where
  pub is : Is s.image.now kd n
  pub fits : count + length l < 2 ^ 32

-- the ThenAtom n is of case Defined, with the child d
pub record Defines (img : List ℕ) (n d : ℕ) : Type 0 where
  pub is : Is img (kind_of then_atom_kind) n
  pub number : 1 ≡ field img n 0
  pub child : d ≡ field img n 1

-- what a check of the variable n of a defined-then asks: it is of case Ident, its name asked for at the atom o, or Wildcard
pub record PlainVariable (img : List ℕ) (o n : ℕ) (l : List Row) (count : ℕ) : Type 0 where
  pub is : Is img (kind_of term_kind) n
  pub plain : field img n 0 ≤ 1
  pub asks : (i : ℕ) → 0 ≡ field img n 0 → i ≡ field img n 1 → Asks img o i
  pub fits : count + length l < 2 ^ 32

-- the same of a run of children
pub record ReadyRun (s : Scopes) (k n j c : ℕ) (l : List Row) (count : ℕ) : Type 0 where
  pub run : Run s.image.now k n j c
  pub fits : count + length l < 2 ^ 32

-- of the nodes of a list
abbrev pub ReadyAll : Scopes → ℕ → NodeList → List Row → ℕ → Type 0
ReadyAll s k ns l count = ReadyRun s k ns.node.0 ns.first ns.count l count

module _ (img : List ℕ) (t : Table) where
  -- the rows below a node, rows 1 asked for or not
  abbrev pub inside : Bool → ℕ → List Row
  inside a n = rows_seq img t a n (below (tree_at img n))

  -- the rows of the c nodes that stand in the row of n from place j on
  abbrev pub listed : Bool → ℕ → ℕ → ℕ → List Row
  listed a n c j = rows_seq img t a n (items img n c j)

  -- those of the c declarations
  abbrev pub declared : ℕ → ℕ → ℕ → List Row
  declared n c j = decls_rows img t (items img n c j)

  -- those of a declaration or the module
  abbrev pub of_decl : ℕ → List Row
  of_decl n = decl_rows img t (tree_at img n)

  -- the same for a list: of statements, of declarations
  abbrev pub of_stmts : NodeList → List Row
  of_stmts ns = listed false ns.node.0 ns.count ns.first

  abbrev pub of_decls : NodeList → List Row
  of_decls ns = declared ns.node.0 ns.count ns.first

  -- those of an app head, whatever stands above it
  abbrev pub of_head : ℕ → List Row
  of_head n = rows_of img t true n (tree_at img n)

  -- those of the DefinedThenAtom n, and of its variable, below the atom o
  abbrev pub of_defined : (o n : ℕ) → List Row
  of_defined o n = rows_of img t true o (tree_at img n)

  abbrev pub of_variable : (o n : ℕ) → List Row
  of_variable o n = defined_row img t o (tree_at img n)

  -- rows 3 of the pattern of a match case, and its rows
  abbrev pub of_pattern : ℕ → List Row
  of_pattern n = pattern_rows img t (below (tree_at img n))

  abbrev pub of_case : ℕ → List Row
  of_case n = of_pattern n ++ inside false n

  -- the app head n names a constructor
  abbrev pub names_ctor : ℕ → Bool
  names_ctor n = is_ctor img t (tree_at img n)

  -- rows 3 of the arguments of a pattern, and of one argument
  abbrev pub of_args : ℕ → List Row
  of_args n = arg_rows img t (below (tree_at img n))

  abbrev pub of_arg : ℕ → List Row
  of_arg n = arg_row img t (tree_at img n)

-- strict mode's marks: true at the nodes of the list
unfoldable pub marked : List ℕ → List Bool → List Bool
marked [] ms = ms
marked (n ∷ ns) ms = marked ns (set ms n true)

-- no stamp is that of the list m or a later one
abbrev pub Earlier : ℕ → List ℕ → Type 0
Earlier m stamps = (x : ℕ) → get_or stamps x 0 ≤ m

-- the names `seen` of the list m are those that have its stamp, m + 1; no stamp is a later list's
pub record Met (m : ℕ) (seen stamps : List ℕ) : Type 0 where
  pub met : (x : ℕ) → eqb (get_or stamps x 0) (suc m) ≡ among x seen
  pub earlier : Earlier (suc m) stamps

-- the argument n of the list m takes the marks ms and the stamps l to the marks vs and the stamps k: from there the rest of the list
-- is to be marked, after the names `after`
pub record MarkedOne (img : List ℕ) (m n : ℕ) (ms : List Bool) (l : List ℕ) (vs : List Bool) (k : List ℕ) : Type 0 where
  pub so : (seen : List ℕ) → Met m seen l → (after : List ℕ) × Met m after k × ((ns : List ℕ) → marked (repeated img seen (n ∷ ns)) ms ≡ marked (repeated img after ns) vs)

-- all of them are marked, and the count has room for the rows l
pub record AllMarked (img : List ℕ) (ms : List Bool) (count : ℕ) (l : List Row) : Type 0 where
  pub all : ms ≡ marked (repeated_to img (nodes img)) (replicate nodes_most false)
  pub fits : count + length l < 2 ^ 32

-- the marks are gone through by groups of so many nodes, of which there are so many
abbrev pub group_nodes : ℕ
group_nodes = 32

abbrev pub groups_most : ℕ
groups_most = 64

-- rows 4 at the nodes from a to before e, and at those of a group
abbrev pub span_rows : List ℕ → (a e : ℕ) → List Row
span_rows img a e = strict_from img (repeated_to img (nodes img)) (e - a) a

abbrev pub group_rows : List ℕ → ℕ → List Row
group_rows img g = span_rows img (g * group_nodes) (min (g * group_nodes + group_nodes) (nodes img))

-- the rows that strict mode adds, by the number of the mode, and by the mode
abbrev pub of_mode : List ℕ → ℕ → List Row
of_mode img mode = elim (is_strict img mode) as (λ _. List Row) [ true ↦ strict_rows img | false ↦ [] ]

abbrev pub mode_rows : List ℕ → Mode → List Row
mode_rows img Plain = []
mode_rows img Strict = strict_rows img

-- all rows
abbrev pub all_rows : List ℕ → Table → Mode → List Row
all_rows img t mode = plain_rows img t ++ mode_rows img mode
