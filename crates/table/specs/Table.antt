-- The table of scopes and symbols; what a scope holds of a name, and what climbing finds.
use Rattle.std.specs.Prelude.{Bool, List, [], ◌∷◌, eqb, ltb, get_or, set}
use Rattle.std.proofs.Math.Bool.{true, false}
use Rattle.std.proofs.Math.Option.{Option, none, some}
use Prim.Native.Nat.{ℕ, zero, suc, ◌+◌}
use Rattle.ast.specs.Image.{nodes, kind_at, name_of}
use Rattle.ast.specs.Named.{ident_term_kind, const_decl_kind}
use Rattle.table.specs.Layout.{entry_place, exit_place, parent_place, scope_place, node_place}

-- the table's words and its two counts while a walk fills it: K scopes, Y symbols
pub record Table : Type 0 where
  pub words : List ℕ
  pub scopes : ℕ
  pub symbols : ℕ

-- a symbol as it is found: its node, and the scope that holds it
pub record Found : Type 0 where
  pub node : ℕ
  pub scope : ℕ

-- the node alone
abbrev pub found_node : Option Found → Option ℕ
found_node none = none
found_node (some f) = some f.node

-- a kind's symbol number, as the cases of `Symbol` go: Type 0, Pred 1, Func 2, Const 3, Enum 4, Ctor 5, Model 6, Rule 7,
-- Arg 8, Var 9
unfoldable pub symbol_of : ℕ → ℕ
symbol_of k = get_or (0 ∷ 0 ∷ 0 ∷ 1 ∷ 2 ∷ 3 ∷ 7 ∷ 4 ∷ 6 ∷ 5 ∷ 8 ∷ 0 ∷ 0 ∷ 9 ∷ []) k 0

-- a kind whose nodes are symbols
unfoldable pub declares : ℕ → Bool
declares k = get_or (false ∷ false ∷ true ∷ true ∷ true ∷ true ∷ true ∷ true ∷ true ∷ true ∷ true ∷ false ∷ false ∷ true ∷ []) k false

module _ (img : List ℕ) where
  abbrev pub N : ℕ
  N = nodes img

  -- the words with a node's entry and exit scope
  unfoldable pub mark_words : ℕ → ℕ → ℕ → List ℕ → List ℕ
  mark_words n e x ws = set (set ws (entry_place N n) e) (exit_place N n) x

  unfoldable pub mark : ℕ → ℕ → ℕ → Table → Table
  unfolding mark_words
  mark n e x t = record { words = mark_words n e x t.words; scopes = t.scopes; symbols = t.symbols }

  -- one scope more, below p
  unfoldable pub new_scope : ℕ → Table → Table
  new_scope p t = record { words = set t.words (parent_place N t.scopes) p; scopes = t.scopes + 1; symbols = t.symbols }

  -- one symbol more: the node n in the scope s
  unfoldable pub new_symbol : ℕ → ℕ → Table → Table
  new_symbol s n t =
      record { words = set (set t.words (scope_place N t.symbols) s) (node_place N t.symbols) n; scopes = t.scopes; symbols = t.symbols + 1 }

  -- row j is a symbol of the scope s with the name x
  unfoldable pub row_is : List ℕ → ℕ → ℕ → ℕ → Bool
  row_is ws j s x =
      elim (eqb (get_or ws (scope_place N j) 0) s) [
        | true ↦ eqb (name_of img (get_or ws (node_place N j) 0)) x
        | false ↦ false
      ]

  -- the symbol of row j
  abbrev pub symbol_at : List ℕ → ℕ → Found
  symbol_at ws j = record { node = get_or ws (node_place N j) 0; scope = get_or ws (scope_place N j) 0 }

  -- the first symbol of the name x in the scope s, among the c rows from j on: the earlier row wins
  unfoldable pub find_from : ℕ → List ℕ → ℕ → ℕ → ℕ → Option Found
  unfolding row_is
  find_from zero ws j s x = none
  find_from (suc c) ws j s x =
      elim (row_is ws j s x) [
        | true ↦ some (symbol_at ws j)
        | false ↦ find_from c ws (j + 1) s x
      ]

  -- climbs while the parent's number is smaller; the words hold y symbols
  unfoldable pub climb : ℕ → List ℕ → ℕ → ℕ → ℕ → Option Found
  unfolding find_from
  climb zero ws y s x = none
  climb (suc f) ws y s x =
      elim (find_from y ws 0 s x) [
        | some f ↦ some f
        | none ↦
            elim (ltb (get_or ws (parent_place N s) 0) s) [
              | true ↦ climb f ws y (get_or ws (parent_place N s) 0) x
              | false ↦ none
            ]
      ]

  -- the symbol of a name in a scope
  unfoldable pub held : Table → ℕ → ℕ → Option Found
  unfolding find_from
  held t s x = find_from t.symbols t.words 0 s x

  -- the symbol of a name in a scope, or in the nearest scope above it that has one: document 02's lookup, with the scope
  unfoldable pub found : Table → ℕ → ℕ → Option Found
  unfolding climb
  found t s x = climb (suc s) t.words t.symbols s x

  -- their nodes, which the walk, Errors, Once and Occurrences go by: document 01's find and lookup
  unfoldable pub find : Table → ℕ → ℕ → Option ℕ
  unfolding held
  find t s x = found_node (held t s x)

  unfoldable pub lookup : Table → ℕ → ℕ → Option ℕ
  unfolding found
  lookup t s x = found_node (found t s x)

  -- of kind k
  unfoldable pub is_kind : ℕ → Option ℕ → Bool
  is_kind k none = false
  is_kind k (some n) = eqb (kind_at img n) k

  -- a Var
  abbrev pub is_var : Option ℕ → Bool
  is_var o = is_kind ident_term_kind o

  -- a Var or a Const
  unfoldable pub is_value : Option ℕ → Bool
  unfolding is_kind
  is_value o = elim (is_var o) [ true ↦ true | false ↦ is_kind const_decl_kind o ]

  -- the entry and the exit of a node, as the words have them
  abbrev pub entry_at : List ℕ → ℕ → ℕ
  entry_at ws n = get_or ws (entry_place N n) 0

  abbrev pub exit_at : List ℕ → ℕ → ℕ
  exit_at ws n = get_or ws (exit_place N n) 0

  -- what the name of the IdentTerm i is at the entry of the node n, and at its exit; and the node of that
  abbrev pub found_entry : Table → ℕ → ℕ → Option Found
  found_entry t n i = found t (entry_at t.words n) (name_of img i)

  abbrev pub found_exit : Table → ℕ → ℕ → Option Found
  found_exit t n i = found t (exit_at t.words n) (name_of img i)

  abbrev pub at_entry : Table → ℕ → ℕ → Option ℕ
  at_entry t n i = lookup t (entry_at t.words n) (name_of img i)

  abbrev pub at_exit : Table → ℕ → ℕ → Option ℕ
  at_exit t n i = lookup t (exit_at t.words n) (name_of img i)
