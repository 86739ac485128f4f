-- Where error rows stand, told by the rows of the image: document 01's sentences on rows 1 to 4.
use Rattle.std.specs.Prelude.{◌≡◌, true, ℕ, suc, ◌+◌, ◌<◌}
use mathlib.Core.List.{List, ◌∷◌, ◌++◌, Memᴰ}
use Rattle.ast.specs.Named.{arg_decl_list_kind, cod_term_kind, ctor_decl_kind, defined_then_atom_kind, dom_term_kind, match_case_kind, pred_expr_kind, term_kind, then_atom_kind}
use Rattle.ast.specs.Image.{nodes, kind_at, field}
use Rattle.ast.specs.Rows.{numbers, kids}
use Rattle.table.specs.Table.{Table, is_kind, is_var, at_entry, at_exit}
use Rattle.bindings.specs.Errors.{introduces, args_of}

module _ (img : List ℕ) where
  -- a node of kind k
  pub record Node (k n : ℕ) : Type 0 where
    pub below : n < nodes img
    pub kind : kind_at img n ≡ k

  -- an ident term: a Term of case Ident, of the IdentTerm i
  pub record IdentTerm (n i : ℕ) : Type 0 where
    pub node : Node term_kind n
    pub case : field img n 0 ≡ 0
    pub ident : field img n 1 ≡ i

  -- c is a child in the row of p
  abbrev pub Stands : ℕ → ℕ → Type 0
  Stands p c = Memᴰ c (numbers (kids img p))

  -- p is not Dom, Cod or a predicate (below which only a member's receiver has terms), nor is c the variable that p defines
  pub record Determines (p c : ℕ) : Type 0 where
    pub dom : kind_at img p ≡ dom_term_kind → ⊥
    pub cod : kind_at img p ≡ cod_term_kind → ⊥
    pub predicate : kind_at img p ≡ pred_expr_kind → ⊥
    pub variable : kind_at img p ≡ defined_then_atom_kind → field img p 0 ≡ suc c → ⊥

  -- a ThenAtom, and what stands below it on such a way
  pub data InThen : ℕ → Type 0 where
    atom : {n : ℕ} → Node then_atom_kind n → InThen n
    down : {p c : ℕ} → InThen p → Stands p c → Determines p c → InThen c

  -- row 4: a named argument of a list, whose name an earlier argument of the list carries
  pub record Repeated (n : ℕ) : Type 0 where
    pub list : ℕ
    pub before : List ℕ
    pub after : List ℕ
    pub earlier : ℕ
    pub is_list : Node arg_decl_list_kind list
    pub args : args_of img list ≡ before ++ (n ∷ after)
    pub named : field img n 0 ≡ 0 → ⊥
    pub stands : Memᴰ earlier before
    pub same : field img earlier 0 ≡ field img n 0

  module _ (t : Table) where
    -- row 1: an ident term of a then-atom that introduces its name
    pub record Introduced (n : ℕ) : Type 0 where
      pub i : ℕ
      pub term : IdentTerm n i
      pub place : InThen n
      pub new : introduces img t n i ≡ true

    -- row 2: a defined-then variable whose name is a Var at the atom's entry
    pub record NotNew (n : ℕ) : Type 0 where
      pub i : ℕ
      pub atom : ℕ
      pub defined : ℕ
      pub term : IdentTerm n i
      pub is_atom : Node then_atom_kind atom
      pub case : field img atom 0 ≡ 1
      pub child : field img atom 1 ≡ defined
      pub variable : field img defined 0 ≡ suc n
      pub seen : is_var img (at_entry img t atom i) ≡ true

    -- row 3: an ident argument that is a Var at its own entry, directly under a case pattern whose head is an ident that
    -- lookup gives as Ctor
    pub record NotFresh (n : ℕ) : Type 0 where
      pub i : ℕ
      pub case : ℕ
      pub pattern : ℕ
      pub app : ℕ
      pub head : ℕ
      pub ctor : ℕ
      pub list : ℕ
      pub place : ℕ
      pub term : IdentTerm n i
      pub is_case : Node match_case_kind case
      pub pattern_of : field img case 0 ≡ pattern
      pub applies : field img pattern 0 ≡ 2
      pub app_of : field img pattern 1 ≡ app
      pub head_of : field img app 0 ≡ head
      pub is_ident : field img head 0 ≡ 0
      pub ctor_of : field img head 1 ≡ ctor
      pub is_ctor : is_kind img ctor_decl_kind (at_exit img t head ctor) ≡ true
      pub list_of : field img app 1 ≡ list
      pub within : place < field img list 0
      pub argument : field img list (1 + place) ≡ n
      pub seen : is_var img (at_entry img t n i) ≡ true
