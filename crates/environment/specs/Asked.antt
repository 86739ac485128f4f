-- The name that the checks ask for at a node.
use Rattle.std.proofs.Math.Bool.{true, false}
use Rattle.std.specs.Prelude.{◌≡◌, ◌<◌, List, eqb}
use Rattle.std.proofs.Math.Option.{Option, none, some}
use Prim.Native.Nat.{ℕ, zero, suc}
use Rattle.ast.specs.Image.{nodes, kind_at, field, name_of}
use Rattle.ast.specs.Named.{term_kind, app_head_kind, then_atom_kind}
use Rattle.environment.specs.Layout.{names_most}

module _ (img : List ℕ) where
  -- of a Term or an AppHead of case Ident: its ident's
  unfoldable pub ident_name : ℕ → Option ℕ
  ident_name n = elim (field img n 0) [ zero ↦ some (name_of img (field img n 1)) | suc c ↦ none ]

  -- of an optional Term
  unfoldable pub var_name : ℕ → Option ℕ
  unfolding ident_name
  var_name zero = none
  var_name (suc v) = ident_name v

  -- of a ThenAtom of case Defined: its variable's
  unfoldable pub defined_name : ℕ → Option ℕ
  unfolding var_name
  defined_name n = elim (eqb (field img n 0) 1) [ true ↦ var_name (field img (field img n 1) 0) | false ↦ none ]

  unfoldable pub asked : ℕ → Option ℕ
  unfolding defined_name
  asked n =
      elim (eqb (kind_at img n) term_kind) [
        | true ↦ ident_name n
        | false ↦
            elim (eqb (kind_at img n) app_head_kind) [
              | true ↦ ident_name n
              | false ↦ elim (eqb (kind_at img n) then_atom_kind) [ true ↦ defined_name n | false ↦ none ]
            ]
      ]

  -- the name of the IdentTerm i is asked for at the node n, and is a name of the image: a predicate, since it is of the image and both
  -- nodes
  pub record Asks (n i : ℕ) : Type 0 where
    pub low : n < nodes img
    pub is : asked n ≡ some (name_of img i)
    pub below : name_of img i < names_most
