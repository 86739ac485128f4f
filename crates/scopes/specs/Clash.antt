-- The first clash that the walk meets, told by the tree alone: of two nodes of one list with one name, the second is the first in
-- the list's order that has an earlier one, and the module's own list comes before its models' lists, which go in order.
use mathlib.Core.List.{List, [], ◌∷◌, ◌++◌}
use Rattle.std.proofs.Math.Option.{Option, none as nothing, some}
use Rattle.std.specs.Prelude.{ℕ}
use Rattle.ast.specs.Declarations.{module_lists, or_else, earliest}
use Rattle.ast.specs.Image.{last, name_of}
use Rattle.ast.specs.Tree.{tree_at}

-- a name number, the first node and the second
pub record Clash : Type 0 where
  pub name : ℕ
  pub first : ℕ
  pub second : ℕ

-- by the names of nodes
module _ (name : ℕ → ℕ) where
  -- the first clash of the nodes ns, which stand after the nodes ds
  unfoldable pub clash_from : List ℕ → List ℕ → Option Clash
  unfolding earliest
  clash_from ds [] = nothing
  clash_from ds (n ∷ ns) =
      elim (earliest name ds (name n)) [
        | some m ↦ some (record { name = name n; first = m; second = n })
        | nothing ↦ clash_from (ds ++ (n ∷ [])) ns
      ]

  -- the first clash of the lists
  unfoldable pub clash_in : List (List ℕ) → Option Clash
  unfolding clash_from
  clash_in [] = nothing
  clash_in (ns ∷ nss) = or_else (clash_from [] ns) (clash_in nss)

-- the first clash of the module, if there is one
unfoldable pub first_clash : List ℕ → Option Clash
unfolding clash_in module_lists
first_clash img = clash_in (name_of img) (module_lists (tree_at img (last img)))
