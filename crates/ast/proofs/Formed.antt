-- What the image tests guarantee of each row: words within the operands, names that exist, and children that are earlier nodes
-- of the kinds that the row's fields want.
use mathlib.Core.Bool.{true, false}
use mathlib.Core.Path.{◌≡◌}
use mathlib.Core.List.{List, [], ◌∷◌}
use Prim.Native.Nat.{ℕ, zero, suc, ◌+◌, ◌<◌, ◌≤◌}
use lib.Dec.{eqb}
use lib.ListN.{length, get_or}
use Rattle.ast.specs.Image.{nodes, kind_at, start_at, op_at, operands, names, last}
use Rattle.ast.specs.Kinds.{Field, name, opt_name, child, opt_child, list, lists, cases, no_child}
use Rattle.ast.specs.Rows.{after, fields_at, row_end}
use Rattle.ast.specs.Tests.{end_before}

module _ (img : List ℕ) (n : ℕ) where
  -- the node c may be a child of n, of kind k
  abbrev pub Child : ℕ → ℕ → Type 0
  Child k c = (c < n) × (kind_at img c ≡ k)

  abbrev pub Items : ℕ → ℕ → ℕ → Type 0
  Items k count p = (j : ℕ) → j < count → Child k (op_at img (p + j))

  unfoldable pub FormedBlocks : ℕ → ℕ → ℕ → Type 0
  FormedBlocks k zero p = Unit {0}
  FormedBlocks k (suc c) p = (p + 1 + op_at img p ≤ operands img) × Items k (op_at img p) (p + 1) × FormedBlocks k c (p + 1 + op_at img p)

  -- an option and a case without a child ask nothing of one: split as `field_kids` and `after` do
  unfoldable pub FormedField : Field → ℕ → Type 0
  unfolding FormedBlocks
  FormedField name p = op_at img p < names img
  FormedField opt_name p = op_at img p ≤ names img
  FormedField (child k) p = Child k (op_at img p)
  FormedField (opt_child k) p = elim (op_at img p) [ zero ↦ Unit {0} | suc c ↦ Child k c ]
  FormedField (list k) p = Items k (op_at img p) (p + 1)
  FormedField (lists k) p = FormedBlocks k (op_at img p) (p + 1)
  FormedField (cases ks) p =
      (op_at img p < length ks)
      × elim (eqb (get_or ks (op_at img p) no_child) no_child) as (λ b. Type 0) [ true ↦ Unit {0} | false ↦ Child (get_or ks (op_at img p) no_child) (op_at img (p + 1)) ]

  -- each field ends within the operands
  unfoldable pub FormedFields : List Field → ℕ → Type 0
  unfolding FormedField
  FormedFields [] p = Unit {0}
  FormedFields (g ∷ gs) p = (after img g p ≤ operands img) × FormedField g p × FormedFields gs (after img g p)

  pub record FormedNode : Type 0 where
    pub kind : kind_at img n ≤ 40
    pub start : start_at img n ≡ end_before img n
    pub end : row_end img n ≤ operands img
    pub row : FormedFields (fields_at img n) (start_at img n + 2)

-- every row of the image is formed; rows follow one another and fill the operands; the last node is the module
pub record Formed (img : List ℕ) : Type 0 where
  pub each : (n : ℕ) → n < nodes img → FormedNode img n
  pub fills : row_end img (last img) ≡ operands img
  pub root : kind_at img (last img) ≡ 0
