-- The rows of an image with new numbers for children and names.
use mathlib.Core.Bool.{true, false}
use mathlib.Core.List.{List, [], ◌∷◌, ◌++◌, map}
use Prim.Native.Nat.{ℕ, zero, suc, ◌+◌}
use lib.Dec.{eqb}
use lib.ListN.{get_or}
use Rattle.ast.specs.Image.{op_at}
use Rattle.ast.specs.Kinds.{Field, name, opt_name, child, opt_child, list, lists, cases, no_child}
use Rattle.ast.specs.Rows.{ops_from, after}

-- an option's word: 0, or the number plus 1
unfoldable pub optional : (ℕ → ℕ) → ℕ → ℕ
optional g zero = 0
optional g (suc x) = suc (g x)

-- The operand words of rows, children by their new numbers r and names by their new numbers f; locations, case numbers, counts
-- and options' presence stay.
module _ (img : List ℕ) (r f : ℕ → ℕ) where
  -- c blocks from place p on
  unfoldable pub block_words : ℕ → ℕ → List ℕ
  block_words zero p = []
  block_words (suc c) p = op_at img p ∷ (map r (ops_from img (op_at img p) (p + 1)) ++ block_words c (p + 1 + op_at img p))

  -- a field that starts at place p
  unfoldable pub field_words : Field → ℕ → List ℕ
  field_words name p = f (op_at img p) ∷ []
  field_words opt_name p = optional f (op_at img p) ∷ []
  field_words (child k) p = r (op_at img p) ∷ []
  field_words (opt_child k) p = optional r (op_at img p) ∷ []
  field_words (list k) p = op_at img p ∷ map r (ops_from img (op_at img p) (p + 1))
  field_words (lists k) p = op_at img p ∷ block_words (op_at img p) (p + 1)
  field_words (cases ks) p = op_at img p ∷ elim (eqb (get_or ks (op_at img p) no_child) no_child) [ true ↦ [] | false ↦ r (op_at img (p + 1)) ∷ [] ]

  unfoldable pub fields_words : List Field → ℕ → List ℕ
  fields_words [] p = []
  fields_words (g ∷ gs) p = field_words g p ++ fields_words gs (after img g p)
