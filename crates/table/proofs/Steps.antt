-- The words that the code reads in the arrays.
use mathlib.Core.Path.{◌≡◌, ap, ◌∙◌}
use mathlib.Core.List.{List}
use Prim.Native.Nat.{ℕ}
use Rattle.ast.specs.Image.{nodes}
use Rattle.table.specs.Layout.{place}

-- the code's n nodes are those of the image
module _ (img : List ℕ) (n : ℕ) (nodes_are : n ≡ nodes img) where
  pub place_is : (p array i : ℕ) → p ≡ place array n i → p ≡ place array (nodes img) i
  place_is p array i e = e ∙ ap (λ (m : ℕ). place array m i) nodes_are
