-- The numbers of the nodes of a tree are below the number of nodes.
use mathlib.Core.Bool.{Bool, true, false}
use mathlib.Core.Path.{◌≡◌, refl}
use mathlib.Core.List.{List, [], ◌∷◌}
use Prim.Native.Nat.{ℕ, zero, suc, ◌+◌, ◌<◌}
use lib.Dec.{ltb}
use borrow.Author.Tests.{ltb-true}
use Rattle.ast.specs.Image.{nodes, kind_at, field}
use Rattle.ast.specs.Kinds.{Class}
use Rattle.ast.specs.Rows.{Kid, one, many, kids, shape}
use Rattle.ast.specs.Tree.{Tree, node, block, Trees, none, ◌◂◌, swap, swaps, ordered, grow_all, grow, class_at, tree_to, tree_at}
use Rattle.ast.specs.Items.{items, blocks}

unfoldable mutual
  pub Small : ℕ → Tree → Type 0
  Small m (node n k c sh ts) = (n < m) × Smalls m ts
  Small m (block ts) = Smalls m ts

  pub Smalls : ℕ → Trees → Type 0
  Smalls m none = Unit {0}
  Smalls m (t ◂ ts) = Small m t × Smalls m ts

module _ (m : ℕ) where
  swap-small : (ts : Trees) → Smalls m ts → Smalls m (swap ts)
  unfolding swap Small
  swap-small none h = h
  swap-small (t ◂ none) h = h
  swap-small (t ◂ (u ◂ us)) h = (h.1.0, (h.0, h.1.1))

  ordered-small : (c : Class) (ts : Trees) → Smalls m ts → Smalls m (ordered c ts)
  unfolding ordered
  ordered-small c ts h = go (swaps c)
    where
      go : (b : Bool) → Smalls m (elim b [ true ↦ swap ts | false ↦ ts ])
      go true = swap-small ts h
      go false = h

  module _ (f : ℕ → Tree) (each : (c : ℕ) → Small m (f c)) where
    grow_all-small : (cs : List ℕ) → Smalls m (grow_all f cs)
    unfolding grow_all Small
    grow_all-small [] = tt
    grow_all-small (c ∷ cs) = (each c, grow_all-small cs)

    grow-small : (ks : List Kid) → Smalls m (grow f ks)
    unfolding grow Small
    grow-small [] = tt
    grow-small (one c ∷ ks) = (each c, grow-small ks)
    grow-small (many cs ∷ ks) = (grow_all-small cs, grow-small ks)

module _ (img : List ℕ) where
  tree-to-small : (d n : ℕ) → Small (nodes img) (tree_to img d n)
  unfolding tree_to Small
  tree-to-small zero n = tt
  tree-to-small (suc d) n = go (tree-to-small d) (ltb n (nodes img)) refl
    where
      go : ((c : ℕ) → Small (nodes img) (tree_to img d c)) → (b : Bool) → ltb n (nodes img) ≡ b
          → Small (nodes img) (elim b [ true ↦ node n (kind_at img n) (class_at img n) (shape img n) (ordered (class_at img n) (grow (tree_to img d) (kids img n))) | false ↦ block none ])
      go each true e = (ltb-true _ _ e, ordered-small (nodes img) (class_at img n) _ (grow-small (nodes img) (tree_to img d) each (kids img n)))
      go each false e = tt

  pub tree-small : (c : ℕ) → Small (nodes img) (tree_at img c)
  unfolding tree_at
  tree-small c = tree-to-small (suc c) c

  pub items-small : (n c j : ℕ) → Smalls (nodes img) (items img n c j)
  unfolding items Small
  items-small n zero j = tt
  items-small n (suc c) j = (tree-small (field img n j), items-small n c (j + 1))

  pub blocks-small : (n c j : ℕ) → Smalls (nodes img) (blocks img n c j)
  unfolding blocks Small
  blocks-small n zero j = tt
  blocks-small n (suc c) j = (items-small n (field img n j) (j + 1), blocks-small n c (j + 1 + field img n j))
