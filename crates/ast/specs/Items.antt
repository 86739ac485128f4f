-- Children of a row by their places, counted from the row's first field: what the walkers' contracts cite.
use Rattle.std.specs.Prelude.{List}
use Prim.Native.Nat.{ℕ, zero, suc, ◌+◌}
use Rattle.ast.specs.Image.{field}
use Rattle.ast.specs.Tree.{Tree, Trees, none, ◌◂◌, node, block, tree_at}

module _ (img : List ℕ) (n : ℕ) where
  -- the trees of the c nodes that stand in the row of n from place j on
  unfoldable pub items : ℕ → ℕ → Trees
  items zero j = none
  items (suc c) j = tree_at img (field img n j) ◂ items c (j + 1)

  -- c blocks from place j on, each a count and its items
  unfoldable pub blocks : ℕ → ℕ → Trees
  unfolding items
  blocks zero j = none
  blocks (suc c) j = block (items (field img n j) (j + 1)) ◂ blocks c (j + 1 + field img n j)

-- the trees below a node
abbrev pub below : Tree → Trees
below (node n k c sh ts) = ts
below (block ts) = ts
