-- The tree of an image: numbers, kinds, classes, shapes and children, and no names.
use Rattle.std.specs.Prelude.{Bool, true, false, ℕ, zero, suc, ◌+◌, ltb}
use mathlib.Core.List.{List, [], ◌∷◌}
use Rattle.ast.specs.Image.{nodes, kind_at}
use Rattle.ast.specs.Kinds.{Class, outer, inner, plain, term, ident, head, head_member, member, case, if_var, defined_then, arg, kind_of}
use Rattle.ast.specs.Rows.{Kid, one, many, kids, shape}

infixr 50 ◌◂◌
-- a node: its number, its kind, how the walk treats it, its shape (case number, list counts and options in row order)
-- and its children in scope order; or a block of a branch
mutual
  pub data Tree : Type 0 where
    node : (n k : ℕ) → Class → (shape : List ℕ) → Trees → Tree
    block : Trees → Tree

  pub data Trees : Type 0 where
    none : Trees
    ◌◂◌ : Tree → Trees → Trees

-- how many nodes a tree has
unfoldable mutual
  pub size : Tree → ℕ
  size (node n k c sh ts) = suc (sizes ts)
  size (block ts) = sizes ts

  pub sizes : Trees → ℕ
  sizes none = 0
  sizes (t ◂ ts) = size t + sizes ts

-- the first two, the other way round
unfoldable pub swap : Trees → Trees
swap none = none
swap (t ◂ none) = t ◂ none
swap (t ◂ (u ◂ us)) = u ◂ (t ◂ us)

-- scope order is row order, but an if-var's type comes before its term, and a defined-then's term before its variable
unfoldable pub swaps : Class → Bool
swaps (outer o) = false
swaps (inner plain) = false
swaps (inner term) = false
swaps (inner ident) = false
swaps (inner head) = false
swaps (inner head_member) = false
swaps (inner member) = false
swaps (inner case) = false
swaps (inner if_var) = true
swaps (inner defined_then) = true
swaps (inner arg) = false

-- the children of a node of this class, from row order to scope order
unfoldable pub ordered : Class → Trees → Trees
unfolding swaps swap
ordered c ts = elim (swaps c) [ true ↦ swap ts | false ↦ ts ]

-- the trees of a row's children, f the tree of each number
module _ (f : ℕ → Tree) where
  unfoldable pub grow_all : List ℕ → Trees
  grow_all [] = none
  grow_all (c ∷ cs) = f c ◂ grow_all cs

  unfoldable pub grow : List Kid → Trees
  unfolding grow_all
  grow [] = none
  grow (one c ∷ ks) = f c ◂ grow ks
  grow (many cs ∷ ks) = block (grow_all cs) ◂ grow ks

-- the class of the node n
unfoldable pub class_at : List ℕ → ℕ → Class
unfolding kind_of
class_at img n = (kind_of (kind_at img n)).class

-- the tree of a node; a child's number is smaller, so one more than the number is depth enough; a number that is no node's
-- has no tree
unfoldable pub tree_to : List ℕ → ℕ → ℕ → Tree
unfolding class_at shape kids ordered grow
tree_to img zero n = block none
tree_to img (suc d) n =
    elim (ltb n (nodes img)) [
      | true ↦ node n (kind_at img n) (class_at img n) (shape img n) (ordered (class_at img n) (grow (tree_to img d) (kids img n)))
      | false ↦ block none
    ]

-- the tree of the node n
unfoldable pub tree_at : List ℕ → ℕ → Tree
unfolding tree_to
tree_at img n = tree_to img (suc n) n
