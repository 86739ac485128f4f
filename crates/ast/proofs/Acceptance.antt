-- What acceptance means: the theorems of an image that the tests 1 to 12 accept, gathered by name.
use mathlib.Core.Path.{◌≡◌, sym, subst}
use mathlib.Core.Logic.{◌≢◌}
use mathlib.Core.List.{List, ◌∷◌}
use Prim.Native.Nat.{ℕ, ◌+◌, ◌-◌, ◌<◌, ◌≤◌}
use native.Mathlib.Omega.{arith}
use native.Mathlib.Decide.{dec_lt}
use lib.ListN.{length, length-take, length-drop}
use Rattle.ast.specs.Image.{nodes, operands, names, last, kind_at, start_at, op_at, field, name_of, bytes_place, name_start, name_end, name_bytes}
use Rattle.ast.specs.Kinds.{Field, name, opt_name}
use Rattle.ast.specs.Rows.{numbers, fields_at, row_end, kids, kids_to, shape}
use Rattle.ast.specs.Tests.{times, end_before, verdict}
use Rattle.ast.specs.Tree.{node, ordered, grow, class_at, tree_at, size}
use Rattle.ast.proofs.Accepted.{Sized, sized, named, name_in, formed, last-below}
use Rattle.ast.proofs.Count.{nodes_of}
use Rattle.ast.proofs.Count as count
use Rattle.ast.proofs.Formed.{FormedNode, FormedFields}
use Rattle.ast.proofs.RowNames.{row_names, fields-names, fields-on, place-zero, name-word, opt-word}
use Rattle.ast.proofs.Unfold.{All}
use Rattle.ast.proofs.Unfold as unfolding_law
use Rattle.ast.proofs.Vars.{Everywhere, PlainAt}
use Rattle.ast.proofs.Vars as variables

module _ (img : List ℕ) (accepted : verdict img ≡ 0) where
  -- sizes: N is from 1 to 2,048, C at most 8,192, S at most 1,024, B at most 8,192, the length 16 + 8N + 4C + 4S + B
  pub sizes : Sized img
  sizes = sized img accepted

  -- names: each ends within the image, is not empty, and is no other name's bytes
  pub name-within : (i : ℕ) → i < names img → bytes_place img + name_end img i ≤ length img
  name-within i h = let a = name_in img (named img accepted).rising_all i h in let s = sizes.exact in omega arith

  pub name-length : (i : ℕ) → i < names img → length (name_bytes img i) ≡ name_end img i - name_start img i
  unfolding name_bytes
  name-length i h = let a = name-within i h in simp (length-take, length-drop) (omega arith)

  pub name-some : (i : ℕ) → i < names img → 0 < length (name_bytes img i)
  name-some i h = let a = name-length i h in let b = (named img accepted).rising_all.rises i h in omega arith

  pub names-differ : (i j : ℕ) → i < names img → j < names img → i ≢ j → name_bytes img i ≢ name_bytes img j
  names-differ i j h k q e = go (dec_lt i j)
    where
      go : Dec (i < j) → ⊥
      go (yes l) = (named img accepted).differ j i k l e
      go (no l) = (named img accepted).differ i j h (omega arith) (sym e)

  -- rows: a kind of 0 to 40; words below C; names that exist; children that are earlier nodes of the wanted kinds
  pub row : (n : ℕ) → n < nodes img → FormedNode img n
  row = (formed img accepted).each

  -- the row of n starts where the row before ends, and its words, the two of its location included, lie below C
  pub row_words : (n : ℕ) → n < nodes img → (start_at img n ≡ end_before img n) × (start_at img n + 2 ≤ row_end img n) × (row_end img n ≤ operands img)
  unfolding row_end
  row_words n h = ((row n h).start, fields-on img (fields_at img n) (start_at img n + 2), (row n h).end)

  -- all of C is rows
  pub rows_fill : row_end img (last img) ≡ operands img
  rows_fill = (formed img accepted).fills

  pub row-names : (n : ℕ) → n < nodes img → All (λ x. x < names img) (row_names img n)
  unfolding row_names
  row-names n h = fields-names img n (fields_at img n) (start_at img n + 2) (row n h).row

  -- the name of a node that has one is below S
  pub name_below : (n : ℕ) → n < nodes img → (gs : List Field) → fields_at img n ≡ name ∷ gs → name_of img n < names img
  unfolding FormedFields
  name_below n h gs e =
      let r = subst (λ fs. FormedFields img n fs (start_at img n + 2)) e (row n h).row in
      let a : op_at img (start_at img n + 2) < names img = r.1 in
      let b = place-zero img n in
      let c = name-word img n in
      omega arith

  pub opt-name-below : (n : ℕ) → n < nodes img → (gs : List Field) → fields_at img n ≡ opt_name ∷ gs → field img n 0 ≢ 0 → name_of img n < names img
  unfolding FormedFields
  opt-name-below n h gs e z =
      let r = subst (λ fs. FormedFields img n fs (start_at img n + 2)) e (row n h).row in
      let a : op_at img (start_at img n + 2) ≤ names img = r.1 in
      let b = place-zero img n in
      let c = opt-word img n gs e (row n h).kind in
      omega arith

  pub children-below : (n : ℕ) → n < nodes img → All (λ c. c < n) (numbers (kids img n))
  children-below n h = unfolding_law.kids-below img n (row n h)

  -- the last node is the module
  pub root : kind_at img (last img) ≡ 0
  root = (formed img accepted).root

  pub last-below-nodes : last img < nodes img
  last-below-nodes = last-below img accepted

  -- each node but the last stands as a child in exactly one place
  pub one_parent : (v : ℕ) → v < last img → times v (kids_to img (nodes img)) ≡ 1
  one_parent = count.parents img accepted

  -- the tree of the last node holds each number below N exactly once, and nothing else; its size is N
  pub once : (v : ℕ) → v < nodes img → times v (nodes_of (tree_at img (last img))) ≡ 1
  once = count.once img accepted

  pub nothing-else : (v : ℕ) → nodes img ≤ v → times v (nodes_of (tree_at img (last img))) ≡ 0
  nothing-else = count.nothing-else img accepted

  pub tree-size : size (tree_at img (last img)) ≡ nodes img
  tree-size = count.tree-size img accepted

  -- an if-var's term and a defined-then's variable are of case Ident or Wildcard: at each node, and everywhere in the tree
  pub var-at : (n : ℕ) → n < nodes img → PlainAt (tree_at img n)
  var-at = variables.vars-at img accepted

  pub vars : Everywhere PlainAt (tree_at img (last img))
  vars = variables.vars img accepted

  -- the unfolding law: the tree of a node is made of the trees of its row's children
  pub unfolds : (n : ℕ) → n < nodes img
      → tree_at img n ≡ node n (kind_at img n) (class_at img n) (shape img n) (ordered (class_at img n) (grow (tree_at img) (kids img n)))
  unfolds = unfolding_law.tree_at-is img (formed img accepted)
