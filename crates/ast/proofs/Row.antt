-- The row of a node by places counted from its first field: where each field ends, the shape, the children; and what the
-- image tests guarantee of them.
use mathlib.Core.Path.{◌≡◌, refl, sym, ap, ap₂, subst, ◌∙◌}
use mathlib.Core.Bool.{Bool, true, false}
use mathlib.Core.List.{List, [], ◌∷◌, ◌++◌}
use Prim.Native.Nat.{ℕ, zero, suc, ◌+◌, ◌<◌, ◌≤◌}
use native.Mathlib.Nat.{add_assoc, add-zero}
use native.Mathlib.Omega.{arith}
use borrow.Author.Tests.{ne_eqb}
use lib.Dec.{eqb}
use lib.ListN.{length, get_or}
use Rattle.ast.specs.Image.{nodes, kind_at, start_at, op_at, field}
use Rattle.ast.specs.Kinds.{Field, name, opt_name, child, opt_child, list, lists, cases, no_child, Kind, kind_of}
use Rattle.ast.specs.Rows.{Kid, one, many, ones, ops_from, after_blocks, block_kids, block_counts, after, field_kids, field_shape, after_fields, fields_kids, fields_shape, fields_at, row_end}
use Rattle.ast.specs.Tree.{Tree, node, block, Trees, none, ◌◂◌, ordered, grow_all, grow, tree_at}
use Rattle.ast.specs.Items.{items, blocks}
use Rattle.ast.specs.Tests.{verdict}
use Rattle.ast.proofs.Formed as absolute
use Rattle.ast.proofs.Accepted.{sized, formed}
use Rattle.ast.proofs.Unfold.{tree_of, row_of}

unfoldable pub append : Trees → Trees → Trees
append none us = us
append (t ◂ ts) us = t ◂ append ts us

pub append-none : (ts : Trees) → append ts none ≡ ts
unfolding append
append-none none = refl
append-none (t ◂ ts) = ap (λ (us : Trees). t ◂ us) (append-none ts)

-- the node c may be a child of n, of kind k
pub record Child (img : List ℕ) (n k c : ℕ) : Type 0 where
  pub below : c < n
  pub kind : kind_at img c ≡ k

module _ (img : List ℕ) (n : ℕ) where
  -- the place after c blocks that start at j
  unfoldable pub blocks_end : ℕ → ℕ → ℕ
  blocks_end zero j = j
  blocks_end (suc c) j = blocks_end c (j + 1 + field img n j)

  -- the place after a field that starts at j
  unfoldable pub next : Field → ℕ → ℕ
  unfolding blocks_end
  next name j = j + 1
  next opt_name j = j + 1
  next (child k) j = j + 1
  next (opt_child k) j = j + 1
  next (list k) j = j + 1 + field img n j
  next (lists k) j = blocks_end (field img n j) (j + 1)
  next (cases ks) j = elim (eqb (get_or ks (field img n j) no_child) no_child) [ true ↦ j + 1 | false ↦ j + 2 ]

  -- the place after fields that start at j
  unfoldable pub ends : List Field → ℕ → ℕ
  ends [] j = j
  ends (g ∷ gs) j = ends gs (next g j)

  unfoldable pub blocks_shape : ℕ → ℕ → List ℕ
  blocks_shape zero j = []
  blocks_shape (suc c) j = field img n j ∷ blocks_shape c (j + 1 + field img n j)

  unfoldable pub shape_of : Field → ℕ → List ℕ
  unfolding blocks_shape
  shape_of name j = []
  shape_of opt_name j = elim (field img n j) [ zero ↦ 0 | suc m ↦ 1 ] ∷ []
  shape_of (child k) j = []
  shape_of (opt_child k) j = elim (field img n j) [ zero ↦ 0 | suc m ↦ 1 ] ∷ []
  shape_of (list k) j = field img n j ∷ []
  shape_of (lists k) j = field img n j ∷ blocks_shape (field img n j) (j + 1)
  shape_of (cases ks) j = field img n j ∷ []

  unfoldable pub shapes : List Field → ℕ → List ℕ
  unfolding shape_of next
  shapes [] j = []
  shapes (g ∷ gs) j = shape_of g j ++ shapes gs (next g j)

  unfoldable pub kids_of : Field → ℕ → Trees
  unfolding items blocks
  kids_of name j = none
  kids_of opt_name j = none
  kids_of (child k) j = tree_at img (field img n j) ◂ none
  kids_of (opt_child k) j = elim (field img n j) [ zero ↦ none | suc m ↦ tree_at img m ◂ none ]
  kids_of (list k) j = items img n (field img n j) (j + 1)
  kids_of (lists k) j = blocks img n (field img n j) (j + 1)
  kids_of (cases ks) j = elim (eqb (get_or ks (field img n j) no_child) no_child) [ true ↦ none | false ↦ tree_at img (field img n (j + 1)) ◂ none ]

  unfoldable pub all_kids : List Field → ℕ → Trees
  unfolding kids_of append next
  all_kids [] j = none
  all_kids (g ∷ gs) j = append (kids_of g j) (all_kids gs (next g j))

  -- the node n, of a kind
  unfoldable pub node_of : Kind → Tree
  unfolding shapes all_kids ordered
  node_of kd = node n (kind_at img n) kd.class (shapes kd.fields 0) (ordered kd.class (all_kids kd.fields 0))

  abbrev pub Items : ℕ → ℕ → ℕ → Type 0
  Items k count j = (i : ℕ) → i < count → Child img n k (field img n (j + i))

  unfoldable pub FormedBlocks : ℕ → ℕ → ℕ → Type 0
  FormedBlocks k zero j = Unit {0}
  FormedBlocks k (suc c) j = Items k (field img n j) (j + 1) × FormedBlocks k c (j + 1 + field img n j)

  unfoldable pub FormedField : Field → ℕ → Type 0
  unfolding FormedBlocks
  FormedField name j = Unit {0}
  FormedField opt_name j = Unit {0}
  FormedField (child k) j = Child img n k (field img n j)
  FormedField (opt_child k) j = (m : ℕ) → field img n j ≡ suc m → Child img n k m
  FormedField (list k) j = Items k (field img n j) (j + 1)
  FormedField (lists k) j = FormedBlocks k (field img n j) (j + 1)
  FormedField (cases ks) j =
      (field img n j < length ks)
      × ((get_or ks (field img n j) no_child ≡ no_child → ⊥) → Child img n (get_or ks (field img n j) no_child) (field img n (j + 1)))

  unfoldable pub FormedFields : List Field → ℕ → Type 0
  unfolding FormedField
  FormedFields [] j = Unit {0}
  FormedFields (g ∷ gs) j = FormedField g j × FormedFields gs (next g j)

-- a row: its fields, and that it lies among the operand words, of which there are at most 8,192
pub record FormedRow (img : List ℕ) (n : ℕ) (fs : List Field) : Type 0 where
  pub fields : FormedFields img n fs 0
  pub short : ends img n fs 0 ≤ 8192

-- the two ways of counting places agree ----------------------------------------------------------------------------
grow-append : (f : ℕ → Tree) (ks ls : List Kid) → grow f (ks ++ ls) ≡ append (grow f ks) (grow f ls)
unfolding grow append
grow-append f [] ls = refl
grow-append f (one c ∷ ks) ls = ap (λ (us : Trees). f c ◂ us) (grow-append f ks ls)
grow-append f (many cs ∷ ks) ls = ap (λ (us : Trees). block (grow_all f cs) ◂ us) (grow-append f ks ls)

grow-ones : (f : ℕ → Tree) (cs : List ℕ) → grow f (ones cs) ≡ grow_all f cs
unfolding grow grow_all ones
grow-ones f [] = refl
grow-ones f (c ∷ cs) = ap (λ (us : Trees). f c ◂ us) (grow-ones f cs)

module _ (img : List ℕ) (n : ℕ) where
  -- the place of the first field
  abbrev base : ℕ
  base = start_at img n + 2

  one_on : (j : ℕ) → base + j + 1 ≡ base + (j + 1)
  one_on j = omega arith

  far-on : (j c : ℕ) → base + j + 1 + c ≡ base + (j + 1 + c)
  far-on j c = omega arith

  two-on : (j : ℕ) → base + j + 2 ≡ base + (j + 2)
  two-on j = omega arith

  items-are : (c j : ℕ) → grow_all (tree_at img) (ops_from img c (base + j)) ≡ items img n c j
  unfolding grow_all ops_from items field
  items-are zero j = refl
  items-are (suc c) j =
      ap (λ (us : Trees). tree_at img (op_at img (base + j)) ◂ us)
      (ap (λ (p : ℕ). grow_all (tree_at img) (ops_from img c p)) (one_on j) ∙ items-are c (j + 1))

  blocks-are : (c j : ℕ) → grow (tree_at img) (block_kids img c (base + j)) ≡ blocks img n c j
  unfolding grow block_kids blocks field
  blocks-are zero j = refl
  blocks-are (suc c) j =
      ap₂ (λ (u : Trees) (us : Trees). block u ◂ us)
      (ap (λ (p : ℕ). grow_all (tree_at img) (ops_from img (op_at img (base + j)) p)) (one_on j) ∙ items-are (op_at img (base + j)) (j + 1))
      (ap (λ (p : ℕ). grow (tree_at img) (block_kids img c p)) (far-on j (op_at img (base + j))) ∙ blocks-are c (j + 1 + op_at img (base + j)))

  counts-are : (c j : ℕ) → block_counts img c (base + j) ≡ blocks_shape img n c j
  unfolding block_counts blocks_shape field
  counts-are zero j = refl
  counts-are (suc c) j =
      ap (λ (l : List ℕ). op_at img (base + j) ∷ l)
      (ap (block_counts img c) (far-on j (op_at img (base + j))) ∙ counts-are c (j + 1 + op_at img (base + j)))

  blocks-after : (c j : ℕ) → after_blocks img c (base + j) ≡ base + blocks_end img n c j
  unfolding after_blocks blocks_end field
  blocks-after zero j = refl
  blocks-after (suc c) j = ap (after_blocks img c) (far-on j (op_at img (base + j))) ∙ blocks-after c (j + 1 + op_at img (base + j))

  after_is : (g : Field) (j : ℕ) → after img g (base + j) ≡ base + next img n g j
  unfolding after next field
  after_is name j = one_on j
  after_is opt_name j = one_on j
  after_is (child k) j = one_on j
  after_is (opt_child k) j = one_on j
  after_is (list k) j = far-on j (op_at img (base + j))
  after_is (lists k) j = ap (after_blocks img (op_at img (base + j))) (one_on j) ∙ blocks-after (op_at img (base + j)) (j + 1)
  after_is (cases ks) j = go (eqb (get_or ks (op_at img (base + j)) no_child) no_child)
    where
      go : (b : Bool) → ◌≡◌ {A = ℕ} (elim b [ true ↦ base + j + 1 | false ↦ base + j + 2 ]) (base + elim b [ true ↦ j + 1 | false ↦ j + 2 ])
      go true = one_on j
      go false = two-on j

  kids-are : (g : Field) (j : ℕ) → grow (tree_at img) (field_kids img g (base + j)) ≡ kids_of img n g j
  unfolding grow field_kids kids_of field
  kids-are name j = refl
  kids-are opt_name j = refl
  kids-are (child k) j = refl
  kids-are (opt_child k) j = go (op_at img (base + j))
    where
      go : (w : ℕ) → grow (tree_at img) (elim w [ zero ↦ [] | suc c ↦ one c ∷ [] ]) ≡ elim w [ zero ↦ none | suc m ↦ tree_at img m ◂ none ]
      go zero = refl
      go (suc c) = refl
  kids-are (list k) j =
      grow-ones (tree_at img) _
      ∙ ap (λ (p : ℕ). grow_all (tree_at img) (ops_from img (op_at img (base + j)) p)) (one_on j)
      ∙ items-are (op_at img (base + j)) (j + 1)
  kids-are (lists k) j =
      ap (λ (p : ℕ). grow (tree_at img) (block_kids img (op_at img (base + j)) p)) (one_on j) ∙ blocks-are (op_at img (base + j)) (j + 1)
  kids-are (cases ks) j = go (eqb (get_or ks (op_at img (base + j)) no_child) no_child)
    where
      go : (b : Bool) → grow (tree_at img) (elim b [ true ↦ [] | false ↦ one (op_at img (base + j + 1)) ∷ [] ]) ≡ elim b [ true ↦ none | false ↦ tree_at img (op_at img (base + (j + 1))) ◂ none ]
      go true = refl
      go false = ap (λ (p : ℕ). tree_at img (op_at img p) ◂ none) (one_on j)

  all_are : (gs : List Field) (j : ℕ) → grow (tree_at img) (fields_kids img gs (base + j)) ≡ all_kids img n gs j
  unfolding fields_kids all_kids grow
  all_are [] j = refl
  all_are (g ∷ gs) j =
      grow-append (tree_at img) (field_kids img g (base + j)) (fields_kids img gs (after img g (base + j)))
      ∙ ap₂ append (kids-are g j)
      (ap (λ (p : ℕ). grow (tree_at img) (fields_kids img gs p)) (after_is g j) ∙ all_are gs (next img n g j))

  shape_is : (g : Field) (j : ℕ) → field_shape img g (base + j) ≡ shape_of img n g j
  unfolding field_shape shape_of field
  shape_is name j = refl
  shape_is opt_name j = refl
  shape_is (child k) j = refl
  shape_is (opt_child k) j = refl
  shape_is (list k) j = refl
  shape_is (lists k) j =
      ap (λ (l : List ℕ). op_at img (base + j) ∷ l) (ap (block_counts img (op_at img (base + j))) (one_on j) ∙ counts-are (op_at img (base + j)) (j + 1))
  shape_is (cases ks) j = refl

  shapes-are : (gs : List Field) (j : ℕ) → fields_shape img gs (base + j) ≡ shapes img n gs j
  unfolding fields_shape shapes
  shapes-are [] j = refl
  shapes-are (g ∷ gs) j = ap₂ ◌++◌ (shape_is g j) (ap (fields_shape img gs) (after_is g j) ∙ shapes-are gs (next img n g j))

  ends-are : (gs : List Field) (j : ℕ) → after_fields img gs (base + j) ≡ base + ends img n gs j
  unfolding after_fields ends
  ends-are [] j = refl
  ends-are (g ∷ gs) j = ap (after_fields img gs) (after_is g j) ∙ ends-are gs (next img n g j)

  -- what acceptance says of a row, at these places
  child-is : {k c : ℕ} → absolute.Child img n k c → Child img n k c
  child-is h = record { below = h.0; kind = h.1 }

  items-formed : (k c j : ℕ) → absolute.Items img n k c (base + j) → Items img n k c j
  unfolding field
  items-formed k c j h i l = child-is (subst (λ (p : ℕ). absolute.Child img n k (op_at img p)) (add_assoc base j i) (h i l))

  blocks-formed : (k c j : ℕ) → absolute.FormedBlocks img n k c (base + j) → FormedBlocks img n k c j
  unfolding absolute.FormedBlocks FormedBlocks field
  blocks-formed k zero j h = tt
  blocks-formed k (suc c) j h =
      let w = op_at img (base + j) in (
        items-formed k w (j + 1) (subst (absolute.Items img n k w) (one_on j) h.1),
        blocks-formed k c (j + 1 + w) (subst (absolute.FormedBlocks img n k c) (far-on j w) h.2),
      )

  field-formed : (g : Field) (j : ℕ) → absolute.FormedField img n g (base + j) → FormedField img n g j
  unfolding absolute.FormedField FormedField field
  field-formed name j h = tt
  field-formed opt_name j h = tt
  field-formed (child k) j h = child-is h
  field-formed (opt_child k) j h = λ m e. go (op_at img (base + j)) h m e
    where
      go : (w : ℕ) → elim w as (λ x. Type 0) [ zero ↦ Unit {0} | suc c ↦ absolute.Child img n k c ] → (m : ℕ) → w ≡ suc m → Child img n k m
      go zero q m e = absurd (omega arith)
      go (suc c) q m e = let z : c ≡ m = omega arith in subst (Child img n k) z (child-is q)
  field-formed (list k) j h = items-formed k (op_at img (base + j)) (j + 1) (subst (absolute.Items img n k (op_at img (base + j))) (one_on j) h)
  field-formed (lists k) j h = blocks-formed k (op_at img (base + j)) (j + 1) (subst (absolute.FormedBlocks img n k (op_at img (base + j))) (one_on j) h)
  field-formed (cases ks) j h = (h.0, λ q. go (eqb (get_or ks (op_at img (base + j)) no_child) no_child) (ne_eqb _ _ q) h.1)
    where
      go : (b : Bool) → b ≡ false
          → elim b as (λ x. Type 0) [ true ↦ Unit {0} | false ↦ absolute.Child img n (get_or ks (op_at img (base + j)) no_child) (op_at img (base + j + 1)) ]
          → Child img n (get_or ks (op_at img (base + j)) no_child) (op_at img (base + (j + 1)))
      go true e q = absurd (true-false e)
        where
          true-false : true ≡ false → ⊥
          true-false p = let z : ◌≡◌ {A = ℕ} 0 1 = cc in omega arith
      go false e q = child-is (subst (λ (p : ℕ). absolute.Child img n (get_or ks (op_at img (base + j)) no_child) (op_at img p)) (one_on j) q)

  fields-formed : (gs : List Field) (j : ℕ) → absolute.FormedFields img n gs (base + j) → FormedFields img n gs j
  unfolding absolute.FormedFields FormedFields
  fields-formed [] j h = tt
  fields-formed (g ∷ gs) j h = (field-formed g j h.1, fields-formed gs (next img n g j) (subst (absolute.FormedFields img n gs) (after_is g j) h.2))

module _ (img : List ℕ) (accepted : verdict img ≡ 0) (n : ℕ) (below : n < nodes img) where
  -- the tree of n, over the trees of its children
  pub tree_is : tree_at img n ≡ node_of img n (kind_of (kind_at img n))
  unfolding node_of
  tree_is =
      let k = kind_of (kind_at img n) in
      tree_of img (formed img accepted) n below (kind_at img n) refl
      ∙ ap₂ (λ (sh : List ℕ) (us : Trees). node n (kind_at img n) k.class sh (ordered k.class us))
      (ap (fields_shape img k.fields) (sym (add-zero (base img n))) ∙ shapes-are img n k.fields 0)
      (ap (λ (p : ℕ). grow (tree_at img) (fields_kids img k.fields p)) (sym (add-zero (base img n))) ∙ all_are img n k.fields 0)

  -- its row
  pub row-formed : FormedRow img n (kind_of (kind_at img n)).fields
  unfolding row_end fields_at
  row-formed =
      let fs = (kind_of (kind_at img n)).fields in
      let e = ap (after_fields img fs) (sym (add-zero (base img n))) ∙ ends-are img n fs 0 in
      let l = ((formed img accepted).each n below).end in
      let s = (sized img accepted).few_operands in
      record {
        fields = fields-formed img n fs 0 (subst (absolute.FormedFields img n fs) (sym (add-zero (base img n))) (row_of img (formed img accepted) n below (kind_at img n) refl));
        short = omega arith;
      }
