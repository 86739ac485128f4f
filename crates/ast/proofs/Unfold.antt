-- The tree of a node is made of the trees of its row's children.
use mathlib.Core.Bool.{Bool, true, false}
use mathlib.Core.Path.{◌≡◌, refl, sym, ap, ap₂, ◌∙◌, subst}
use mathlib.Core.List.{List, [], ◌∷◌, ◌++◌, append_assoc}
use Prim.Native.Nat.{ℕ, zero, suc, ◌+◌, ◌<◌}
use native.Mathlib.Nat.{add-zero}
use native.Mathlib.Omega.{arith}
use lib.Dec.{eqb}
use borrow.Author.Tests.{lt-ltb}
use lib.ListN.{get_or}
use Rattle.ast.specs.Image.{nodes, kind_at, start_at, op_at}
use Rattle.ast.specs.Kinds.{Field, name, opt_name, child, opt_child, list, lists, cases, no_child, kind_of}
use Rattle.ast.specs.Rows.{Kid, one, many, ones, numbers, ops_from, fields_shape, shape, after, block_kids, field_kids, fields_kids, fields_at, kids}
use Rattle.ast.specs.Tree.{Tree, node, block, ◌◂◌, ordered, grow_all, grow, class_at, tree_to, tree_at}
use Rattle.ast.proofs.Formed.{Child, Items, FormedBlocks, FormedField, FormedFields, FormedNode, Formed}

-- a property of every number of a list
pub data All (P : ℕ → Type 0) : List ℕ → Type 0 where
  nil : All P []
  cons : {c : ℕ} {cs : List ℕ} → P c → All P cs → All P (c ∷ cs)

module _ {P : ℕ → Type 0} where
  pub All-append : {cs ds : List ℕ} → All P cs → All P ds → All P (cs ++ ds)
  All-append nil k = k
  All-append (cons h r) k = cons h (All-append r k)

  pub All-split : (cs : List ℕ) {ds : List ℕ} → All P (cs ++ ds) → All P cs × All P ds
  All-split [] h = (nil, h)
  All-split (c ∷ cs) (cons h r) = let s = All-split cs r in (cons h s.0, s.1)

pub All-map : {P Q : ℕ → Type 0} → ((c : ℕ) → P c → Q c) → {cs : List ℕ} → All P cs → All Q cs
All-map f nil = nil
All-map f (cons {c} h r) = cons (f c h) (All-map f r)

pub numbers-append : (ks ls : List Kid) → numbers (ks ++ ls) ≡ numbers ks ++ numbers ls
unfolding numbers
numbers-append [] ls = refl
numbers-append (one c ∷ ks) ls = ap (λ r. c ∷ r) (numbers-append ks ls)
numbers-append (many cs ∷ ks) ls = ap (λ r. cs ++ r) (numbers-append ks ls) ∙ sym (append_assoc cs _ _)

pub numbers-ones : (cs : List ℕ) → numbers (ones cs) ≡ cs
unfolding numbers ones
numbers-ones [] = refl
numbers-ones (c ∷ cs) = ap (λ r. c ∷ r) (numbers-ones cs)

module _ (f g : ℕ → Tree) where
  grow_all-same : {cs : List ℕ} → All (λ c. f c ≡ g c) cs → grow_all f cs ≡ grow_all g cs
  unfolding grow_all
  grow_all-same nil = refl
  grow_all-same (cons h r) = ap₂ ◌◂◌ h (grow_all-same r)

  grow-same : (ks : List Kid) → All (λ c. f c ≡ g c) (numbers ks) → grow f ks ≡ grow g ks
  unfolding grow numbers
  grow-same [] h = refl
  grow-same (one c ∷ ks) (cons h r) = ap₂ ◌◂◌ h (grow-same ks r)
  grow-same (many cs ∷ ks) h =
      let r = All-split cs h in
      ap₂ ◌◂◌ (ap block (grow_all-same r.0)) (grow-same ks r.1)

-- children of a formed row are earlier nodes
module _ (img : List ℕ) (n : ℕ) where
  ops-below : (k c p : ℕ) → Items img n k c p → All (λ v. v < n) (ops_from img c p)
  unfolding ops_from
  ops-below k zero p h = nil
  ops-below k (suc c) p h = cons (rw add-zero at (h 0 (omega arith)).0) (ops-below k c (p + 1) rest)
    where
      rest : Items img n k c (p + 1)
      rest j l = let q : p + suc j ≡ p + 1 + j = omega arith in rw q at (h (suc j) (omega arith))

  blocks-below : (k c p : ℕ) → FormedBlocks img n k c p → All (λ v. v < n) (numbers (block_kids img c p))
  unfolding block_kids FormedBlocks numbers
  blocks-below k zero p h = nil
  blocks-below k (suc c) p h = All-append (ops-below k (op_at img p) (p + 1) h.1) (blocks-below k c (p + 1 + op_at img p) h.2)

  option-below : (k w : ℕ) → elim w as (λ x. Type 0) [ zero ↦ Unit {0} | suc c ↦ Child img n k c ]
      → All (λ v. v < n) (numbers (elim w [ zero ↦ [] | suc c ↦ one c ∷ [] ]))
  unfolding numbers
  option-below k zero h = nil
  option-below k (suc c) h = cons h.0 nil

  case-below : (b : Bool) (k c : ℕ) → elim b as (λ x. Type 0) [ true ↦ Unit {0} | false ↦ Child img n k c ]
      → All (λ v. v < n) (numbers (elim b [ true ↦ [] | false ↦ one c ∷ [] ]))
  unfolding numbers
  case-below true k c h = nil
  case-below false k c h = cons h.0 nil

  field_below : (g : Field) (p : ℕ) → FormedField img n g p → All (λ v. v < n) (numbers (field_kids img g p))
  unfolding FormedField field_kids numbers
  field_below name p h = nil
  field_below opt_name p h = nil
  field_below (child k) p h = cons h.0 nil
  field_below (opt_child k) p h = option-below k (op_at img p) h
  field_below (list k) p h = rw numbers-ones (ops-below k (op_at img p) (p + 1) h)
  field_below (lists k) p h = blocks-below k (op_at img p) (p + 1) h
  field_below (cases ks) p h = case-below (eqb (get_or ks (op_at img p) no_child) no_child) _ (op_at img (p + 1)) h.1

  fields-below : (gs : List Field) (p : ℕ) → FormedFields img n gs p → All (λ v. v < n) (numbers (fields_kids img gs p))
  unfolding FormedFields fields_kids numbers
  fields-below [] p h = nil
  fields-below (g ∷ gs) p h = rw numbers-append (All-append (field_below g p h.1) (fields-below gs (after img g p) h.2))

  pub kids-below : FormedNode img n → All (λ v. v < n) (numbers (kids img n))
  unfolding kids
  kids-below f = fields-below (fields_at img n) (start_at img n + 2) f.row

module _ (img : List ℕ) (f : Formed img) where
  depth : (d n : ℕ) → n < nodes img → tree_to img (suc d) n ≡ node n (kind_at img n) (class_at img n) (shape img n) (ordered (class_at img n) (grow (tree_to img d) (kids img n)))
  unfolding tree_to
  depth d n h = rw (lt-ltb _ _ h, tree_to)

  -- any depth above the number gives the same tree
  stable : (d b n : ℕ) → n < d → n < b → n < nodes img → tree_to img d n ≡ tree_to img b n
  stable zero b n h k l = absurd (omega arith)
  stable (suc d) zero n h k l = absurd (omega arith)
  stable (suc d) (suc b) n h k l =
      depth d n l
      ∙ ap (λ ts. node n (kind_at img n) (class_at img n) (shape img n) (ordered (class_at img n) ts))
      (grow-same (tree_to img d) (tree_to img b) (kids img n)
      (All-map (λ c i. stable d b c (omega arith) (omega arith) (omega arith)) (kids-below img n (f.each n l))))
      ∙ sym (depth b n l)

  -- the unfolding law
  pub tree_at-is : (n : ℕ) → n < nodes img
      → tree_at img n ≡ node n (kind_at img n) (class_at img n) (shape img n) (ordered (class_at img n) (grow (tree_at img) (kids img n)))
  unfolding tree_at
  tree_at-is n h =
      depth n n h
      ∙ ap (λ ts. node n (kind_at img n) (class_at img n) (shape img n) (ordered (class_at img n) ts))
      (grow-same (tree_to img n) (tree_at img) (kids img n)
      (All-map (λ c i. stable n (suc c) c i (omega arith) (omega arith)) (kids-below img n (f.each n h))))

  -- the same, at a known kind
  pub tree_of : (n : ℕ) → n < nodes img → (k : ℕ) → kind_at img n ≡ k
      → tree_at img n ≡ node n k (kind_of k).class (fields_shape img (kind_of k).fields (start_at img n + 2))
      (ordered (kind_of k).class (grow (tree_at img) (fields_kids img (kind_of k).fields (start_at img n + 2))))
  unfolding shape kids fields_at class_at
  tree_of n h k e = subst (λ x. tree_at img n ≡ node n x (kind_of x).class (fields_shape img (kind_of x).fields (start_at img n + 2))
      (ordered (kind_of x).class (grow (tree_at img) (fields_kids img (kind_of x).fields (start_at img n + 2))))) e (tree_at-is n h)

  pub row_of : (n : ℕ) → n < nodes img → (k : ℕ) → kind_at img n ≡ k → FormedFields img n (kind_of k).fields (start_at img n + 2)
  unfolding fields_at
  row_of n h k e = subst (λ x. FormedFields img n (kind_of x).fields (start_at img n + 2)) e (f.each n h).row
