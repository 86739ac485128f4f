-- From an accepting verdict: every row is formed.
use mathlib.Core.Bool.{Bool, true, false}
use mathlib.Core.Path.{◌≡◌, refl, subst}
use mathlib.Core.Logic.{◌≢◌}
use mathlib.Core.List.{List, [], ◌∷◌}
use Prim.Native.Nat.{ℕ, zero, suc, ◌+◌, ◌*◌, ◌<◌, ◌≤◌}
use native.Mathlib.Nat.{add-zero, zero-add}
use native.Mathlib.Omega.{arith}
use native.Mathlib.Decide.{dec_lt}
use lib.Dec.{T, T_not, eqb, leb→le, ltb→lt, eqb→eq, eqb_refl}
use lib.ListN.{length, get_or}
use Rattle.ast.specs.Image.{nodes, op_at, operands, names, bytes, name_start, name_end, name_bytes, last}
use Rattle.ast.specs.Kinds.{Field, name, opt_name, child, opt_child, list, lists, cases, no_child}
use Rattle.ast.specs.Rows.{after, after_blocks, after_fields, row_end}
use Rattle.ast.specs.Tests.{◌▸◌, need, run, same, in_row, is_child, child_word, test_blocks, test_field, test_fields, test_node, test_tree, test_sizes, test_ends, test_twice, test_names, verdict}
use Rattle.ast.specs.Promises.{Head, Within, Rises}
use Rattle.ast.specs.declared.Sizes.{Sizes}
use Rattle.ast.proofs.Formed.{Child, Items, FormedBlocks, FormedField, FormedFields, FormedNode, Formed}

pub both : (a b : ℕ) → a ▸ b ≡ 0 → (a ≡ 0) × (b ≡ 0)
unfolding ◌▸◌
both zero b e = (refl, e)
both (suc a) b e = absurd (omega arith)

-- the same in the other direction, for code that goes through the tests in order
pub skip : (a b : ℕ) → a ≡ 0 → a ▸ b ≡ b
unfolding ◌▸◌
skip zero b e = refl
skip (suc a) b e = absurd (omega arith)

pub stop : (a b r : ℕ) → a ≡ suc r → a ▸ b ≡ suc r
unfolding ◌▸◌
stop zero b r e = absurd (omega arith)
stop (suc a) b r e = e

pub stop-at : (a b k : ℕ) → a ≡ k → (k ≡ 0 → ⊥) → a ▸ b ≡ k
stop-at a b zero e z = absurd (z refl)
stop-at a b (suc k) e z = stop a b k e

pub needed : (r : ℕ) (b : Bool) → need (suc r) b ≡ 0 → T b
unfolding need
needed r true e = tt
needed r false e = absurd (omega arith)

pub ran : (f : ℕ → ℕ) (c i : ℕ) → run f c i ≡ 0 → (j : ℕ) → j < c → f (i + j) ≡ 0
unfolding run
ran f zero i e j h = absurd (omega arith)
ran f (suc c) i e zero h = rw add-zero (both _ _ e).0
ran f (suc c) i e (suc j) h =
    let q : i + 1 + j ≡ i + suc j = omega arith in
    rw q at (ran f c (i + 1) (both _ _ e).1 j (omega arith))

same_refl : (xs : List ℕ) → T (same xs xs)
unfolding same
same_refl [] = tt
same_refl (x ∷ xs) = go (eqb x x) (eqb_refl x) (same_refl xs)
  where
    go : (b : Bool) → T b → T (same xs xs) → T (elim b [ true ↦ same xs xs | false ↦ false ])
    go true t h = h
    go false t h = absurd t

same-eq : {xs ys : List ℕ} → xs ≡ ys → T (same xs ys)
same-eq {xs} e = subst (λ ys. T (same xs ys)) e (same_refl xs)

module _ (img : List ℕ) where
  inside : (p : ℕ) → in_row img p ≡ 0 → p < operands img
  unfolding in_row
  inside p e = ltb→lt _ _ (needed 6 _ e)

  module _ (n : ℕ) where
    pub is_child-ok : (k c : ℕ) → is_child img n k c ≡ 0 → Child img n k c
    unfolding is_child
    is_child-ok k c e = let (l, r) = both _ _ e in (ltb→lt _ _ (needed 8 _ l), eqb→eq _ _ (needed 8 _ r))

    word_ok : (k p : ℕ) → child_word img n k p ≡ 0 → Child img n k (op_at img p)
    unfolding child_word
    word_ok k p e = is_child-ok k _ (both _ _ e).1

    word_in : (k p : ℕ) → child_word img n k p ≡ 0 → p < operands img
    unfolding child_word
    word_in k p e = inside p (both _ _ e).0

    items-ok : (k c p : ℕ) → run (child_word img n k) c p ≡ 0 → Items img n k c p
    items-ok k c p e j h = word_ok k (p + j) (ran _ c p e j h)

    items-in : (k c p : ℕ) → run (child_word img n k) c p ≡ 0 → p ≤ operands img → p + c ≤ operands img
    items-in k zero p e h = omega arith
    items-in k (suc c) p e h = let l = word_in k (p + c) (ran _ (suc c) p e c (omega arith)) in omega arith

    blocks-ok : (k c p : ℕ) → test_blocks img n k c p ≡ 0 → FormedBlocks img n k c p
    unfolding test_blocks FormedBlocks
    blocks-ok k zero p e = tt
    blocks-ok k (suc c) p e =
        let i = inside p (both _ _ e).0 in
        let r = both _ _ (both _ _ e).1 in
        (items-in k _ (p + 1) r.0 (omega arith), items-ok k _ (p + 1) r.0, blocks-ok k c _ r.1)

    blocks-in : (k c p : ℕ) → test_blocks img n k c p ≡ 0 → p ≤ operands img → after_blocks img c p ≤ operands img
    unfolding test_blocks after_blocks
    blocks-in k zero p e h = h
    blocks-in k (suc c) p e h =
        let i = inside p (both _ _ e).0 in
        let r = both _ _ (both _ _ e).1 in
        blocks-in k c _ r.1 (items-in k _ (p + 1) r.0 (omega arith))

    option-ok : (k w : ℕ) → ◌≡◌ {A = ℕ} (elim w [ zero ↦ 0 | suc c ↦ is_child img n k c ]) 0
        → elim w as (λ x. Type 0) [ zero ↦ Unit {0} | suc c ↦ Child img n k c ]
    option-ok k zero e = tt
    option-ok k (suc c) e = is_child-ok k c e

    case-ok : (b : Bool) (k p : ℕ) → ◌≡◌ {A = ℕ} (elim b [ true ↦ 0 | false ↦ child_word img n k p ]) 0
        → elim b as (λ x. Type 0) [ true ↦ Unit {0} | false ↦ Child img n k (op_at img p) ]
    case-ok true k p e = tt
    case-ok false k p e = word_ok k p e

    case-in : (b : Bool) (k p : ℕ) → p < operands img → ◌≡◌ {A = ℕ} (elim b [ true ↦ 0 | false ↦ child_word img n k (p + 1) ]) 0
        → (elim b [ true ↦ p + 1 | false ↦ p + 2 ]) ≤ operands img
    case-in true k p h e = omega arith
    case-in false k p h e = let l = word_in k (p + 1) e in omega arith

    field-ok : (g : Field) (p : ℕ) → test_field img n g p ≡ 0 → FormedField img n g p
    unfolding test_field FormedField
    field-ok name p e = ltb→lt _ _ (needed 7 _ (both _ _ e).1)
    field-ok opt_name p e = leb→le _ _ (needed 7 _ (both _ _ e).1)
    field-ok (child k) p e = word_ok k p e
    field-ok (opt_child k) p e = option-ok k (op_at img p) (both _ _ e).1
    field-ok (list k) p e = items-ok k _ (p + 1) (both _ _ e).1
    field-ok (lists k) p e = blocks-ok k _ (p + 1) (both _ _ e).1
    field-ok (cases ks) p e =
        let r = both _ _ (both _ _ e).1 in
        (ltb→lt _ _ (needed 7 _ r.0), case-ok (eqb (get_or ks (op_at img p) no_child) no_child) _ (p + 1) r.1)

    field_in : (g : Field) (p : ℕ) → test_field img n g p ≡ 0 → after img g p ≤ operands img
    unfolding test_field after
    field_in name p e = let i = inside p (both _ _ e).0 in omega arith
    field_in opt_name p e = let i = inside p (both _ _ e).0 in omega arith
    field_in (child k) p e = let i = word_in k p e in omega arith
    field_in (opt_child k) p e = let i = inside p (both _ _ e).0 in omega arith
    field_in (list k) p e = let i = inside p (both _ _ e).0 in items-in k _ (p + 1) (both _ _ e).1 (omega arith)
    field_in (lists k) p e = let i = inside p (both _ _ e).0 in blocks-in k _ (p + 1) (both _ _ e).1 (omega arith)
    field_in (cases ks) p e = case-in (eqb (get_or ks (op_at img p) no_child) no_child) _ p (inside p (both _ _ e).0) (both _ _ (both _ _ e).1).1

    fields-ok : (gs : List Field) (p : ℕ) → test_fields img n gs p ≡ 0 → FormedFields img n gs p
    unfolding test_fields FormedFields
    fields-ok [] p e = tt
    fields-ok (g ∷ gs) p e = let r = both _ _ e in (field_in g p r.0, field-ok g p r.0, fields-ok gs _ r.1)

    fields_in : (gs : List Field) (p : ℕ) → test_fields img n gs p ≡ 0 → p ≤ operands img → after_fields img gs p ≤ operands img
    unfolding test_fields after_fields
    fields_in [] p e h = h
    fields_in (g ∷ gs) p e h = let r = both _ _ e in fields_in gs _ r.1 (field_in g p r.0)

    node_ok : test_node img n ≡ 0 → FormedNode img n
    unfolding test_node row_end
    node_ok e =
        let a = both _ _ e in
        let b = both _ _ a.1 in
        let c = both _ _ b.1 in
        let d = both _ _ c.1 in
        let i = inside _ d.0 in
        record {
          kind = leb→le _ _ (needed 5 _ a.0);
          start = eqb→eq _ _ (needed 6 _ b.0);
          end = fields_in _ _ d.1 (omega arith);
          row = fields-ok _ _ d.1;
        }

  -- the four places of the table, apart
  pub record Passed : Type 0 where
    pub sizes : test_sizes img ≡ 0
    pub named : test_names img ≡ 0
    pub rows : run (test_node img) (nodes img) 0 ≡ 0
    pub tree : test_tree img ≡ 0

  pub passed : verdict img ≡ 0 → Passed
  unfolding verdict
  passed e =
      let a = both _ _ e in
      let b = both _ _ a.1 in
      let c = both _ _ b.1 in
      record { sizes = a.0; named = b.0; rows = c.0; tree = c.1 }

  pub record Sized : Type 0 where
    pub head : 16 ≤ length img
    pub some : 0 < nodes img
    pub few_nodes : nodes img ≤ 2048
    pub few_operands : operands img ≤ 8192
    pub few_names : names img ≤ 1024
    pub few_bytes : bytes img ≤ 8192
    pub exact : length img ≡ 16 + 8 * nodes img + 4 * operands img + 4 * names img + bytes img

  pub sizes-ok : test_sizes img ≡ 0 → Sized
  unfolding test_sizes
  sizes-ok e =
      let a = both _ _ e in
      let b = both _ _ a.1 in
      let c = both _ _ b.1 in
      let d = both _ _ c.1 in
      let f = both _ _ d.1 in
      let g = both _ _ f.1 in
      record {
        head = leb→le _ _ (needed 0 _ a.0);
        some = ltb→lt _ _ (needed 1 _ b.0);
        few_nodes = leb→le _ _ (needed 1 _ c.0);
        few_operands = leb→le _ _ (needed 1 _ d.0);
        few_names = leb→le _ _ (needed 1 _ f.0);
        few_bytes = leb→le _ _ (needed 1 _ g.0);
        exact = eqb→eq _ _ (needed 2 _ g.1);
      }

  pub sized : verdict img ≡ 0 → Sized
  sized e = sizes-ok (passed e).sizes

  -- and then so are the sizes read in front
  pub within : {s : Sizes} → Sized → Head img s → Within img s
  within z h = record { head = h; some = omega arith; few = omega arith; short = omega arith; called = omega arith; long = omega arith; exact = omega arith }

  -- each word of the four areas lies within the image
  pub words-in : Sized → (n p i : ℕ) → n < nodes img → p < operands img → i < names img
      → (16 + 4 * n + 4 ≤ length img) × (16 + 4 * nodes img + 4 * n + 4 ≤ length img)
      × (16 + 8 * nodes img + 4 * p + 4 ≤ length img) × (16 + 8 * nodes img + 4 * operands img + 4 * i + 4 ≤ length img)
  words-in s n p i h k l = omega arith

  pub rises-of : test_ends img ≡ 0 → Rises img
  unfolding test_ends
  rises-of e =
      let a = both _ _ e in
      record {
        rises = λ i h. ltb→lt _ _ (needed 3 _ (rw zero-add at (ran _ _ 0 a.0 i h)));
        ends = eqb→eq _ _ (needed 3 _ a.1);
      }

  -- so every name ends within the name bytes
  pub name_in : Rises img → (i : ℕ) → i < names img → name_end img i ≤ bytes img
  unfolding name_start
  name_in h i l = rw h.ends at (go (names img) l (omega arith))
    where
      go : (m : ℕ) → i < m → m ≤ names img → name_end img i ≤ name_start img m
      go zero k r = absurd (omega arith)
      go (suc m) k r = step (dec_lt i m) (λ d. go m d (omega arith))
        where
          step : Dec (i < m) → (i < m → name_end img i ≤ name_start img m) → name_end img i ≤ name_start img (suc m)
          step (yes d) ih = let a = ih d in let b = h.rises m (omega arith) in omega arith
          step (no d) ih = let q : i ≡ m = omega arith in rw q (omega arith)

  pub record Named : Type 0 where
    pub rising_all : Rises img
    pub differ : (i j : ℕ) → i < names img → j < i → name_bytes img j ≢ name_bytes img i

  pub named : verdict img ≡ 0 → Named
  unfolding test_names test_twice
  named e =
      let a = both _ _ (passed e).named in
      record {
        rising_all = rises-of a.0;
        differ = λ i j h k q. T_not (same (name_bytes img j) (name_bytes img i)) (needed 4 _ (rw zero-add at (ran _ i 0 (rw zero-add at (ran _ _ 0 a.1 i h)) j k))) (same-eq q);
      }

  pub formed : verdict img ≡ 0 → Formed img
  unfolding test_tree
  formed e =
      let p = passed e in
      let a = both _ _ p.tree in
      let b = both _ _ a.1 in
      record {
        each = λ n h. node_ok n (rw zero-add at (ran _ _ 0 p.rows n h));
        fills = eqb→eq _ _ (needed 9 _ a.0);
        root = eqb→eq _ _ (needed 9 _ b.0);
      }

  pub last-below : verdict img ≡ 0 → last img < nodes img
  unfolding last
  last-below e = let s = (sized e).some in omega arith
