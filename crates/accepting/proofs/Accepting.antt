-- What suffices for an image to be accepted: sizes, names, rows that are formed, one parent for each node, and terms that are
-- variables where they have to be. The way back from what acceptance gives.
use mathlib.Core.Bool.{Bool, true, false, not}
use mathlib.Core.Path.{◌≡◌, refl, ap, ◌∙◌}
use mathlib.Core.Logic.{◌≢◌}
use mathlib.Core.List.{List, [], ◌∷◌}
use Prim.Native.Nat.{ℕ, zero, suc, ◌+◌, ◌<◌, ◌≤◌}
use native.Mathlib.Nat.{add-zero, zero-add}
use native.Mathlib.Omega.{arith}
use lib.Dec.{T, eqb, eqb→eq}
use lib.ListN.{get_or}
use borrow.Author.Tests.{lt-ltb, le-leb, eq-eqb}
use Rattle.ast.specs.Image.{nodes, operands, names, last, start_at, op_at, name_bytes}
use Rattle.ast.specs.Kinds.{Field, name, opt_name, child, opt_child, list, lists, cases, no_child}
use Rattle.ast.specs.Rows.{after, fields_at, row_end, kids_to}
use Rattle.ast.specs.Tests.{◌▸◌, run, same, times, in_row, is_child, child_word, test_blocks, test_field, test_fields, test_node, test_sizes, test_ends, test_twice, test_names, test_parents, test_var, test_tree, verdict}
use Rattle.ast.proofs.Accepted.{skip, both, ran, passed, sized, named, formed, Sized, Named}
use Rattle.ast.proofs.Count.{parents}
use Rattle.ast.proofs.Formed.{Child, Items, FormedBlocks, FormedField, FormedFields, FormedNode, Formed}
use Rattle.ast.proofs.RowNames.{field-on, fields-on}
use Rattle.ast.proofs.Scans.{need-in}

-- tests that pass, one after another and all of a run
pub pass : (a b : ℕ) → a ≡ 0 → b ≡ 0 → a ▸ b ≡ 0
pass a b p q = skip a b p ∙ q

run-from : (f : ℕ → ℕ) (c i : ℕ) → ((j : ℕ) → j < c → f (i + j) ≡ 0) → run f c i ≡ 0
unfolding run
run-from f zero i h = refl
run-from f (suc c) i h =
    pass _ _ (rw add-zero at (h 0 (omega arith)))
    (run-from f c (i + 1) (λ j l. let q : i + suc j ≡ i + 1 + j = omega arith in rw q at (h (suc j) (omega arith))))

run-all : (f : ℕ → ℕ) (c : ℕ) → ((j : ℕ) → j < c → f j ≡ 0) → run f c 0 ≡ 0
run-all f c h = run-from f c 0 (λ j l. rw zero-add (h j l))

-- lists that are not equal fail the test of equal bytes
same-eq : (xs ys : List ℕ) → same xs ys ≡ true → xs ≡ ys
unfolding same
same-eq [] [] e = refl
same-eq [] (y ∷ ys) e = cc
same-eq (x ∷ xs) [] e = cc
same-eq (x ∷ xs) (y ∷ ys) e = go (eqb x y) (eqb→eq x y) (same-eq xs ys) e
  where
    go : (b : Bool) → (T b → x ≡ y) → (same xs ys ≡ true → xs ≡ ys) → ◌≡◌ {A = Bool} (elim b [ true ↦ same xs ys | false ↦ false ]) true → x ∷ xs ≡ y ∷ ys
    go true h k e = let p = h tt in let q = k e in cc
    go false h k e = cc

same-other : (xs ys : List ℕ) → xs ≢ ys → same xs ys ≡ false
same-other xs ys n = go (same xs ys) (λ e. n (same-eq xs ys e))
  where
    go : (b : Bool) → (b ≡ true → ⊥) → b ≡ false
    go true k = absurd (k refl)
    go false k = refl

module _ (img : List ℕ) where
  in-row : (p : ℕ) → p < operands img → in_row img p ≡ 0
  unfolding in_row
  in-row p l = need-in 7 _ (lt-ltb _ _ l)

  -- a row that is formed passes its tests
  module _ (n : ℕ) where
    child-ok : (k c : ℕ) → Child img n k c → is_child img n k c ≡ 0
    unfolding is_child
    child-ok k c h = pass _ _ (need-in 9 _ (lt-ltb _ _ h.0)) (need-in 9 _ (eq-eqb _ _ h.1))

    word-ok : (k p : ℕ) → p < operands img → Child img n k (op_at img p) → child_word img n k p ≡ 0
    unfolding child_word
    word-ok k p l h = pass _ _ (in-row p l) (child-ok k _ h)

    items-ok : (k c p : ℕ) → p + c ≤ operands img → Items img n k c p → run (child_word img n k) c p ≡ 0
    items-ok k c p l h = run-from (child_word img n k) c p (λ j i. word-ok k (p + j) (omega arith) (h j i))

    blocks-ok : (k c p : ℕ) → FormedBlocks img n k c p → test_blocks img n k c p ≡ 0
    unfolding test_blocks FormedBlocks
    blocks-ok k zero p h = refl
    blocks-ok k (suc c) p h =
        let l = h.0 in
        pass _ _ (in-row p (omega arith)) (pass _ _ (items-ok k (op_at img p) (p + 1) l h.1) (blocks-ok k c (p + 1 + op_at img p) h.2))

    option-ok : (k w : ℕ) → elim w as (λ x. Type 0) [ zero ↦ Unit {0} | suc c ↦ Child img n k c ] → ◌≡◌ {A = ℕ} (elim w [ zero ↦ 0 | suc c ↦ is_child img n k c ]) 0
    option-ok k zero h = refl
    option-ok k (suc c) h = child-ok k c h

    case-ok : (b : Bool) (k p : ℕ) → (elim b [ true ↦ p + 1 | false ↦ p + 2 ]) ≤ operands img
        → elim b as (λ x. Type 0) [ true ↦ Unit {0} | false ↦ Child img n k (op_at img (p + 1)) ]
        → ◌≡◌ {A = ℕ} (elim b [ true ↦ 0 | false ↦ child_word img n k (p + 1) ]) 0
    case-ok true k p l h = refl
    case-ok false k p l h = word-ok k (p + 1) (omega arith) h

    field-ok : (g : Field) (p : ℕ) → after img g p ≤ operands img → FormedField img n g p → test_field img n g p ≡ 0
    unfolding after FormedField test_field
    field-ok g p l h = let a = field-on img g p in go g l h (omega arith)
      where
        go : (g : Field) → after img g p ≤ operands img → FormedField img n g p → p < operands img → test_field img n g p ≡ 0
        go name l h i = pass _ _ (in-row p i) (need-in 8 _ (lt-ltb _ _ h))
        go opt_name l h i = pass _ _ (in-row p i) (need-in 8 _ (le-leb _ _ h))
        go (child k) l h i = word-ok k p i h
        go (opt_child k) l h i = pass _ _ (in-row p i) (option-ok k (op_at img p) h)
        go (list k) l h i = pass _ _ (in-row p i) (items-ok k (op_at img p) (p + 1) l h)
        go (lists k) l h i = pass _ _ (in-row p i) (blocks-ok k (op_at img p) (p + 1) h)
        go (cases ks) l h i =
            pass _ _ (in-row p i) (pass _ _ (need-in 8 _ (lt-ltb _ _ h.0)) (case-ok (eqb (get_or ks (op_at img p) no_child) no_child) _ p l h.1))

    fields-ok : (gs : List Field) (p : ℕ) → FormedFields img n gs p → test_fields img n gs p ≡ 0
    unfolding FormedFields test_fields
    fields-ok [] p h = refl
    fields-ok (g ∷ gs) p h = pass _ _ (field-ok g p h.0 h.1) (fields-ok gs (after img g p) h.2)

    node-ok : FormedNode img n → test_node img n ≡ 0
    unfolding test_node row_end
    node-ok f =
        let a = fields-on img (fields_at img n) (start_at img n + 2) in
        let b = f.end in
        pass _ _ (need-in 6 _ (le-leb _ _ f.kind))
        (pass _ _ (need-in 7 _ (eq-eqb _ _ f.start))
        (pass _ _ (in-row (start_at img n) (omega arith))
        (pass _ _ (in-row (start_at img n + 1) (omega arith)) (fields-ok (fields_at img n) (start_at img n + 2) f.row))))

  sizes-ok : Sized img → test_sizes img ≡ 0
  unfolding test_sizes
  sizes-ok s =
      pass _ _ (need-in 1 _ (le-leb _ _ s.head))
      (pass _ _ (need-in 2 _ (lt-ltb _ _ s.some))
      (pass _ _ (need-in 2 _ (le-leb _ _ s.few_nodes))
      (pass _ _ (need-in 2 _ (le-leb _ _ s.few_operands))
      (pass _ _ (need-in 2 _ (le-leb _ _ s.few_names))
      (pass _ _ (need-in 2 _ (le-leb _ _ s.few_bytes))
      (need-in 3 _ (eq-eqb _ _ s.exact)))))))

  names-ok : Named img → test_names img ≡ 0
  unfolding test_names test_ends test_twice
  names-ok m =
      let r = m.rising_all in
      pass _ _
      (pass _ _ (run-all _ (names img) (λ i l. need-in 4 _ (lt-ltb _ _ (r.rises i l)))) (need-in 4 _ (eq-eqb _ _ r.ends)))
      (run-all _ (names img) (λ i l. run-all _ i (λ j k. need-in 5 _ (ap not (same-other (name_bytes img j) (name_bytes img i) (m.differ i j l k))))))

  -- what suffices
  pub record Acceptable : Type 0 where
    pub sized : Sized img
    pub named : Named img
    pub formed : Formed img
    pub parents : (v : ℕ) → v < last img → times v (kids_to img (nodes img)) ≡ 1
    pub vars : (n : ℕ) → n < nodes img → test_var img n ≡ 0

  -- such an image is accepted
  pub accepted : Acceptable → verdict img ≡ 0
  unfolding verdict test_tree test_parents
  accepted a =
      pass _ _ (sizes-ok a.sized)
      (pass _ _ (names-ok a.named)
      (pass _ _ (run-all (test_node img) (nodes img) (λ n l. node-ok n (a.formed.each n l)))
      (pass _ _ (need-in 10 _ (eq-eqb _ _ a.formed.fills))
      (pass _ _ (need-in 10 _ (eq-eqb _ _ a.formed.root))
      (pass _ _ (run-all _ (last img) (λ v l. need-in 11 _ (eq-eqb _ _ (a.parents v l)))) (run-all (test_var img) (nodes img) a.vars))))))

  -- every node of an accepted image passes the test of refusal 12
  pub vars-of : verdict img ≡ 0 → (n : ℕ) → n < nodes img → test_var img n ≡ 0
  unfolding test_tree
  vars-of e n h =
      let a = both _ _ ((passed img e).tree) in
      let b = both _ _ a.1 in
      let c = both _ _ b.1 in
      rw zero-add at (ran _ _ 0 c.1 n h)

  -- every accepted image is such
  pub acceptable : verdict img ≡ 0 → Acceptable
  acceptable e = record { sized = sized img e; named = named img e; formed = formed img e; parents = parents img e; vars = vars-of e }
