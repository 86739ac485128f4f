-- No test of an image gives a number that a field of a packed answer has no room for.
use mathlib.Core.Bool.{Bool, true, false}
use mathlib.Core.List.{List, [], ◌∷◌}
use Prim.Native.Nat.{ℕ, zero, suc, ◌+◌}
use native.Mathlib.Omega.{arith}
use lib.Dec.{eqb}
use lib.ListN.{get_or}
use Rattle.ast.specs.Answer.{Short}
use Rattle.ast.specs.Image.{kind_at, op_at}
use Rattle.ast.specs.Kinds.{Field, name, opt_name, child, opt_child, list, lists, cases, no_child}
use Rattle.ast.specs.Rows.{after}
use Rattle.ast.specs.Tests.{◌▸◌, need, run, test_sizes, test_ends, unequal, test_twice, test_names, in_row, is_child, child_word, test_blocks, test_field, test_fields, test_node, test_parents, first, is_var, test_var, test_tree, verdict}

abbrev pub Low : ℕ → Type 0
Low r = Short r

pub first-low : (a b : ℕ) → Low a → Low b → Low (a ▸ b)
unfolding ◌▸◌
first-low zero b h g = g
first-low (suc a) b h g = h

pub need-low : (r : ℕ) (t : Bool) → Low r → Low (need r t)
unfolding need
need-low r true h = omega arith
need-low r false h = h

pub run-low : (f : ℕ → ℕ) → ((i : ℕ) → Low (f i)) → (c i : ℕ) → Low (run f c i)
unfolding run
run-low f h zero i = omega arith
run-low f h (suc c) i = first-low _ _ (h i) (run-low f h c (i + 1))

pick_low : (t : Bool) (a b : ℕ) → Low a → Low b → Low (elim t [ true ↦ a | false ↦ b ])
pick_low true a b h g = h
pick_low false a b h g = g

option-low : (w : ℕ) (f : ℕ → ℕ) → ((c : ℕ) → Low (f c)) → Low (elim w [ zero ↦ 0 | suc c ↦ f c ])
option-low zero f h = omega arith
option-low (suc c) f h = h c

module _ (img : List ℕ) where
  in-low : (p : ℕ) → Low (in_row img p)
  unfolding in_row
  in-low p = need-low 7 _ (omega arith)

  module _ (n : ℕ) where
    child-low : (k c : ℕ) → Low (is_child img n k c)
    unfolding is_child
    child-low k c = first-low _ _ (need-low 9 _ (omega arith)) (need-low 9 _ (omega arith))

    word_low : (k p : ℕ) → Low (child_word img n k p)
    unfolding child_word
    word_low k p = first-low _ _ (in-low p) (child-low k _)

    items-low : (k c p : ℕ) → Low (run (child_word img n k) c p)
    items-low k c p = run-low _ (word_low k) c p

    blocks-low : (k c p : ℕ) → Low (test_blocks img n k c p)
    unfolding test_blocks
    blocks-low k zero p = omega arith
    blocks-low k (suc c) p = first-low _ _ (in-low p) (first-low _ _ (items-low k _ _) (blocks-low k c _))

    field-low : (g : Field) (p : ℕ) → Low (test_field img n g p)
    unfolding test_field
    field-low name p = first-low _ _ (in-low p) (need-low 8 _ (omega arith))
    field-low opt_name p = first-low _ _ (in-low p) (need-low 8 _ (omega arith))
    field-low (child k) p = word_low k p
    field-low (opt_child k) p = first-low _ _ (in-low p) (option-low (op_at img p) _ (child-low k))
    field-low (list k) p = first-low _ _ (in-low p) (items-low k _ _)
    field-low (lists k) p = first-low _ _ (in-low p) (blocks-low k _ _)
    field-low (cases ks) p =
        first-low _ _ (in-low p) (first-low _ _ (need-low 8 _ (omega arith))
        (pick_low (eqb (get_or ks (op_at img p) no_child) no_child) _ _ (omega arith) (word_low _ _)))

    fields-low : (gs : List Field) (p : ℕ) → Low (test_fields img n gs p)
    unfolding test_fields
    fields-low [] p = omega arith
    fields-low (g ∷ gs) p = first-low _ _ (field-low g p) (fields-low gs (after img g p))

    node-low : Low (test_node img n)
    unfolding test_node
    node-low =
        first-low _ _ (need-low 6 _ (omega arith)) (first-low _ _ (need-low 7 _ (omega arith))
        (first-low _ _ (in-low _) (first-low _ _ (in-low _) (fields-low _ _))))

    var-low : Low (test_var img n)
    unfolding test_var is_var
    var-low =
        pick_low (eqb (kind_at img n) 33) _ _ (need-low 12 _ (omega arith))
        (pick_low (eqb (kind_at img n) 34) _ _ (option-low (first img n) _ (λ c. need-low 12 _ (omega arith))) (omega arith))

  sizes-low : Low (test_sizes img)
  unfolding test_sizes
  sizes-low =
      first-low _ _ (need-low 1 _ (omega arith)) (first-low _ _ (need-low 2 _ (omega arith)) (first-low _ _ (need-low 2 _ (omega arith))
      (first-low _ _ (need-low 2 _ (omega arith)) (first-low _ _ (need-low 2 _ (omega arith)) (first-low _ _ (need-low 2 _ (omega arith)) (need-low 3 _ (omega arith)))))))

  names-low : Low (test_names img)
  unfolding test_names test_ends test_twice
  names-low =
      first-low _ _ (first-low _ _ (run-low _ (λ i. need-low 4 _ (omega arith)) _ _) (need-low 4 _ (omega arith)))
      (run-low _ (λ i. run-low (unequal img i) (λ j. need-low 5 _ (omega arith)) _ _) _ _)

  tree-low : Low (test_tree img)
  unfolding test_tree test_parents
  tree-low =
      first-low _ _ (need-low 10 _ (omega arith)) (first-low _ _ (need-low 10 _ (omega arith))
      (first-low _ _ (run-low _ (λ v. need-low 11 _ (omega arith)) _ _) (run-low _ var-low _ _)))

  pub verdict-low : Low (verdict img)
  unfolding verdict
  verdict-low = first-low _ _ sizes-low (first-low _ _ names-low (first-low _ _ (run-low _ node-low _ _) tree-low))
