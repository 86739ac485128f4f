-- Laws of rows by their shape, for whoever goes down a tree: the row of a node of a known kind, its tree over those of its
-- children, a case of an enum, the items of a list, a run of children.
use mathlib.Core.Path.{◌≡◌, sym, ap, subst, ◌∙◌}
use mathlib.Core.Bool.{true, false}
use mathlib.Core.List.{List, [], ◌∷◌}
use Prim.Native.Nat.{ℕ, suc, ◌+◌, ◌-◌, ◌<◌, ◌≤◌}
use native.Mathlib.Omega.{arith}
use borrow.Author.Tests.{eqb-false}
use lib.Dec.{eqb}
use lib.ListN.{length, get_or}
use Rattle.ast.specs.Image.{field}
use Rattle.ast.specs.Kinds.{Class, Field, list, cases, no_child, Kind, kind_of}
use Rattle.ast.specs.Tree.{Trees, none, ◌◂◌, ordered, tree_at}
use Rattle.ast.specs.Items.{below}
use Rattle.ast.specs.Is.{Is, Run, kind_by}
use Rattle.ast.proofs.Row.{append-none, Child, Items, FormedFields, FormedRow, next, ends, node_of, tree_is, row-formed}

-- the kinds of the children of a term's cases, and of an app head's
abbrev pub term_kinds : List ℕ
term_kinds = 13 ∷ no_child ∷ 14 ∷ 17 ∷ 18 ∷ 19 ∷ 20 ∷ 21 ∷ []

abbrev pub head_kinds : List ℕ
head_kinds = 13 ∷ 16 ∷ 12 ∷ []

pub one_more : {j c : ℕ} → j < c → c - j ≡ suc (c - (j + 1))
one_more h = omega arith

module _ (img : List ℕ) where
  pub formed-row : {kd : Kind} {n : ℕ} → Is img kd n → FormedRow img n kd.fields
  formed-row {kd} {n} is = subst (λ (k : Kind). FormedRow img n k.fields) is.kind (row-formed img is.accepted n is.below)

  pub row : {kd : Kind} {n : ℕ} → Is img kd n → FormedFields img n kd.fields 0
  row is = (formed-row is).fields

  pub tree_of : {kd : Kind} {n : ℕ} → Is img kd n → tree_at img n ≡ node_of img n kd
  tree_of {kd} {n} is = tree_is img is.accepted n is.below ∙ ap (node_of img n) is.kind

  pub child-is : {kd : Kind} {n k c : ℕ} → Is img kd n → Child img n k c → Is img (kind_of k) c
  child-is is h = record { accepted = is.accepted; below = (let l = is.below in let m = h.below in omega arith); kind = ap kind_of h.kind }

  -- the tree that case c of the row has, or none
  abbrev pub case_kids : List ℕ → ℕ → ℕ → Trees
  case_kids ks n c = elim (eqb (get_or ks c no_child) no_child) [ true ↦ none | false ↦ tree_at img (field img n 1) ◂ none ]

  pub case-kids : (cl : Class) (ks : List ℕ) {n : ℕ} → Is img (kind_by cl (cases ks ∷ [])) n → ((ts : Trees) → ordered cl ts ≡ ts)
      → (c : ℕ) → c ≡ field img n 0 → below (tree_at img n) ≡ case_kids ks n c
  unfolding node_of
  case-kids cl ks {n} is straight c q = rw q (ap below (tree_of is) ∙ straight _ ∙ append-none _)

  pub case-one : (ks : List ℕ) (n c : ℕ) → eqb (get_or ks c no_child) no_child ≡ false → case_kids ks n c ≡ tree_at img (field img n 1) ◂ none
  case-one ks n c s = rw (s, case_kids)

  pub case-child : (cl : Class) (ks : List ℕ) {n : ℕ} → Is img (kind_by cl (cases ks ∷ [])) n
      → (c d : ℕ) → c ≡ field img n 0 → d ≡ field img n 1 → eqb (get_or ks c no_child) no_child ≡ false → Child img n (get_or ks c no_child) d
  unfolding FormedFields
  case-child cl ks {n} is c d q r e = rw (q, r) ((row is).0.1 (eqb-false _ _ (rw q at e)))

  pub case-last : (cl : Class) (ks : List ℕ) {n : ℕ} → Is img (kind_by cl (cases ks ∷ [])) n → field img n 0 < length ks
  unfolding FormedFields
  case-last cl ks {n} is = (row is).0.0

  -- a run of children, and one of them
  pub run_of : {kd : Kind} {k n j count : ℕ} → Is img kd n → Items img n k count j → j + count ≤ 8192 → Run img k n j count
  run_of is h l = record { accepted = is.accepted; below = is.below; lower = λ i m. (h i m).below; kinds = λ i m. (h i m).kind; short = l }

  pub run-item : {k n j count i x : ℕ} → Run img k n j count → i < count → x ≡ field img n (j + i) → Child img n k x × Is img (kind_of k) x
  run-item {k} {n} {j} {i = i} p l q =
      subst (λ (y : ℕ). Child img n k y × Is img (kind_of k) y) (sym q) (
        record { below = p.lower i l; kind = p.kinds i l },
        record { accepted = p.accepted; below = (let a = p.below in let b = p.lower i l in omega arith); kind = ap kind_of (p.kinds i l) },
      )

  -- the items of a list that is a row's only field, and of one after a field of one word
  pub run-list : {cl : Class} {k n count : ℕ} → Is img (kind_by cl (list k ∷ [])) n → count ≡ field img n 0 → Run img k n 1 count
  unfolding FormedFields ends next
  run-list {k = k} {n} is q = subst (Run img k n 1) (sym q) (run_of is (row is).0 (formed-row is).short)

  pub run-tail : {cl : Class} {g : Field} {k n count : ℕ} → Is img (kind_by cl (g ∷ list k ∷ [])) n → next img n g 0 ≡ 1 → count ≡ field img n 1 → Run img k n 2 count
  unfolding FormedFields ends next
  run-tail {k = k} {n} is e q =
      let h : FormedFields img n (list k ∷ []) 1 = subst (FormedFields img n (list k ∷ [])) e (row is).1 in
      subst (Run img k n 2) (sym q) (run_of is h.0 (subst (λ (j : ℕ). ends img n (list k ∷ []) j ≤ 8192) e (formed-row is).short))

  pub term-last : {n : ℕ} → Is img (kind_of 12) n → field img n 0 < 8
  unfolding kind_of
  term-last is = case-last _ term_kinds is

  pub head-last : {n : ℕ} → Is img (kind_of 15) n → field img n 0 < 3
  unfolding kind_of
  head-last is = case-last _ head_kinds is
