-- The rows of a node's tree, by the form of its row: those of its children.
use mathlib.Core.Path.{◌≡◌, refl, sym, ap, ap₂, subst, ◌∙◌}
use mathlib.Core.Bool.{Bool, true, false}
use mathlib.Core.List.{List, [], ◌∷◌, ◌++◌, append-nil}
use Prim.Native.Nat.{ℕ, zero, suc, ◌<◌}
use native.Mathlib.Omega.{arith}
use borrow.Author.Tests.{eq-eqb, ne_eqb}
use lib.Dec.{eqb}
use lib.ListN.{get_or}
use Rattle.ast.specs.Image.{kind_at, field}
use Rattle.ast.specs.Kinds.{Class, outer, inner, decl, signature, enum, plain, term, ident, head, case, Field, child, list, lists, cases, no_child, Kind, kind_of}
use Rattle.ast.specs.Is.{Is, kind_by}
use Rattle.ast.specs.Tree.{Tree, node, Trees, none, ◌◂◌, swap, ordered, tree_at}
use Rattle.ast.specs.Items.{items, blocks, below}
use Rattle.ast.proofs.Row.{append-none, Child, FormedFields, append, next, shapes, all_kids, node_of}
use Rattle.ast.proofs.Shapes.{row as fields-of, tree_of, child-is, case-kids, case-one, case-child, case-last, term-last, term_kinds, head_kinds}
use Rattle.table.specs.Table.{Table, is_kind, is_var, at_entry, at_exit}
use Rattle.rows.specs.Rows.{Row, row, when}
use Rattle.bindings.specs.Errors.{introduced_row, arg_row, is_ctor, app_rows, list_rows, arg_rows, defined_row, defined_rows, pattern_rows, rows_of, rows_seq, rows_defined, decl_rows, decls_rows}
use Rattle.error.specs.Kinds.{asked}
use Rattle.bindings.specs.Promises.{inside, listed, declared, of_pattern, of_args}

-- the kinds of the children of a Decl's cases
abbrev pub decl_kinds : List ℕ
decl_kinds = 2 ∷ 3 ∷ 4 ∷ 5 ∷ 6 ∷ 7 ∷ 8 ∷ []

-- the trees below a node, where scope order is row order
pub kids-of : (img : List ℕ) (cl : Class) (fs : List Field) {n : ℕ} → Is img (kind_by cl fs) n → ((ts : Trees) → ordered cl ts ≡ ts) → below (tree_at img n) ≡ all_kids img n fs 0
unfolding node_of
kids-of img cl fs is straight = ap below (tree_of img is) ∙ straight _

module _ (img : List ℕ) (t : Table) (a : Bool) where
  -- the rows of the node n, below o
  abbrev pub rows_at : ℕ → ℕ → List Row
  rows_at o n = rows_of img t a o (tree_at img n)

  -- a node's rows, by its class ----------------------------------------------------------------------------------
  plain-kind : (fs : List Field) {n : ℕ} (o : ℕ) → Is img (kind_by (inner plain) fs) n → rows_at o n ≡ inside img t (asked (kind_at img n) a) n
  unfolding rows_of node_of
  plain-kind fs {n} o is =
      subst (λ (u : Tree). rows_of img t a o u ≡ rows_seq img t (asked (kind_at img n) a) n (below u)) (sym (tree_of img is)) refl

  -- a node of class plain, of kind k
  pub plain-rows : (k : ℕ) (fs : List Field) {n : ℕ} (o : ℕ) → Is img (kind_by (inner plain) fs) n → kind_at img n ≡ k → rows_at o n ≡ inside img t (asked k a) n
  plain-rows k fs {n} o is e = plain-kind fs o is ∙ ap (λ (i : ℕ). inside img t (asked i a) n) e

  pub term_rows : {n : ℕ} (o : ℕ) → Is img (kind_of 12) n → rows_at o n ≡ inside img t a n
  unfolding rows_of node_of kind_of
  term_rows {n} o is = subst (λ (u : Tree). rows_of img t a o u ≡ rows_seq img t a n (below u)) (sym (tree_of img is)) refl

  pub case_rows : {n : ℕ} (o : ℕ) → Is img (kind_of 35) n → rows_at o n ≡ of_pattern img t n ++ inside img t a n
  unfolding rows_of node_of kind_of
  case_rows {n} o is =
      subst (λ (u : Tree). rows_of img t a o u ≡ pattern_rows img t (below u) ++ rows_seq img t a n (below u)) (sym (tree_of img is)) refl

  pub ident-rows : {n : ℕ} (o : ℕ) → Is img (kind_of 13) n → rows_at o n ≡ introduced_row img t a o n
  unfolding rows_of node_of kind_of
  ident-rows o is = ap (rows_of img t a o) (tree_of img is)

  -- the receiver alone
  pub member-rows : {n : ℕ} (o : ℕ) → Is img (kind_of 17) n → rows_at o n ≡ rows_at n (field img n 0)
  unfolding rows_of node_of kind_of
  member-rows o is = ap (rows_of img t a o) (tree_of img is)

  pub receiver-rows : {n : ℕ} (o : ℕ) → Is img (kind_of 16) n → rows_at o n ≡ rows_at n (field img n 0)
  unfolding rows_of node_of kind_of
  receiver-rows o is = ap (rows_of img t a o) (tree_of img is)

  pub head-ident : {n : ℕ} (o : ℕ) → Is img (kind_of 15) n → 0 ≡ field img n 0 → rows_at o n ≡ []
  unfolding rows_of node_of kind_of
  head-ident {n} o is e =
      ap (rows_of img t a o) (tree_of img is)
      ∙ ap (λ (c : ℕ). rows_of img t a o (node n (kind_at img n) (inner head) (c ∷ []) (ordered (inner head) (all_kids img n (kind_of 15).fields 0)))) (sym e)

  pub head-other : {n : ℕ} (o c : ℕ) → Is img (kind_of 15) n → suc c ≡ field img n 0 → rows_at o n ≡ inside img t a n
  unfolding rows_of node_of kind_of
  head-other {n} o c is e =
      ap (rows_of img t a o) (tree_of img is)
      ∙ ap (λ (d : ℕ). rows_of img t a o (node n (kind_at img n) (inner head) (d ∷ []) (ordered (inner head) (all_kids img n (kind_of 15).fields 0)))) (sym e)
      ∙ sym (ap (λ (u : Tree). rows_seq img t a n (below u)) (tree_of img is))

  -- a defined-then below the atom o: its variable's row, then its term's
  abbrev defined_as : ℕ → ℕ → ℕ → List Row
  defined_as o n w = elim w as (λ _. List Row) [
    | zero ↦ rows_at n (field img n 1)
    | suc v ↦ defined_row img t o (tree_at img v) ++ rows_at n (field img n 1)
  ]

  defined-kids : (o n w : ℕ)
      → rows_defined img t a o n (swap (append (elim w [ zero ↦ none | suc m ↦ tree_at img m ◂ none ]) (tree_at img (field img n 1) ◂ none))) ≡ defined_as o n w
  unfolding rows_of defined_rows swap append
  defined-kids o n zero = refl
  defined-kids o n (suc v) = ap (λ (l : List Row). l ++ rows_at n (field img n 1)) (append-nil (defined_row img t o (tree_at img v)))

  defined-as : {n : ℕ} (o : ℕ) → Is img (kind_of 34) n → rows_at o n ≡ defined_as o n (field img n 0)
  unfolding rows_of node_of kind_of
  defined-as {n} o is = ap (rows_of img t a o) (tree_of img is) ∙ defined-kids o n (field img n 0)

  pub defined-none : {n d : ℕ} (o : ℕ) → Is img (kind_of 34) n → 0 ≡ field img n 0 → d ≡ field img n 1 → rows_at o n ≡ rows_at n d
  defined-none {n} o is e q = defined-as o is ∙ ap (defined_as o n) (sym e) ∙ ap (rows_at n) (sym q)

  pub defined-some : {n d : ℕ} (o v : ℕ) → Is img (kind_of 34) n → suc v ≡ field img n 0 → d ≡ field img n 1
      → rows_at o n ≡ defined_row img t o (tree_at img v) ++ rows_at n d
  defined-some {n} o v is e q = defined-as o is ∙ ap (defined_as o n) (sym e) ∙ ap (λ (c : ℕ). defined_row img t o (tree_at img v) ++ rows_at n c) (sym q)

  -- the rows below a node, by its fields ---------------------------------------------------------------------------
  pub one_inside : (k : ℕ) {n c : ℕ} → Is img (kind_by (inner plain) (child k ∷ [])) n → c ≡ field img n 0 → inside img t a n ≡ rows_at n c
  unfolding rows_of all_kids ordered
  one_inside k {n} is q =
      ap (rows_seq img t a n) (kids-of img (inner plain) (child k ∷ []) is (λ ts. refl)) ∙ append-nil _ ∙ ap (rows_at n) (sym q)

  pub two-inside : (k l : ℕ) {n c d : ℕ} → Is img (kind_by (inner plain) (child k ∷ child l ∷ [])) n → c ≡ field img n 0 → d ≡ field img n 1
      → inside img t a n ≡ rows_at n c ++ rows_at n d
  unfolding rows_of all_kids ordered
  two-inside k l {n} is q r =
      ap (rows_seq img t a n) (kids-of img (inner plain) (child k ∷ child l ∷ []) is (λ ts. refl))
      ∙ ap (λ (m : List Row). rows_at n (field img n 0) ++ m) (append-nil _)
      ∙ ap₂ (λ (x y : ℕ). rows_at n x ++ rows_at n y) (sym q) (sym r)

  -- a case of an enum
  pub case-inside : (cl : Class) (ks : List ℕ) {n d : ℕ} → Is img (kind_by cl (cases ks ∷ [])) n → ((ts : Trees) → ordered cl ts ≡ ts)
      → (c : ℕ) → c ≡ field img n 0 → d ≡ field img n 1 → eqb (get_or ks c no_child) no_child ≡ false → inside img t a n ≡ rows_at n d
  unfolding rows_of
  case-inside cl ks {n} is straight c q r s =
      ap (rows_seq img t a n) (case-kids img cl ks is straight c q ∙ case-one img ks n c s) ∙ append-nil _ ∙ ap (rows_at n) (sym r)

  -- a list of children
  pub list_inside : (k : ℕ) {n : ℕ} → Is img (kind_by (inner plain) (list k ∷ [])) n → inside img t a n ≡ listed img t a n (field img n 0) 1
  unfolding all_kids ordered
  list_inside k {n} is =
      ap (rows_seq img t a n) (kids-of img (inner plain) (list k ∷ []) is (λ ts. refl) ∙ append-none _)

  -- a child, and a list of children
  pub child-list-inside : (cl : Class) (k l : ℕ) {n : ℕ} → Is img (kind_by cl (child k ∷ list l ∷ [])) n → ((ts : Trees) → ordered cl ts ≡ ts)
      → inside img t a n ≡ rows_at n (field img n 0) ++ listed img t a n (field img n 1) 2
  unfolding rows_of all_kids
  child-list-inside cl k l {n} is straight =
      ap (rows_seq img t a n) (kids-of img cl (child k ∷ list l ∷ []) is straight)
      ∙ ap (λ (us : Trees). rows_at n (field img n 0) ++ rows_seq img t a n us) (append-none (items img n (field img n 1) 2))

  -- the blocks of a branch
  pub branch-inside : {n : ℕ} → Is img (kind_of 39) n → inside img t a n ≡ rows_seq img t a n (blocks img n (field img n 0) 1)
  unfolding all_kids ordered kind_of
  branch-inside {n} is =
      ap (rows_seq img t a n) (kids-of img (inner plain) (lists 36 ∷ []) is (λ ts. refl) ∙ append-none _)

-- single rows, by the case of a term ---------------------------------------------------------------------------------
module _ (img : List ℕ) (t : Table) where
  -- a term of case Ident, with its IdentTerm
  ident-tree : {n i : ℕ} → Is img (kind_of 12) n → 0 ≡ field img n 0 → i ≡ field img n 1
      → tree_at img n ≡ node n (kind_at img n) (inner term) (0 ∷ []) (node i (kind_at img i) (inner ident) [] none ◂ none)
  unfolding node_of kind_of ordered
  ident-tree {n} {i} is e q =
      let h = case-child img (inner term) term_kinds is 0 i e q refl in
      tree_of img is
      ∙ ap (λ (c : ℕ). node n (kind_at img n) (inner term) (c ∷ []) (append (elim (eqb (get_or term_kinds c no_child) no_child) [ true ↦ none | false ↦ tree_at img (field img n 1) ◂ none ]) none)) (sym e)
      ∙ ap (λ (c : ℕ). node n (kind_at img n) (inner term) (0 ∷ []) (tree_at img c ◂ none)) (sym q)
      ∙ ap (λ (u : Tree). node n (kind_at img n) (inner term) (0 ∷ []) (u ◂ none)) (tree_of img (child-is img is h))

  -- a term of another case has no row 3
  arg-other : (n k : ℕ) (cl : Class) (c : ℕ) (us : Trees) → (0 ≡ c → ⊥) → arg_row img t (node n k cl (c ∷ []) us) ≡ []
  unfolding arg_row
  arg-other n k cl zero us h = absurd (h refl)
  arg-other n k cl (suc c) us h = refl

  pub arg-none : {n : ℕ} → Is img (kind_of 12) n → (0 ≡ field img n 0 → ⊥) → arg_row img t (tree_at img n) ≡ []
  unfolding node_of kind_of
  arg-none {n} is h = ap (arg_row img t) (tree_of img is) ∙ arg-other n _ _ (field img n 0) _ h

  pub arg-ident : {n i : ℕ} → Is img (kind_of 12) n → 0 ≡ field img n 0 → i ≡ field img n 1
      → arg_row img t (tree_at img n) ≡ when (is_var img (at_entry img t n i)) (row 3 n)
  unfolding arg_row
  arg-ident is e q = ap (arg_row img t) (ident-tree is e q)

  pub defined-ident : {n i : ℕ} (o : ℕ) → Is img (kind_of 12) n → 0 ≡ field img n 0 → i ≡ field img n 1
      → defined_row img t o (tree_at img n) ≡ when (is_var img (at_entry img t o i)) (row 2 n)
  unfolding defined_row
  defined-ident o is e q = ap (defined_row img t o) (ident-tree is e q)

  -- a wildcard
  pub defined-wild : {n : ℕ} (o : ℕ) → Is img (kind_of 12) n → 1 ≡ field img n 0 → defined_row img t o (tree_at img n) ≡ []
  unfolding node_of kind_of ordered defined_row
  defined-wild {n} o is e =
      ap (defined_row img t o)
      (tree_of img is
      ∙ ap (λ (c : ℕ). node n (kind_at img n) (inner term) (c ∷ []) (append (elim (eqb (get_or term_kinds c no_child) no_child) [ true ↦ none | false ↦ tree_at img (field img n 1) ◂ none ]) none)) (sym e))

  -- the head of a pattern
  ctor-other : (n k : ℕ) (cl : Class) (c : ℕ) (us : Trees) → (0 ≡ c → ⊥) → is_ctor img t (node n k cl (c ∷ []) us) ≡ false
  unfolding is_ctor
  ctor-other n k cl zero us h = absurd (h refl)
  ctor-other n k cl (suc c) us h = refl

  pub ctor-none : {n : ℕ} → Is img (kind_of 15) n → (0 ≡ field img n 0 → ⊥) → is_ctor img t (tree_at img n) ≡ false
  unfolding node_of kind_of
  ctor-none {n} is h = ap (is_ctor img t) (tree_of img is) ∙ ctor-other n _ _ (field img n 0) _ h

  pub ctor-ident : {n i : ℕ} → Is img (kind_of 15) n → 0 ≡ field img n 0 → i ≡ field img n 1 → is_ctor img t (tree_at img n) ≡ is_kind img 9 (at_exit img t n i)
  unfolding node_of kind_of ordered is_ctor
  ctor-ident {n} {i} is e q =
      let h = case-child img (inner head) head_kinds is 0 i e q refl in
      ap (is_ctor img t)
      (tree_of img is
      ∙ ap (λ (c : ℕ). node n (kind_at img n) (inner head) (c ∷ []) (append (elim (eqb (get_or head_kinds c no_child) no_child) [ true ↦ none | false ↦ tree_at img (field img n 1) ◂ none ]) none)) (sym e)
      ∙ ap (λ (c : ℕ). node n (kind_at img n) (inner head) (0 ∷ []) (tree_at img c ◂ none)) (sym q)
      ∙ ap (λ (u : Tree). node n (kind_at img n) (inner head) (0 ∷ []) (u ◂ none)) (tree_of img (child-is img is h)))

  -- rows 3 of a case's pattern -----------------------------------------------------------------------------------
  pub pattern-first : {n p : ℕ} → Is img (kind_of 35) n → p ≡ field img n 0 → of_pattern img t n ≡ pattern_rows img t (tree_at img p ◂ items img n (field img n 1) 2)
  unfolding all_kids ordered kind_of
  pattern-first {n} is q =
      ap (pattern_rows img t) (kids-of img (inner case) (child 12 ∷ list 36 ∷ []) is (λ ts. refl) ∙ ap (λ (us : Trees). tree_at img (field img n 0) ◂ us) (append-none (items img n (field img n 1) 2)))
      ∙ ap (λ (c : ℕ). pattern_rows img t (tree_at img c ◂ items img n (field img n 1) 2)) (sym q)

  not-app : (c : ℕ) → c < 8 → (2 ≡ c → ⊥) → get_or term_kinds c no_child ≡ 14 → ⊥
  not-app zero l h e = omega arith
  not-app (suc zero) l h e = omega arith
  not-app (suc (suc zero)) l h e = h refl
  not-app (suc (suc (suc zero))) l h e = omega arith
  not-app (suc (suc (suc (suc zero)))) l h e = omega arith
  not-app (suc (suc (suc (suc (suc zero))))) l h e = omega arith
  not-app (suc (suc (suc (suc (suc (suc zero)))))) l h e = omega arith
  not-app (suc (suc (suc (suc (suc (suc (suc zero))))))) l h e = omega arith
  not-app (suc (suc (suc (suc (suc (suc (suc (suc c)))))))) l h e = omega arith

  -- a pattern that is no application has no row 3
  no-app : (p k : ℕ) (cl : Class) (sh : List ℕ) (d l : ℕ) (dl : Class) (sh2 : List ℕ) (ts us vs : Trees) → (l ≡ 14 → ⊥)
      → pattern_rows img t (node p k cl sh (node d l dl sh2 ts ◂ vs) ◂ us) ≡ []
  unfolding pattern_rows
  no-app p k cl sh d l dl sh2 ts us vs h = ap (λ (b : Bool). elim b as (λ _. List Row) [ true ↦ app_rows img t ts | false ↦ [] ]) (ne_eqb l 14 h)

  pub pattern-none : {p : ℕ} (us : Trees) → Is img (kind_of 12) p → (2 ≡ field img p 0 → ⊥) → pattern_rows img t (tree_at img p ◂ us) ≡ []
  unfolding node_of kind_of ordered pattern_rows
  pattern-none {p} us is h =
      ap (λ (u : Tree). pattern_rows img t (u ◂ us)) (tree_of img is)
      ∙ go (field img p 0) refl (eqb (get_or term_kinds (field img p 0) no_child) no_child) refl
    where
      go : (c : ℕ) → c ≡ field img p 0 → (b : Bool) → eqb (get_or term_kinds c no_child) no_child ≡ b
          → pattern_rows img t (node p (kind_at img p) (inner term) (c ∷ []) (append (elim b [ true ↦ none | false ↦ tree_at img (field img p 1) ◂ none ]) none) ◂ us) ≡ []
      go c q true e = refl
      go c q false e =
          let k = case-child img (inner term) term_kinds is c _ q refl e in
          let kd = kind_of (get_or term_kinds c no_child) in
          let d = field img p 1 in
          ap (λ (u : Tree). pattern_rows img t (node p (kind_at img p) (inner term) (c ∷ []) (u ◂ none) ◂ us)) (tree_of img (child-is img is k))
          ∙ no-app p (kind_at img p) (inner term) (c ∷ []) d (kind_at img d) kd.class (shapes img d kd.fields 0) (ordered kd.class (all_kids img d kd.fields 0)) us none
          (λ z. not-app c (let l = term-last img is in omega arith) (λ y. h (y ∙ q)) (sym k.kind ∙ z))

  -- an application in a pattern
  app-rows : (u v : Tree) → app_rows img t (u ◂ (v ◂ none)) ≡ elim (is_ctor img t u) as (λ _. List Row) [ true ↦ list_rows img t (v ◂ none) | false ↦ [] ]
  unfolding app_rows
  app-rows u v = refl

  args-rows : {l : ℕ} {kd : Kind} → Is img kd l → list_rows img t (tree_at img l ◂ none) ≡ of_args img t l
  unfolding list_rows node_of
  args-rows {l} is = subst (λ (u : Tree). list_rows img t (u ◂ none) ≡ arg_rows img t (below u)) (sym (tree_of img is)) refl

  app-pattern : (p k : ℕ) (cl : Class) (sh : List ℕ) (u : Tree) (us vs : Trees) (d : ℕ) → Is img (kind_of 14) d → kind_at img d ≡ 14 → u ≡ tree_at img d
      → pattern_rows img t (node p k cl sh (u ◂ vs) ◂ us) ≡ app_rows img t (tree_at img (field img d 0) ◂ (tree_at img (field img d 1) ◂ none))
  unfolding pattern_rows node_of kind_of ordered all_kids
  app-pattern p k cl sh u us vs d is e q =
      ap (λ (v : Tree). pattern_rows img t (node p k cl sh (v ◂ vs) ◂ us)) (q ∙ tree_of img is)
      ∙ ap (λ (b : Bool). elim b as (λ _. List Row) [ true ↦ app_rows img t (tree_at img (field img d 0) ◂ (tree_at img (field img d 1) ◂ none)) | false ↦ [] ]) (eq-eqb _ _ e)

  -- the rows of a pattern that applies the head h to the list l
  pub pattern-app : {p d h l : ℕ} (us : Trees) → Is img (kind_of 12) p → 2 ≡ field img p 0 → d ≡ field img p 1 → h ≡ field img d 0 → l ≡ field img d 1
      → pattern_rows img t (tree_at img p ◂ us) ≡ elim (is_ctor img t (tree_at img h)) as (λ _. List Row) [ true ↦ of_args img t l | false ↦ [] ]
  unfolding node_of kind_of ordered FormedFields next
  pattern-app {p} {d} {h} {l} us is e q r s =
      let k = case-child img (inner term) term_kinds is 2 d e q refl in
      let app = child-is img is k in
      let z : Child img d 22 (field img d 1) = (fields-of img app).1.0 in
      ap (λ (u : Tree). pattern_rows img t (u ◂ us))
      (tree_of img is
      ∙ ap (λ (c : ℕ). node p (kind_at img p) (inner term) (c ∷ []) (append (elim (eqb (get_or term_kinds c no_child) no_child) [ true ↦ none | false ↦ tree_at img (field img p 1) ◂ none ]) none)) (sym e)
      ∙ ap (λ (c : ℕ). node p (kind_at img p) (inner term) (2 ∷ []) (tree_at img c ◂ none)) (sym q))
      ∙ app-pattern p _ _ _ (tree_at img d) us none d app k.kind refl
      ∙ app-rows (tree_at img (field img d 0)) (tree_at img (field img d 1))
      ∙ ap (λ (m : List Row). elim (is_ctor img t (tree_at img (field img d 0))) as (λ _. List Row) [ true ↦ m | false ↦ [] ]) (args-rows (child-is img app z))
      ∙ ap₂ (λ (x y : ℕ). elim (is_ctor img t (tree_at img x)) as (λ _. List Row) [ true ↦ of_args img t y | false ↦ [] ]) (sym r) (sym s)

  -- the arguments of a list
  pub args-inside : {n : ℕ} → Is img (kind_of 22) n → of_args img t n ≡ arg_rows img t (items img n (field img n 0) 1)
  unfolding all_kids ordered kind_of
  args-inside {n} is = ap (arg_rows img t) (kids-of img (inner plain) (list 12 ∷ []) is (λ ts. refl) ∙ append-none _)

  -- declarations -------------------------------------------------------------------------------------------------
  -- the child of a Decl
  pub decl-child : {n d : ℕ} → Is img (kind_of 1) n → (c : ℕ) → c ≡ field img n 0 → d ≡ field img n 1 → eqb (get_or decl_kinds c no_child) no_child ≡ false
      → Child img n (get_or decl_kinds c no_child) d × (decl_rows img t (tree_at img n) ≡ decl_rows img t (tree_at img d))
  unfolding kind_of node_of decl_rows ordered
  decl-child {n} {d} is c q r s = (
    case-child img (outer decl) decl_kinds is c d q r s,
    ap (decl_rows img t) (tree_of img is)
        ∙ ap (decls_rows img t) (sym (ap below (tree_of img is)) ∙ case-kids img (outer decl) decl_kinds is (λ ts. refl) c q ∙ case-one img decl_kinds n c s)
        ∙ append-nil _
        ∙ ap (λ (i : ℕ). decl_rows img t (tree_at img i)) (sym r),
  )

  pub rule-rows : {n : ℕ} → Is img (kind_of 6) n → decl_rows img t (tree_at img n) ≡ listed img t false n (field img n 1) 2
  unfolding kind_of node_of decl_rows ordered all_kids
  rule-rows {n} is = ap (decl_rows img t) (tree_of img is) ∙ ap (rows_seq img t false n) (append-none (items img n (field img n 1) 2))

  pub model-rows : {n : ℕ} → Is img (kind_of 8) n → decl_rows img t (tree_at img n) ≡ declared img t n (field img n 1) 2
  unfolding kind_of node_of decl_rows ordered all_kids
  model-rows {n} is = ap (decl_rows img t) (tree_of img is) ∙ ap (decls_rows img t) (append-none (items img n (field img n 1) 2))

  pub module-rows : {n : ℕ} → Is img (kind_of 0) n → decl_rows img t (tree_at img n) ≡ declared img t n (field img n 0) 1
  unfolding kind_of node_of decl_rows ordered all_kids
  module-rows {n} is = ap (decl_rows img t) (tree_of img is) ∙ ap (decls_rows img t) (append-none (items img n (field img n 0) 1))

  pub signature-rows : (fs : List Field) {n : ℕ} → Is img (kind_by (outer signature) fs) n → decl_rows img t (tree_at img n) ≡ []
  unfolding node_of decl_rows
  signature-rows fs is = ap (decl_rows img t) (tree_of img is)

  pub enum-rows : (fs : List Field) {n : ℕ} → Is img (kind_by (outer enum) fs) n → decl_rows img t (tree_at img n) ≡ []
  unfolding node_of decl_rows
  enum-rows fs is = ap (decl_rows img t) (tree_of img is)

  -- a declaration that is neither a rule nor a model has no rows
  pub decl-none : {n : ℕ} → Is img (kind_of 1) n → (4 ≡ field img n 0 → ⊥) → (6 ≡ field img n 0 → ⊥) → decl_rows img t (tree_at img n) ≡ []
  unfolding kind_of
  decl-none {n} is h k = go (field img n 0) refl (case-last img (outer decl) decl_kinds is)
    where
      go : (c : ℕ) → c ≡ field img n 0 → c < 7 → decl_rows img t (tree_at img n) ≡ []
      go zero q l = let e = decl-child is 0 q refl refl in e.1 ∙ signature-rows _ (child-is img is e.0)
      go (suc zero) q l = let e = decl-child is 1 q refl refl in e.1 ∙ signature-rows _ (child-is img is e.0)
      go (suc (suc zero)) q l = let e = decl-child is 2 q refl refl in e.1 ∙ signature-rows _ (child-is img is e.0)
      go (suc (suc (suc zero))) q l = let e = decl-child is 3 q refl refl in e.1 ∙ signature-rows _ (child-is img is e.0)
      go (suc (suc (suc (suc zero)))) q l = absurd (h q)
      go (suc (suc (suc (suc (suc zero))))) q l = let e = decl-child is 5 q refl refl in e.1 ∙ enum-rows _ (child-is img is e.0)
      go (suc (suc (suc (suc (suc (suc zero)))))) q l = absurd (k q)
      go (suc (suc (suc (suc (suc (suc (suc c))))))) q l = absurd (omega arith)
