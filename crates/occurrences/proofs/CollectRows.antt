-- The rows of a tree by the form of its row: those of its children, one after another.
use mathlib.Core.Path.{◌≡◌, refl, sym, ap, ◌∙◌}
use mathlib.Core.Bool.{Bool, true, false, false≢true}
use mathlib.Core.List.{List, [], ◌∷◌, ◌++◌, append-nil}
use mathlib.Core.Option.{Option, none as nothing, some}
use Prim.Native.Nat.{ℕ, zero, suc}
use lib.Dec.{eqb}
use lib.ListN.{get_or}
use Rattle.ast.specs.Image.{kind_at, field}
use Rattle.ast.specs.Kinds.{Class, outer, inner, plain, term, ident, head, head_member, member, case, if_var, defined_then, arg, Field, name, child, list, cases, no_child, Kind, kind_of}
use Rattle.ast.specs.Named.{branch_stmt_kind, defined_then_atom_kind, ident_term_kind, var_if_atom_kind}
use Rattle.ast.specs.Tree.{Tree, node, block, Trees, none, ◌◂◌, swap, ordered, tree_at}
use Rattle.ast.specs.Items.{items, blocks, below}
use Rattle.ast.specs.Is.{Is, kind_by}
use Rattle.ast.proofs.Row.{append, append-none, all_kids, shapes, node_of}
use Rattle.ast.proofs.Shapes.{tree_of, case_kids, case-kids, case-one}
use Rattle.typed.specs.declared.nodes.NodeList.{NodeList}
use Rattle.table.specs.Table.{Table, is_var}
use Rattle.rows.specs.Rows.{Row, row}
use Rattle.occurrences.specs.Spots.{Spot, spots, spots_seq, spots_back, spots_first}
use Rattle.occurrences.specs.Occurrences.{listed, found, rows_for}
use Rattle.occurrences.specs.Promises.{spot, ident_rows, rows_in, rows_at, rows_of}

-- any class but an IdentTerm's: its spots do not depend on the node above
unfoldable pub bare : Class → Bool
bare (outer o) = true
bare (inner plain) = true
bare (inner term) = true
bare (inner ident) = false
bare (inner head) = true
bare (inner head_member) = true
bare (inner member) = true
bare (inner case) = true
bare (inner if_var) = true
bare (inner defined_then) = true
bare (inner arg) = true

-- the classes whose spots are those of the children, one after another
unfoldable pub threads : Class → Bool
threads (outer o) = false
threads (inner plain) = true
threads (inner term) = true
threads (inner ident) = false
threads (inner head) = true
threads (inner head_member) = false
threads (inner member) = false
threads (inner case) = true
threads (inner if_var) = true
threads (inner defined_then) = false
threads (inner arg) = false

owner-class : (c : Class) (n k : ℕ) (sh : List ℕ) (ts : Trees) → bare c ≡ true → (o p : ℕ) → spots o (node n k c sh ts) ≡ spots p (node n k c sh ts)
unfolding bare spots
owner-class (outer c) n k sh ts b o p = refl
owner-class (inner plain) n k sh ts b o p = refl
owner-class (inner term) n k sh ts b o p = refl
owner-class (inner ident) n k sh ts b o p = absurd (false≢true b)
owner-class (inner head) n k sh ts b o p = refl
owner-class (inner head_member) n k sh ts b o p = refl
owner-class (inner member) n k sh ts b o p = refl
owner-class (inner case) n k sh ts b o p = refl
owner-class (inner if_var) n k sh ts b o p = refl
owner-class (inner defined_then) n k sh ts b o p = refl
owner-class (inner arg) n k sh ts b o p = refl

threads-class : (c : Class) (n k : ℕ) (sh : List ℕ) (ts : Trees) → threads c ≡ true → (o : ℕ) → spots o (node n k c sh ts) ≡ spots_seq n ts
unfolding threads spots
threads-class (outer c) n k sh ts b o = absurd (false≢true b)
threads-class (inner plain) n k sh ts b o = refl
threads-class (inner term) n k sh ts b o = refl
threads-class (inner ident) n k sh ts b o = absurd (false≢true b)
threads-class (inner head) n k sh ts b o = refl
threads-class (inner head_member) n k sh ts b o = absurd (false≢true b)
threads-class (inner member) n k sh ts b o = absurd (false≢true b)
threads-class (inner case) n k sh ts b o = refl
threads-class (inner if_var) n k sh ts b o = refl
threads-class (inner defined_then) n k sh ts b o = absurd (false≢true b)
threads-class (inner arg) n k sh ts b o = absurd (false≢true b)

module _ (img : List ℕ) (t : Table) where
  listed-append : (n : ℕ) (o : Option ℕ) (l k : List Row) → listed img t n o (l ++ k) ≡ listed img t n o l ++ k
  unfolding listed
  listed-append n nothing l k = refl
  listed-append n (some i) l k = go (is_var img (some i))
    where
      go : (b : Bool) → ◌≡◌ {A = List Row} (elim b [ true ↦ row n i ∷ (l ++ k) | false ↦ l ++ k ]) (elim b [ true ↦ row n i ∷ l | false ↦ l ] ++ k)
      go true = refl
      go false = refl

  pub rows_append : (l k : List Spot) → rows_for img t (l ++ k) ≡ rows_for img t l ++ rows_for img t k
  unfolding rows_for
  rows_append [] k = refl
  rows_append (s ∷ l) k = ap (listed img t s.node (found img t s)) (rows_append l k) ∙ listed-append s.node (found img t s) (rows_for img t l) (rows_for img t k)

  -- an ident: its row if lookup gives a Var, else none
  pub ident-var : (n i b : ℕ) → found img t (spot n i) ≡ some b → is_var img (some b) ≡ true → ident_rows img t n i ≡ row n b ∷ []
  unfolding rows_for listed
  ident-var n i b e q = ap (λ (o : Option ℕ). listed img t n o []) e ∙ ap (λ (x : Bool). elim x as (λ _. List Row) [ true ↦ row n b ∷ [] | false ↦ [] ]) q

  pub ident-other : (n i : ℕ) (o : Option ℕ) → found img t (spot n i) ≡ o → is_var img o ≡ false → ident_rows img t n i ≡ []
  unfolding rows_for listed
  ident-other n i nothing e q = ap (λ (o : Option ℕ). listed img t n o []) e
  ident-other n i (some b) e q = ap (λ (o : Option ℕ). listed img t n o []) e ∙ ap (λ (x : Bool). elim x as (λ _. List Row) [ true ↦ row n b ∷ [] | false ↦ [] ]) q

  pub ident-rows : {i : ℕ} → Is img (kind_of ident_term_kind) i → (n : ℕ) → rows_for img t (spots n (tree_at img i)) ≡ ident_rows img t n i
  unfolding spots node_of kind_of
  ident-rows is n = ap (λ (u : Tree). rows_for img t (spots n u)) (tree_of img is)

  -- the node above does not matter
  pub owner : {kd : Kind} {n : ℕ} → Is img kd n → bare kd.class ≡ true → (o : ℕ) → rows_for img t (spots o (tree_at img n)) ≡ rows_in img t n
  unfolding node_of rows_in
  owner {kd} {n} is b o =
      ap (λ (u : Tree). rows_for img t (spots o u)) (tree_of img is)
      ∙ ap (rows_for img t) (owner-class kd.class n (kind_at img n) _ _ b o 0)
      ∙ sym (ap (λ (u : Tree). rows_for img t (spots 0 u)) (tree_of img is))

  -- the rows of trees one after another
  abbrev pub seq_rows : ℕ → Trees → List Row
  seq_rows o ts = rows_for img t (spots_seq o ts)

  pub seq-none : (o : ℕ) {us : Trees} → us ≡ none → seq_rows o us ≡ []
  unfolding spots_seq rows_for
  seq-none o e = ap (seq_rows o) e

  seq_more : (o : ℕ) (u : Tree) (us : Trees) → seq_rows o (u ◂ us) ≡ rows_for img t (spots o u) ++ seq_rows o us
  unfolding spots_seq
  seq_more o u us = rows_append (spots o u) (spots_seq o us)

  seq-one : (o : ℕ) (u : Tree) → seq_rows o (u ◂ none) ≡ rows_for img t (spots o u)
  seq-one o u = seq_more o u none ∙ ap (λ (l : List Row). rows_for img t (spots o u) ++ l) (seq-none o refl) ∙ append-nil _

  seq-two : (o : ℕ) (u v : Tree) → seq_rows o (u ◂ (v ◂ none)) ≡ rows_for img t (spots o u) ++ rows_for img t (spots o v)
  seq-two o u v = seq_more o u (v ◂ none) ∙ ap (λ (l : List Row). rows_for img t (spots o u) ++ l) (seq-one o v)

  seq-after : (o : ℕ) (u : Tree) (us : Trees) → seq_rows o (u ◂ append us none) ≡ rows_for img t (spots o u) ++ seq_rows o us
  seq-after o u us = ap (λ (vs : Trees). seq_rows o (u ◂ vs)) (append-none us) ∙ seq_more o u us

  -- a node that threads its children
  inside : {kd : Kind} {n : ℕ} → Is img kd n → threads kd.class ≡ true → rows_in img t n ≡ seq_rows n (below (tree_at img n))
  unfolding node_of rows_in
  inside {kd} {n} is b =
      ap (λ (u : Tree). rows_for img t (spots 0 u)) (tree_of img is)
      ∙ ap (rows_for img t) (threads-class kd.class n (kind_at img n) _ _ b 0)
      ∙ sym (ap (λ (u : Tree). seq_rows n (below u)) (tree_of img is))

  -- its children, where they stand in row order
  kids-are : {cl : Class} {fs : List Field} {n : ℕ} → Is img (kind_by cl fs) n → below (tree_at img n) ≡ ordered cl (all_kids img n fs 0)
  unfolding node_of
  kids-are is = ap below (tree_of img is)

  pub one-rows : {k n : ℕ} → Is img (kind_by (inner plain) (child k ∷ [])) n → rows_in img t n ≡ rows_for img t (spots n (tree_at img (field img n 0)))
  unfolding threads all_kids ordered
  one-rows {k} {n} is = inside is refl ∙ ap (seq_rows n) (kids-are is) ∙ seq-one n _

  pub two-rows : {k l n : ℕ} → Is img (kind_by (inner plain) (child k ∷ child l ∷ [])) n
      → rows_in img t n ≡ rows_for img t (spots n (tree_at img (field img n 0))) ++ rows_for img t (spots n (tree_at img (field img n 1)))
  unfolding threads all_kids ordered
  two-rows {k} {l} {n} is = inside is refl ∙ ap (seq_rows n) (kids-are is) ∙ seq-two n (tree_at img (field img n 0)) (tree_at img (field img n 1))

  -- a plain node with a name alone
  pub leaf-rows : {n : ℕ} → Is img (kind_by (inner plain) (name ∷ [])) n → rows_in img t n ≡ []
  unfolding threads all_kids ordered
  leaf-rows {n} is = inside is refl ∙ ap (seq_rows n) (kids-are is) ∙ seq-none n refl

  -- a member and an app head's member: the receiver alone
  pub first_rows : (cl : Class) {k : ℕ} {fs : List Field} {n : ℕ} → Is img (kind_by cl (child k ∷ fs)) n → ((ts : Trees) → ordered cl ts ≡ ts)
      → ((x : ℕ) (sh : List ℕ) (ts : Trees) → spots 0 (node n x cl sh ts) ≡ spots_first n ts) → rows_in img t n ≡ rows_for img t (spots n (tree_at img (field img n 0)))
  unfolding rows_in spots_first node_of all_kids
  first_rows cl {k} {fs} {n} is straight e =
      ap (λ (u : Tree). rows_for img t (spots 0 u)) (tree_of img is)
      ∙ ap (rows_for img t) (e (kind_at img n) (shapes img n (child k ∷ fs) 0) (ordered cl (all_kids img n (child k ∷ fs) 0)) ∙ ap (spots_first n) (straight (all_kids img n (child k ∷ fs) 0)))

  -- an if-var: its type, then its term
  pub if_var-rows : {n : ℕ} → Is img (kind_of var_if_atom_kind) n
      → rows_in img t n ≡ rows_for img t (spots n (tree_at img (field img n 1))) ++ rows_for img t (spots n (tree_at img (field img n 0)))
  unfolding threads all_kids ordered kind_of
  if_var-rows {n} is = inside is refl ∙ ap (seq_rows n) (kids-are is) ∙ seq-two n (tree_at img (field img n 1)) (tree_at img (field img n 0))

  -- a defined-then: its variable before its term
  pub undefined-rows : {n : ℕ} → Is img (kind_of defined_then_atom_kind) n → field img n 0 ≡ 0 → rows_in img t n ≡ rows_for img t (spots n (tree_at img (field img n 1)))
  unfolding rows_in spots node_of kind_of all_kids ordered
  undefined-rows {n} is e =
      ap (λ (u : Tree). rows_for img t (spots 0 u)) (tree_of img is)
      ∙ ap (λ (x : ℕ). rows_for img t (spots_back n (swap (append (elim x as (λ _. Trees) [ zero ↦ none | suc m ↦ tree_at img m ◂ none ]) (tree_at img (field img n 1) ◂ none))))) e

  pub defined-rows : {n : ℕ} → Is img (kind_of defined_then_atom_kind) n → (m : ℕ) → field img n 0 ≡ suc m
      → rows_in img t n ≡ rows_for img t (spots n (tree_at img m)) ++ rows_for img t (spots n (tree_at img (field img n 1)))
  unfolding rows_in spots node_of kind_of all_kids ordered
  defined-rows {n} is m e =
      ap (λ (u : Tree). rows_for img t (spots 0 u)) (tree_of img is)
      ∙ ap (λ (x : ℕ). rows_for img t (spots_back n (swap (append (elim x as (λ _. Trees) [ zero ↦ none | suc m ↦ tree_at img m ◂ none ]) (tree_at img (field img n 1) ◂ none))))) e
      ∙ rows_append (spots_seq n (tree_at img m ◂ none)) (spots n (tree_at img (field img n 1)))
      ∙ ap (λ (l : List Row). l ++ rows_for img t (spots n (tree_at img (field img n 1)))) (seq-one n (tree_at img m))

  -- a node that wraps an enum: the child of its case, or none
  pub case_rows : (cl : Class) (ks : List ℕ) {n : ℕ} → Is img (kind_by cl (cases ks ∷ [])) n → threads cl ≡ true → ((ts : Trees) → ordered cl ts ≡ ts)
      → (c : ℕ) → c ≡ field img n 0 → eqb (get_or ks c no_child) no_child ≡ false → rows_in img t n ≡ rows_for img t (spots n (tree_at img (field img n 1)))
  case_rows cl ks {n} is b straight c q s = inside is b ∙ ap (seq_rows n) (case-kids img cl ks is straight c q ∙ case-one img ks n c s) ∙ seq-one n _

  pub case-none : (cl : Class) (ks : List ℕ) {n : ℕ} → Is img (kind_by cl (cases ks ∷ [])) n → threads cl ≡ true → ((ts : Trees) → ordered cl ts ≡ ts)
      → (c : ℕ) → c ≡ field img n 0 → eqb (get_or ks c no_child) no_child ≡ true → rows_in img t n ≡ []
  case-none cl ks {n} is b straight c q s = inside is b ∙ ap (seq_rows n) (case-kids img cl ks is straight c q ∙ rw (s, case_kids)) ∙ seq-none n refl

  -- a list: its items; and the first of what is left of them
  pub list-rows : {k n : ℕ} → Is img (kind_by (inner plain) (list k ∷ [])) n → rows_in img t n ≡ rows_at img t n (field img n 0) 1
  unfolding threads all_kids ordered rows_at
  list-rows {k} {n} is = inside is refl ∙ ap (seq_rows n) (kids-are is ∙ append-none _)

  pub items-more : {kd : Kind} (n x : ℕ) {us vs : Trees} → Is img kd x → bare kd.class ≡ true → us ≡ tree_at img x ◂ vs → seq_rows n us ≡ rows_in img t x ++ seq_rows n vs
  items-more n x {vs = vs} is b e = ap (seq_rows n) e ∙ seq_more n (tree_at img x) vs ∙ ap (λ (l : List Row). l ++ seq_rows n vs) (owner is b n)

  -- a child and a list: a match case, a match
  pub child-list-rows : (cl : Class) {k l n : ℕ} → Is img (kind_by cl (child k ∷ list l ∷ [])) n → threads cl ≡ true → ((ts : Trees) → ordered cl ts ≡ ts)
      → rows_in img t n ≡ rows_for img t (spots n (tree_at img (field img n 0))) ++ rows_at img t n (field img n 1) 2
  unfolding all_kids rows_at
  child-list-rows cl {k} {l} {n} is b straight =
      inside is b ∙ ap (seq_rows n) (kids-are is ∙ straight _) ∙ seq-after n (tree_at img (field img n 0)) (items img n (field img n 1) 2)

  -- a branch: its blocks; and the first of what is left of them
  pub branch-rows : {n : ℕ} → Is img (kind_of branch_stmt_kind) n → rows_in img t n ≡ seq_rows n (blocks img n (field img n 0) 1)
  unfolding threads all_kids ordered kind_of
  branch-rows {n} is = inside is refl ∙ ap (seq_rows n) (kids-are is ∙ append-none _)

  pub blocks-more : {n : ℕ} (b : NodeList) {us vs : Trees} → b.node.0 ≡ n → us ≡ block (items img b.node.0 b.count b.first) ◂ vs → seq_rows n us ≡ rows_of img t b ++ seq_rows n vs
  unfolding rows_at spots
  blocks-more {n} b {vs = vs} m e =
      ap (seq_rows n) e
      ∙ seq_more n (block (items img b.node.0 b.count b.first)) vs
      ∙ ap (λ (o : ℕ). seq_rows o (items img b.node.0 b.count b.first) ++ seq_rows n vs) (sym m)
