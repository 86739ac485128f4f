-- At most N error rows, so none is ever dropped: in a rule there are no more rows than nodes and no ArgDecl, and rows 4 are no
-- more than there are ArgDecls.
use mathlib.Core.Path.{◌≡◌, refl, sym, ap, subst, ◌∙◌}
use mathlib.Core.Bool.{Bool, true, false, ◌||◌, ◌&&◌, false≢true}
use mathlib.Core.List.{List, [], ◌∷◌, ◌++◌}
use Prim.Native.Nat.{ℕ, zero, suc, ◌+◌, ◌<◌, ◌≤◌}
use native.Mathlib.Nat.{add-zero}
use native.Mathlib.Numerals.{add-one}
use native.Mathlib.Omega.{arith}
use lib.Dec.{T, eqb, leb, eqb→eq}
use lib.ListN.{length, length-append}
use borrow.Author.Tests.{eqb-true}
use Rattle.ast.specs.Image.{nodes, kind_at, start_at, op_at, field, last}
use Rattle.ast.specs.Kinds.{Class, outer, inner, root, decl, signature, rule, enum, model, plain, term, ident, head, head_member, member, case, if_var, defined_then, arg, child, list, kinds, kind_of}
use Rattle.ast.specs.Is.{Is}
use Rattle.ast.specs.Items.{below}
use Rattle.ast.specs.Rows.{ops_from, shape}
use Rattle.ast.specs.Tests.{is, verdict}
use Rattle.ast.specs.Tree.{Tree, node, block, Trees, none, ◌◂◌, ordered, class_at, tree_at, size, sizes}
use Rattle.ast.proofs.Accepted.{formed, last-below}
use Rattle.ast.proofs.Bools.{is_true, true-not-false}
use Rattle.ast.proofs.ByKind.{kind_for, each_map, kids_at, class-kind, by-kinds}
use Rattle.ast.proofs.Count.{nodes_of, nodes_all, sum_of, sum_to, sum_of-append, is_same, is-other, whole, tree-size}
use Rattle.ast.proofs.Row.{Child, FormedFields, all_kids}
use Rattle.ast.proofs.Shapes.{row as fields-of, child-is}
use Rattle.ast.proofs.Unfold.{All, nil, cons, All-append, tree_at-is}
use Rattle.ast.proofs.Vars.{Each}
use Rattle.error.specs.Kinds.{asked}
use Rattle.table.specs.Table.{Table, is_var, at_entry}
use Rattle.rows.specs.Rows.{Row, row, when}
use Rattle.scopes.specs.Twice.{among}
use Rattle.bindings.specs.Errors.{introduces, introduced_row, defined_row, defined_rows, arg_row, arg_rows, list_rows, is_ctor, app_rows, pattern_rows, rows_of, rows_seq, rows_first, rows_defined, decl_rows, decls_rows, plain_rows, args_of, repeated, repeated_in, repeated_to, strict_from, strict_rows, is_strict, error_rows}
use Rattle.bindings.proofs.RowLaws.{kids-of}
use Rattle.bindings.proofs.Quiet.{quiet}

-- no more rows than nodes ---------------------------------------------------------------------------------------------
when-few : (b : Bool) (w : Row) → length (when b w) ≤ 1
unfolding when
when-few true w = omega arith
when-few false w = omega arith

cons-few : (l k : List Row) (u : Tree) (us : Trees) → length l ≤ size u → length k ≤ sizes us → length (l ++ k) ≤ sizes (u ◂ us)
unfolding size
cons-few l k u us a b = let c = length-append l k in omega arith

module _ (img : List ℕ) (t : Table) where
  -- rows 2, and rows 3, whatever the trees
  defined-few : (at : ℕ) (u : Tree) → length (defined_row img t at u) ≤ size u
  unfolding defined_row size
  defined-few at (block ts) = omega arith
  defined-few at (node n k c sh none) = omega arith
  defined-few at (node n k c sh (block ts ◂ us)) = omega arith
  defined-few at (node n k c sh (node i l d sh2 ts ◂ us)) = let a = when-few (is_var img (at_entry img t at i)) (row 2 n) in omega arith

  variables-few : (at : ℕ) (us : Trees) → length (defined_rows img t at us) ≤ sizes us
  unfolding defined_rows
  variables-few at none = omega arith
  variables-few at (u ◂ us) = cons-few (defined_row img t at u) (defined_rows img t at us) u us (defined-few at u) (variables-few at us)

  arg-few : (u : Tree) → length (arg_row img t u) ≤ size u
  unfolding arg_row size
  arg-few (block ts) = omega arith
  arg-few (node n k c [] ts) = omega arith
  arg-few (node n k c (suc x ∷ sh) ts) = omega arith
  arg-few (node n k c (zero ∷ sh) none) = omega arith
  arg-few (node n k c (zero ∷ sh) (block ts ◂ us)) = omega arith
  arg-few (node n k c (zero ∷ sh) (node i l d sh2 ts ◂ us)) = let a = when-few (is_var img (at_entry img t n i)) (row 3 n) in omega arith

  args-few : (us : Trees) → length (arg_rows img t us) ≤ sizes us
  unfolding arg_rows
  args-few none = omega arith
  args-few (u ◂ us) = cons-few (arg_row img t u) (arg_rows img t us) u us (arg-few u) (args-few us)

  list-few : (us : Trees) → length (list_rows img t us) ≤ sizes us
  unfolding list_rows size
  list-few none = omega arith
  list-few (block ts ◂ us) = omega arith
  list-few (node n k c sh ts ◂ us) = let a = args-few ts in omega arith

  app-few : (us : Trees) → length (app_rows img t us) ≤ sizes us
  unfolding app_rows size
  app-few none = omega arith
  app-few (h ◂ us) = go (is_ctor img t h)
    where
      go : (b : Bool) → length {A = Row} (elim b [ true ↦ list_rows img t us | false ↦ [] ]) ≤ size h + sizes us
      go true = let a = list-few us in omega arith
      go false = omega arith

  pattern-few : (p : Tree) (us : Trees) → length (pattern_rows img t (p ◂ us)) ≤ size p
  unfolding pattern_rows size
  pattern-few (block ts) us = omega arith
  pattern-few (node n k c sh none) us = omega arith
  pattern-few (node n k c sh (block ts ◂ vs)) us = omega arith
  pattern-few (node n k c sh (node m l d sh2 ts ◂ vs)) us = go (eqb l 14)
    where
      go : (b : Bool) → length {A = Row} (elim b [ true ↦ app_rows img t ts | false ↦ [] ]) ≤ suc (suc (sizes ts) + sizes vs)
      go true = let a = app-few ts in omega arith
      go false = omega arith

  -- whatever the node above
  abbrev Few : Bool → Tree → Type 0
  Few a u = (o : ℕ) → length (rows_of img t a o u) ≤ size u

  seq-few : (a : Bool) (ts : Trees) → Each (Few a) ts → (o : ℕ) → length (rows_seq img t a o ts) ≤ sizes ts
  unfolding rows_of Each
  seq-few a none h o = omega arith
  seq-few a (u ◂ us) h o = cons-few (rows_of img t a o u) (rows_seq img t a o us) u us (h.0 o) (seq-few a us h.1 o)

  block-few : (a : Bool) (ts : Trees) → Each (Few a) ts → Few a (block ts)
  unfolding rows_of size
  block-few a ts h o = seq-few a ts h o

  first-few : (a : Bool) (ts : Trees) → Each (Few a) ts → (o : ℕ) → length (rows_first img t a o ts) ≤ sizes ts
  unfolding rows_of Each size
  first-few a none h o = omega arith
  first-few a (u ◂ us) h o = let b = h.0 o in omega arith

  -- a defined-then's variables, and its term
  then-few : (a : Bool) (ts : Trees) → Each (Few a) ts → (at o : ℕ) → length (rows_defined img t a at o ts) ≤ sizes ts
  unfolding rows_of Each size
  then-few a none h at o = omega arith
  then-few a (u ◂ us) h at o = let b = h.0 o in let c = variables-few at us in let d = length-append (defined_rows img t at us) (rows_of img t a o u) in omega arith

  -- a case whose pattern has no rows but rows 3
  case-few : (a : Bool) (ts : Trees) → Each (Few a) ts → (n : ℕ) → rows_first img t a n ts ≡ [] → length (pattern_rows img t ts ++ rows_seq img t a n ts) ≤ sizes ts
  unfolding rows_of Each pattern_rows
  case-few a none h n e = omega arith
  case-few a (p ◂ us) h n e =
      subst (λ (l : List Row). length (pattern_rows img t (p ◂ us) ++ (l ++ rows_seq img t a n us)) ≤ sizes (p ◂ us)) (sym e)
      (cons-few (pattern_rows img t (p ◂ us)) (rows_seq img t a n us) p us (pattern-few p us) (seq-few a us h.1 n))

  -- a node over such trees
  node-few : (a : Bool) (n k : ℕ) (c : Class) (sh : List ℕ) (ts : Trees) → (c ≡ inner case → rows_first img t a n ts ≡ []) → Each (Few (asked k a)) ts → Each (Few a) ts → Few a (node n k c sh ts)
  unfolding rows_of introduced_row size
  node-few a n k (outer c) sh ts p g h o = omega arith
  node-few a n k (inner plain) sh ts p g h o = let b = seq-few (asked k a) ts g n in omega arith
  node-few a n k (inner term) sh ts p g h o = let b = seq-few a ts h n in omega arith
  node-few a n k (inner ident) sh ts p g h o = let b = when-few (a && introduces img t o n) (row 1 o) in omega arith
  node-few a n k (inner head) [] ts p g h o = omega arith
  node-few a n k (inner head) (zero ∷ sh) ts p g h o = omega arith
  node-few a n k (inner head) (suc x ∷ sh) ts p g h o = let b = seq-few a ts h n in omega arith
  node-few a n k (inner head_member) sh ts p g h o = let b = first-few a ts h n in omega arith
  node-few a n k (inner member) sh ts p g h o = let b = first-few a ts h n in omega arith
  node-few a n k (inner case) sh ts p g h o = let b = case-few a ts h n (p refl) in omega arith
  node-few a n k (inner if_var) sh ts p g h o = omega arith
  node-few a n k (inner defined_then) sh ts p g h o = let b = then-few a ts h o n in omega arith
  node-few a n k (inner arg) sh ts p g h o = omega arith

-- the rules of an accepted image ----------------------------------------------------------------------------------------
-- the kinds from Term to DefinedThenAtom: what stands in a then-atom is of one of them, and a match case is not
abbrev atom_kind : ℕ → Bool
atom_kind k = leb 12 k && leb k 34

-- rules, and what stands in them
abbrev rule_kind : ℕ → Bool
rule_kind k = eqb k 6 || leb 12 k

not-asked : (k : ℕ) → (k ≡ 29 → ⊥) → asked k false ≡ false
unfolding asked
not-asked k h = go (eqb k 29) (eqb k 18 || (eqb k 19 || eqb k 26)) (eqb→eq k 29)
  where
    go : (b c : Bool) → (T b → k ≡ 29) → ◌≡◌ {A = Bool} (elim b [ true ↦ true | false ↦ elim c [ true ↦ false | false ↦ false ] ]) false
    go true c e = absurd (h (e tt))
    go false true e = refl
    go false false e = refl

is-few : (v c : ℕ) → is v c ≤ 1
unfolding is
is-few v c = go (eqb v c)
  where
    go : (b : Bool) → ◌≤◌ (elim b as (λ _. ℕ) [ true ↦ 1 | false ↦ 0 ]) 1
    go true = omega arith
    go false = omega arith

module _ (img : List ℕ) where
  -- 1 at an ArgDecl
  abbrev arg_decl : ℕ → ℕ
  arg_decl n = is 10 (kind_at img n)

  mutual
    unfolding nodes_of sum_of size

    few-decls : (u : Tree) → sum_of arg_decl (nodes_of u) ≤ size u
    few-decls (node n k c sh ts) = let a = all-decls ts in let b = is-few 10 (kind_at img n) in omega arith
    few-decls (block ts) = all-decls ts

    all-decls : (us : Trees) → sum_of arg_decl (nodes_all us) ≤ sizes us
    all-decls none = omega arith
    all-decls (u ◂ us) = let a = few-decls u in let b = all-decls us in let c = sum_of-append arg_decl (nodes_of u) (nodes_all us) in omega arith

module _ (img : List ℕ) (t : Table) (accepted : verdict img ≡ 0) where
  abbrev node_at : ℕ → Tree
  node_at n = node n (kind_at img n) (class_at img n) (shape img n) (kids_at img n)

  node-is : {n : ℕ} → n < nodes img → tree_at img n ≡ node_at n
  node-is {n} l = tree_at-is img (formed img accepted) n l

  kind-by : {n : ℕ} (c : Class) → n < nodes img → class_at img n ≡ c → T (kind_for c (kind_at img n))
  kind-by {n} c l e = subst (λ (x : Class). T (kind_for x (kind_at img n))) e (class-kind img accepted n l)

  -- where rows 1 may be asked for
  atom-few : (n : ℕ) → n < nodes img → T (atom_kind (kind_at img n)) → (a : Bool) → Few img t a (tree_at img n)
  unfolding kinds
  atom-few = by-kinds img accepted Every (λ ts h a. block-few img t a ts (at a ts h)) atom_kind tt step
    where
      Every : Tree → Type 0
      Every u = (a : Bool) → Few img t a u

      at : (a : Bool) (ts : Trees) → Each Every ts → Each (Few img t a) ts
      at a ts h = each_map Every (Few img t a) (λ u f. f a) ts h

      step : (n : ℕ) → n < nodes img → T (atom_kind (kind_at img n)) → Each Every (kids_at img n) → Every (node_at n)
      step n l q h a =
          node-few img t a n (kind_at img n) (class_at img n) (shape img n) (kids_at img n)
          (λ e. absurd (subst (λ (k : ℕ). T (atom_kind k)) (eqb→eq (kind_at img n) 35 (kind-by (inner case) l e)) q))
          (at (asked (kind_at img n) a) (kids_at img n) h) (at a (kids_at img n) h)

  -- the pattern of a match case has no rows but rows 3
  pattern-quiet : {n : ℕ} → n < nodes img → class_at img n ≡ inner case → rows_first img t false n (kids_at img n) ≡ []
  unfolding kind_of all_kids ordered FormedFields rows_of
  pattern-quiet {n} l e =
      let k : kind_at img n ≡ 35 = eqb→eq (kind_at img n) 35 (kind-by (inner case) l e) in
      let is : Is img (kind_of 35) n = record { accepted = accepted; below = l; kind = ap kind_of k } in
      let h : Child img n 12 (field img n 0) = (fields-of img is).0 in
      ap (rows_first img t false n) (sym (ap below (node-is l)) ∙ kids-of img (inner case) (child 12 ∷ list 36 ∷ []) is (λ ts. refl))
      ∙ quiet img t accepted n (child-is img is h).below h.kind tt

  -- no more rows than nodes in the tree and below it, and no ArgDecl
  pub record InRule (u : Tree) : Type 0 where
    pub few : Few img t false u
    pub inside : (o : ℕ) → length (rows_seq img t false o (below u)) ≤ sizes (below u)
    pub bare : sum_of (arg_decl img) (nodes_of u) ≡ 0

  rule-few : (ts : Trees) → Each InRule ts → Each (Few img t false) ts
  rule-few ts h = each_map InRule (Few img t false) (λ u r. r.few) ts h

  rule-bare : (ts : Trees) → Each InRule ts → sum_of (arg_decl img) (nodes_all ts) ≡ 0
  unfolding nodes_of Each sum_of
  rule-bare none h = refl
  rule-bare (u ◂ us) h = let a = sum_of-append (arg_decl img) (nodes_of u) (nodes_all us) in let b = h.0.bare in let c = rule-bare us h.1 in omega arith

  rule-block : (ts : Trees) → Each InRule ts → InRule (block ts)
  unfolding nodes_of
  rule-block ts h = record { few = block-few img t false ts (rule-few ts h); inside = seq-few img t false ts (rule-few ts h); bare = rule-bare ts h }

  rule-node : (n : ℕ) → n < nodes img → T (rule_kind (kind_at img n)) → Each InRule (kids_at img n) → InRule (node_at n)
  unfolding nodes_of sum_of
  rule-node n l q h =
      let z = is-other 10 (kind_at img n) (λ e. subst (λ (k : ℕ). T (rule_kind k)) (sym e) q) in
      let b = rule-bare (kids_at img n) h in
      let f = rule-few (kids_at img n) h in
      record { few = go (atom_kind (kind_at img n)) refl f; inside = seq-few img t false (kids_at img n) f; bare = omega arith }
    where
      go : (b : Bool) → atom_kind (kind_at img n) ≡ b → Each (Few img t false) (kids_at img n) → Few img t false (node_at n)
      go true e f = subst (Few img t false) (node-is l) (atom-few n l (is_true e) false)
      go false e f =
          node-few img t false n (kind_at img n) (class_at img n) (shape img n) (kids_at img n) (pattern-quiet l)
          (subst (λ (b : Bool). Each (Few img t b) (kids_at img n)) (sym (not-asked (kind_at img n) (λ z. true-not-false (ap atom_kind z) e))) f) f

  in-rule : (n : ℕ) → n < nodes img → T (rule_kind (kind_at img n)) → InRule (tree_at img n)
  unfolding kinds
  in-rule = by-kinds img accepted InRule rule-block rule_kind tt rule-node

  -- declarations: rows and ArgDecls together are no more than nodes
  abbrev Both : Tree → Type 0
  Both u = length (decl_rows img t u) + sum_of (arg_decl img) (nodes_of u) ≤ size u

  both-all : (ts : Trees) → Each Both ts → length (decls_rows img t ts) + sum_of (arg_decl img) (nodes_all ts) ≤ sizes ts
  unfolding nodes_of Each decl_rows sum_of size
  both-all none h = omega arith
  both-all (u ◂ us) h =
      let a = sum_of-append (arg_decl img) (nodes_of u) (nodes_all us) in
      let b = length-append (decl_rows img t u) (decls_rows img t us) in
      let c = h.0 in
      let d = both-all us h.1 in
      omega arith

  both-block : (ts : Trees) → Each Both ts → Both (block ts)
  unfolding decl_rows
  both-block ts h = let a = few-decls img (block ts) in omega arith

  both-node : (n k : ℕ) (c : Class) (sh : List ℕ) (ts : Trees) → (c ≡ outer rule → InRule (node n k c sh ts)) → Each Both ts → Both (node n k c sh ts)
  unfolding decl_rows nodes_of sum_of size
  both-node n k (inner i) sh ts r h = let a = few-decls img (node n k (inner i) sh ts) in omega arith
  both-node n k (outer root) sh ts r h = let a = both-all ts h in let b = is-few 10 (kind_at img n) in omega arith
  both-node n k (outer decl) sh ts r h = let a = both-all ts h in let b = is-few 10 (kind_at img n) in omega arith
  both-node n k (outer signature) sh ts r h = let a = few-decls img (node n k (outer signature) sh ts) in omega arith
  both-node n k (outer rule) sh ts r h = let a = (r refl).inside n in let b = (r refl).bare in omega arith
  both-node n k (outer enum) sh ts r h = let a = few-decls img (node n k (outer enum) sh ts) in omega arith
  both-node n k (outer model) sh ts r h = let a = both-all ts h in let b = is-few 10 (kind_at img n) in omega arith

  both : (n : ℕ) → n < nodes img → Both (tree_at img n)
  unfolding kinds
  both n l = by-kinds img accepted Both both-block (λ k. true) tt step n l tt
    where
      step : (n : ℕ) → n < nodes img → T true → Each Both (kids_at img n) → Both (node_at n)
      step n l q h =
          both-node n (kind_at img n) (class_at img n) (shape img n) (kids_at img n)
          (λ e. subst InRule (node-is l) (in-rule n l (subst (λ (k : ℕ). T (rule_kind k)) (sym (eqb→eq (kind_at img n) 6 (kind-by (outer rule) l e))) tt))) h

  -- plain rows, and ArgDecls
  plain-few : length (plain_rows img t) + sum_to (arg_decl img) (nodes img) ≤ nodes img
  unfolding plain_rows
  plain-few = let a = both (last img) (last-below img accepted) in let b = whole img accepted (arg_decl img) in let c = tree-size img accepted in omega arith

-- rows 4 ----------------------------------------------------------------------------------------------------------------
-- what holds of each of some numbers holds of one that is among them
among-all : {P : ℕ → Type 0} (n : ℕ) {ns : List ℕ} → All P ns → among n ns ≡ true → P n
unfolding among
among-all n nil e = absurd (false≢true e)
among-all {P} n (cons {c = x} {cs = ns} h r) e = go (eqb n x) refl (among-all n r) e
  where
    go : (b : Bool) → eqb n x ≡ b → (among n ns ≡ true → P n) → b || among n ns ≡ true → P n
    go true q ih z = subst P (sym (eqb-true n x q)) h
    go false q ih z = ih z

module _ (img : List ℕ) (P : ℕ → Type 0) where
  ops-all : (c p : ℕ) → ((i : ℕ) → i < c → P (op_at img (p + i))) → All P (ops_from img c p)
  unfolding ops_from
  ops-all zero p h = nil
  ops-all (suc c) p h = cons (rw add-zero at (h 0 (omega arith))) (ops-all c (p + 1) (λ i l. let q : p + suc i ≡ p + 1 + i = omega arith in rw q at (h (suc i) (omega arith))))

  repeated-all : (seen : List ℕ) {ns : List ℕ} → All P ns → All P (repeated img seen ns)
  unfolding repeated
  repeated-all seen nil = nil
  repeated-all seen (cons {c = x} {cs = ns} h r) = go (field img x 0) (λ l. repeated-all l r)
    where
      pick : (y : ℕ) (b : Bool) → All P (repeated img (y ∷ seen) ns) → All P (elim b as (λ _. List ℕ) [ true ↦ x ∷ repeated img (y ∷ seen) ns | false ↦ repeated img (y ∷ seen) ns ])
      pick y true q = cons h q
      pick y false q = q

      go : (w : ℕ) → ((l : List ℕ) → All P (repeated img l ns))
          → All P (elim w as (λ _. List ℕ) [ zero ↦ repeated img seen ns | suc y ↦ elim (among y seen) [ true ↦ x ∷ repeated img (y ∷ seen) ns | false ↦ repeated img (y ∷ seen) ns ] ])
      go zero ih = ih seen
      go (suc y) ih = pick y (among y seen) (ih (y ∷ seen))

module _ (img : List ℕ) (accepted : verdict img ≡ 0) where
  abbrev pub IsArg : ℕ → Type 0
  IsArg n = (n < nodes img) × (kind_at img n ≡ 10)

  -- the arguments of a list are ArgDecls
  pub args-all : (m : ℕ) → m < nodes img → kind_at img m ≡ 11 → All IsArg (args_of img m)
  unfolding args_of kind_of FormedFields field
  args-all m l e =
      let is : Is img (kind_of 11) m = record { accepted = accepted; below = l; kind = ap kind_of e } in
      ops-all img IsArg (field img m 0) (start_at img m + 3)
      (λ i b. let h = (fields-of img is).0 i b in
      let q : start_at img m + 2 + (1 + i) ≡ start_at img m + 3 + i = omega arith in
      rw q at (let x : IsArg (field img m (1 + i)) = (let y = h.below in omega arith, h.kind) in x))

  list_all : (m : ℕ) → m < nodes img → All IsArg (repeated_in img m)
  unfolding repeated_in
  list_all m l = go (eqb (kind_at img m) 11) (eqb→eq (kind_at img m) 11)
    where
      go : (b : Bool) → (T b → kind_at img m ≡ 11) → All IsArg (elim b as (λ _. List ℕ) [ true ↦ repeated img [] (args_of img m) | false ↦ [] ])
      go true e = repeated-all img IsArg [] (args-all m l (e tt))
      go false e = nil

  -- and so are those that repeat a name
  pub lists-all : (m : ℕ) → m ≤ nodes img → All IsArg (repeated_to img m)
  unfolding repeated_to
  lists-all zero l = nil
  lists-all (suc m) l = All-append (lists-all m (omega arith)) (list_all m (omega arith))

  strict-from : (ns : List ℕ) → All IsArg ns → (c s : ℕ) → length (strict_from img ns c s) + sum_to (arg_decl img) s ≤ sum_to (arg_decl img) (s + c)
  unfolding strict_from
  strict-from ns h zero s = let a = ap (sum_to (arg_decl img)) (add-zero s) in omega arith
  strict-from ns h (suc c) s =
      let a = strict-from ns h c (s + 1) in
      let b = length-append (when (among s ns) (row 4 s)) (strict_from img ns c (s + 1)) in
      let d = ap (sum_to (arg_decl img)) (let z : s + 1 + c ≡ s + suc c = omega arith in z) in
      let e = first (among s ns) refl in
      let f = ap (sum_to (arg_decl img)) (add-one s) in
      omega arith
    where
      first : (b : Bool) → among s ns ≡ b → length (when b (row 4 s)) + sum_to (arg_decl img) s ≤ sum_to (arg_decl img) (suc s)
      first true e = unfold when sum_to in let k = ap (is 10) (among-all s h e).1 ∙ is_same 10 in omega arith
      first false e = unfold when sum_to in omega arith

  strict-few : length (strict_rows img) ≤ sum_to (arg_decl img) (nodes img)
  unfolding strict_rows sum_to
  strict-few =
      let a = strict-from (repeated_to img (nodes img)) (lists-all (nodes img) (omega arith)) (nodes img) 0 in
      let b = ap (sum_to (arg_decl img)) (let z : 0 + nodes img ≡ nodes img = omega arith in z) in
      omega arith

  -- at most N error rows
  pub both-few : (t : Table) → length (plain_rows img t) + length (strict_rows img) ≤ nodes img
  both-few t = let a = plain-few img t accepted in let b = strict-few in omega arith

  pub rows_few : (t : Table) (mode : ℕ) → length (error_rows img t mode) ≤ nodes img
  unfolding error_rows
  rows_few t mode = let a = both-few t in let b = go (is_strict img mode) in omega arith
    where
      go : (b : Bool) → length (plain_rows img t ++ elim b as (λ _. List Row) [ true ↦ strict_rows img | false ↦ [] ]) ≤ length (plain_rows img t) + length (strict_rows img)
      go true = let a = length-append (plain_rows img t) (strict_rows img) in omega arith
      go false = let a = length-append (plain_rows img t) [] in omega arith
