-- Rows that stand where document 01 says, and at distinct nodes of a list of trees: laws by which they are put together.
use mathlib.Core.Path.{◌≡◌, refl, sym, ap, subst, ◌∙◌}
use mathlib.Core.Logic.{◌⊎◌, ⊎_elim}
use mathlib.Core.Bool.{Bool, true, false}
use mathlib.Core.List.Memᴰ
use mathlib.Core.List.{List, [], ◌∷◌, ◌++◌, append-nil, Memᴰ}
use Prim.Native.Nat.{ℕ, zero, suc, ◌+◌, ◌<◌, ◌≤◌}
use native.Mathlib.Nat.{add-zero}
use native.Mathlib.Omega.{arith}
use Rattle.ast.specs.Image.{field}
use Rattle.ast.specs.Kinds.{Class, Kind}
use Rattle.ast.specs.Is.{Is}
use Rattle.ast.specs.Tree.{Tree, node, block, Trees, none, ◌◂◌, tree_at}
use Rattle.ast.specs.Items.{items, below}
use Rattle.ast.proofs.Row.{node_of}
use Rattle.ast.proofs.Shapes.{tree_of}
use Rattle.ast.proofs.Count.{nodes_of, nodes_all, sum_of, sum_of-append}
use Rattle.table.specs.Table.{Table}
use Rattle.rows.specs.Rows.{Row, row, rights, when}
use Rattle.bindings.specs.Errors.{arg_row, arg_rows, rows_of, decl_rows}
use Rattle.bindings.specs.Promises.{listed, declared}
use Rattle.sentences.specs.Places.{Introduced, NotNew, NotFresh}
use Rattle.bindings.proofs.RowLaws.{rows_at}

pub rights-append : (l k : List Row) → rights (l ++ k) ≡ rights l ++ rights k
unfolding rights
rights-append [] k = refl
rights-append (x ∷ l) k = ap (λ (xs : List ℕ). x.right ∷ xs) (rights-append l k)

-- the nodes of rows, weighed
module _ (w : ℕ → ℕ) where
  rows-sum : (l k : List Row) → sum_of w (rights (l ++ k)) ≡ sum_of w (rights l) + sum_of w (rights k)
  rows-sum l k = ap (sum_of w) (rights-append l k) ∙ sum_of-append w (rights l) (rights k)

  cons-sum : (u : Tree) (us : Trees) → sum_of w (nodes_all (u ◂ us)) ≡ sum_of w (nodes_of u) + sum_of w (nodes_all us)
  unfolding nodes_of
  cons-sum u us = sum_of-append w (nodes_of u) (nodes_all us)

  one-sum : (u : Tree) → sum_of w (nodes_all (u ◂ none)) ≡ sum_of w (nodes_of u)
  unfolding nodes_of
  one-sum u = ap (sum_of w) (append-nil (nodes_of u))

module _ (img : List ℕ) (t : Table) where
  -- what a row says, by its number
  abbrev pub Justified : Row → Type 0
  Justified r = ((r.left ≡ 1) × Introduced img t r.right) ⊎ (((r.left ≡ 2) × NotNew img t r.right) ⊎ ((r.left ≡ 3) × NotFresh img t r.right))

  -- each row says what holds, and however nodes are weighed, the rows weigh at most as much as the trees
  pub record Fine (ts : Trees) (l : List Row) : Type 0 where
    pub just : (r : Row) → Memᴰ r l → Justified r
    pub few : (w : ℕ → ℕ) → sum_of w (rights l) ≤ sum_of w (nodes_all ts)

  abbrev pub FineAt : ℕ → List Row → Type 0
  FineAt n l = Fine (tree_at img n ◂ none) l

  pub fine-as : {ts : Trees} {l k : List Row} → l ≡ k → Fine ts l → Fine ts k
  fine-as {ts} e h = subst (Fine ts) e h

  pub fine-none : (ts : Trees) → Fine ts []
  unfolding rights sum_of
  fine-none ts = record { just = λ r m. absurd (Memᴰ.not-nil m); few = λ w. omega arith }

  pub fine-no : {ts : Trees} {l : List Row} → l ≡ [] → Fine ts l
  fine-no {ts} e = fine-as (sym e) (fine-none ts)

  both-just : {l k : List Row} → ((r : Row) → Memᴰ r l → Justified r) → ((r : Row) → Memᴰ r k → Justified r) → (r : Row) → Memᴰ r (l ++ k) → Justified r
  both-just {l} f g r m = ⊎_elim (f r) (g r) (Memᴰ.append_cases l m)

  -- the rows of a tree, and of the trees after it
  pub fine-cons : {u : Tree} {us : Trees} {l k : List Row} → Fine (u ◂ none) l → Fine us k → Fine (u ◂ us) (l ++ k)
  fine-cons {u} {us} {l} {k} f g =
      record {
        just = both-just f.just g.just;
        few = λ w.
            let a = f.few w in let b = g.few w in
            let p = rows-sum w l k in let q = cons-sum w u us in let s = one-sum w u in
            omega arith;
      }

  -- the rows of the second tree before those of the first
  pub fine-swap : {u v : Tree} {l k : List Row} → Fine (u ◂ none) l → Fine (v ◂ none) k → Fine (v ◂ (u ◂ none)) (l ++ k)
  fine-swap {u} {v} {l} {k} f g =
      record {
        just = both-just f.just g.just;
        few = λ w.
            let a = f.few w in let b = g.few w in
            let p = rows-sum w l k in let q = cons-sum w v (u ◂ none) in let s = one-sum w v in
            omega arith;
      }

  -- rows of the first tree, or of those after it, alone
  pub fine-first : {u : Tree} {l : List Row} (us : Trees) → Fine (u ◂ none) l → Fine (u ◂ us) l
  fine-first {u} us f =
      record { just = f.just; few = λ w. let a = f.few w in let q = cons-sum w u us in let s = one-sum w u in omega arith }

  pub fine-rest : {us : Trees} {l : List Row} (u : Tree) → Fine us l → Fine (u ◂ us) l
  fine-rest {us} u f = record { just = f.just; few = λ w. let a = f.few w in let q = cons-sum w u us in omega arith }

  fine-node : {ts : Trees} {l : List Row} (n k : ℕ) (c : Class) (sh : List ℕ) → Fine ts l → Fine (node n k c sh ts ◂ none) l
  unfolding nodes_of sum_of
  fine-node {ts} n k c sh f =
      record { just = f.just; few = λ w. let a = f.few w in let s = one-sum w (node n k c sh ts) in omega arith }

  pub fine-block : {ts : Trees} {l : List Row} → Fine ts l → Fine (block ts ◂ none) l
  unfolding nodes_of
  fine-block {ts} f = record { just = f.just; few = λ w. let a = f.few w in let s = one-sum w (block ts) in omega arith }

  -- a row at the node itself
  fine-row : (b : Bool) (x n k : ℕ) (c : Class) (sh : List ℕ) (ts : Trees) → (b ≡ true → Justified (row x n)) → Fine (node n k c sh ts ◂ none) (when b (row x n))
  unfolding when rights nodes_of sum_of
  fine-row false x n k c sh ts h = fine-none (node n k c sh ts ◂ none)
  fine-row true x n k c sh ts h =
      record {
        just = λ r m. subst Justified (sym (Memᴰ.eq_of_singleton m)) (h refl);
        few = λ w. let s = one-sum w (node n k c sh ts) in omega arith;
      }

  -- up to a node
  pub at-node : {kd : Kind} {n : ℕ} {l : List Row} → Is img kd n → Fine (below (tree_at img n)) l → FineAt n l
  unfolding node_of
  at-node {kd} {n} {l} is f =
      subst (λ (u : Tree). Fine (u ◂ none) l) (sym (tree_of img is))
      (fine-node n _ _ _ (subst (λ (u : Tree). Fine (below u) l) (tree_of img is) f))

  pub at_row : {kd : Kind} {n : ℕ} (b : Bool) (x : ℕ) → Is img kd n → (b ≡ true → Justified (row x n)) → FineAt n (when b (row x n))
  unfolding node_of
  at_row {kd} {n} b x is h = subst (λ (u : Tree). Fine (u ◂ none) (when b (row x n))) (sym (tree_of img is)) (fine-row b x n _ _ _ _ h)

  -- the children in a list
  pub items-fine : (a : Bool) (n c j : ℕ) → ((i : ℕ) → i < c → FineAt (field img n (j + i)) (rows_at img t a n (field img n (j + i)))) → Fine (items img n c j) (listed img t a n c j)
  unfolding items rows_of
  items-fine a n zero j h = fine-none none
  items-fine a n (suc c) j h = fine-cons (rw add-zero at (h 0 (omega arith))) (items-fine a n c (j + 1) (λ i l. let q : j + suc i ≡ j + 1 + i = omega arith in rw q at (h (suc i) (omega arith))))

  pub args-fine : (n c j : ℕ) → ((i : ℕ) → i < c → FineAt (field img n (j + i)) (arg_row img t (tree_at img (field img n (j + i))))) → Fine (items img n c j) (arg_rows img t (items img n c j))
  unfolding items arg_rows
  args-fine n zero j h = fine-none none
  args-fine n (suc c) j h = fine-cons (rw add-zero at (h 0 (omega arith))) (args-fine n c (j + 1) (λ i l. let q : j + suc i ≡ j + 1 + i = omega arith in rw q at (h (suc i) (omega arith))))

  pub decls-fine : (n c j : ℕ) → ((i : ℕ) → i < c → FineAt (field img n (j + i)) (decl_rows img t (tree_at img (field img n (j + i))))) → Fine (items img n c j) (declared img t n c j)
  unfolding items decl_rows
  decls-fine n zero j h = fine-none none
  decls-fine n (suc c) j h = fine-cons (rw add-zero at (h 0 (omega arith))) (decls-fine n c (j + 1) (λ i l. let q : j + suc i ≡ j + 1 + i = omega arith in rw q at (h (suc i) (omega arith))))
