-- Error rows stand at distinct nodes.
use mathlib.Core.Path.{◌≡◌, refl, sym, ap, subst, ◌∙◌}
use mathlib.Core.Bool.{Bool, true, false}
use mathlib.Core.List.{List, [], ◌∷◌, ◌++◌, append-nil, Memᴰ}
use Prim.Native.Nat.{ℕ, zero, suc, ◌+◌, ◌<◌, ◌≤◌}
use native.Mathlib.Decide.{ℕ_discrete, dec_lt}
use native.Mathlib.Omega.{arith}
use Rattle.ast.specs.Image.{nodes, kind_at, last}
use Rattle.ast.specs.Tests.{is, times, verdict}
use Rattle.ast.specs.Tree.{tree_at}
use Rattle.ast.proofs.Count.{nodes_of, sum_of, is_same, is-other, times-sum, times-append, once, nothing-else}
use Rattle.scopes.specs.Twice.{among}
use Rattle.table.specs.Table.{Table}
use Rattle.rows.specs.Rows.{Row, row, rights, when}
use Rattle.bindings.specs.Errors.{repeated_to, strict_from, strict_rows, is_strict, plain_rows, error_rows}
use Rattle.sentences.proofs.Fine.{rights-append}
use Rattle.sentences.proofs.Standing.{plain-all}
use Rattle.sentences.proofs.Sentences.{plain-at-term}
use Rattle.ast.proofs.Kids.{all-mem}
use Rattle.bindings.proofs.Bound.{lists-all}
use Rattle.sentences.proofs.Repeats.{in-strict}

module _ (img : List ℕ) (accepted : verdict img ≡ 0) where
  -- no node has two plain rows
  pub plain-once : (t : Table) (v : ℕ) → times v (rights (plain_rows img t)) ≤ 1
  unfolding nodes_of
  plain-once t v =
      let a = times-sum v (rights (plain_rows img t)) in
      let b = (plain-all img t accepted).few (is v) in
      let c = ap (sum_of (is v)) (append-nil (nodes_of (tree_at img (last img)))) in
      let d = times-sum v (nodes_of (tree_at img (last img))) in
      go (dec_lt v (nodes img)) a b c d
    where
      go : Dec (v < nodes img) → times v (rights (plain_rows img t)) ≡ sum_of (is v) (rights (plain_rows img t)) → sum_of (is v) (rights (plain_rows img t)) ≤ sum_of (is v) (nodes_of (tree_at img (last img)) ++ [])
          → sum_of (is v) (nodes_of (tree_at img (last img)) ++ []) ≡ sum_of (is v) (nodes_of (tree_at img (last img))) → times v (nodes_of (tree_at img (last img))) ≡ sum_of (is v) (nodes_of (tree_at img (last img)))
          → times v (rights (plain_rows img t)) ≤ 1
      go (yes l) a b c d = let e = once img accepted v l in omega arith
      go (no l) a b c d = let e = nothing-else img accepted v (omega arith) in omega arith

-- a node that is counted has a row
row-counted : (v : ℕ) (l : List Row) → 0 < times v (rights l) → (r : Row) × Memᴰ r l × (r.right ≡ v)
unfolding rights times
row-counted v [] h = absurd (omega arith)
row-counted v (r ∷ l) h = go (ℕ_discrete v r.right) (row-counted v l)
  where
    go : Dec (v ≡ r.right) → (0 < times v (rights l) → (x : Row) × Memᴰ x l × (x.right ≡ v)) → (x : Row) × Memᴰ x (r ∷ l) × (x.right ≡ v)
    go (yes e) ih = (r, Memᴰ.head refl, sym e)
    go (no e) ih = let z = is-other v r.right e in let q = ih (omega arith) in (q.0, Memᴰ.tail q.1, q.2)

when-times : (v s : ℕ) (b : Bool) → times v (rights (when b (row 4 s))) ≤ is v s
unfolding when rights times
when-times v s true = omega arith
when-times v s false = omega arith

module _ (img : List ℕ) (v : ℕ) (ns : List ℕ) where
  rows_split : (l k : List Row) → times v (rights (l ++ k)) ≡ times v (rights l) + times v (rights k)
  rows_split l k = ap (times v) (rights-append l k) ∙ times-append v (rights l) (rights k)

  strict-below : (c s : ℕ) → v < s → times v (rights (strict_from img ns c s)) ≡ 0
  unfolding strict_from rights times
  strict-below zero s l = refl
  strict-below (suc c) s l =
      let a = strict-below c (s + 1) (omega arith) in
      let b = rows_split (when (among s ns) (row 4 s)) (strict_from img ns c (s + 1)) in
      let d = when-times v s (among s ns) in
      let e = is-other v s (omega arith) in
      omega arith

  strict-once : (c s : ℕ) → times v (rights (strict_from img ns c s)) ≤ 1
  unfolding strict_from rights times
  strict-once zero s = omega arith
  strict-once (suc c) s = go (ℕ_discrete v s) (strict-once c (s + 1)) (rows_split (when (among s ns) (row 4 s)) (strict_from img ns c (s + 1))) (when-times v s (among s ns))
    where
      go : Dec (v ≡ s) → times v (rights (strict_from img ns c (s + 1))) ≤ 1
          → times v (rights (when (among s ns) (row 4 s) ++ strict_from img ns c (s + 1))) ≡ times v (rights (when (among s ns) (row 4 s))) + times v (rights (strict_from img ns c (s + 1)))
          → times v (rights (when (among s ns) (row 4 s))) ≤ is v s
          → times v (rights (when (among s ns) (row 4 s) ++ strict_from img ns c (s + 1))) ≤ 1
      go (yes e) ih b d = let z = strict-below c (s + 1) (omega arith) in let y = ap (is v) (sym e) ∙ is_same v in omega arith
      go (no e) ih b d = let y = is-other v s e in omega arith

module _ (img : List ℕ) (accepted : verdict img ≡ 0) (t : Table) where
  -- error rows stand at distinct nodes
  pub rows-once : (mode v : ℕ) → times v (rights (error_rows img t mode)) ≤ 1
  unfolding error_rows
  rows-once mode v = go (is_strict img mode)
    where
      strict : ℕ
      strict = times v (rights (strict_rows img))

      once-strict : strict ≤ 1
      once-strict = unfold strict_rows in strict-once img v (repeated_to img (nodes img)) (nodes img) 0

      -- a plain row stands at a Term, a row 4 at an ArgDecl
      disjoint : 0 < times v (rights (plain_rows img t)) → 0 < strict → ⊥
      disjoint p q =
          let a = row-counted v (plain_rows img t) p in
          let b = row-counted v (strict_rows img) q in
          let x = sym (ap (kind_at img) a.2) ∙ plain-at-term img t accepted a.0 a.1 in
          let y = at_arg b.0 b.1 b.2 in
          omega arith
        where
          at_arg : (r : Row) → Memᴰ r (strict_rows img) → r.right ≡ v → kind_at img v ≡ 10
          at_arg r m e = unfold strict_rows in
              subst (λ (x : ℕ). kind_at img x ≡ 10) e (all-mem (lists-all img accepted (nodes img) (omega arith)) (in-strict img (repeated_to img (nodes img)) (nodes img) 0 m).3).1

      go : (b : Bool) → times v (rights (plain_rows img t ++ elim b as (λ _. List Row) [ true ↦ strict_rows img | false ↦ [] ])) ≤ 1
      go true =
          let a = rows_split img v [] (plain_rows img t) (strict_rows img) in
          let b = plain-once img accepted t v in
          let c = once-strict in
          pick (dec_lt 0 (times v (rights (plain_rows img t)))) (dec_lt 0 strict) a b c
        where
          pick : Dec (0 < times v (rights (plain_rows img t))) → Dec (0 < strict) → times v (rights (plain_rows img t ++ strict_rows img)) ≡ times v (rights (plain_rows img t)) + strict
              → times v (rights (plain_rows img t)) ≤ 1 → strict ≤ 1 → times v (rights (plain_rows img t ++ strict_rows img)) ≤ 1
          pick (yes p) (yes q) a b c = absurd (disjoint p q)
          pick (yes p) (no q) a b c = omega arith
          pick (no p) q a b c = omega arith
      go false =
          let a = rows_split img v [] (plain_rows img t) [] in
          let b = plain-once img accepted t v in
          unfold rights times in omega arith
