-- Document 01's sentences on error rows: rows 1, 2 and 3 stand at exactly the places that it names, row 1 never at an app
-- head; each node gets at most one row, so there are at most N.
use mathlib.Core.Path.{◌≡◌, refl, sym, ap, subst, ◌∙◌}
use mathlib.Core.Logic.{inl, inr, ◌↔◌}
use mathlib.Core.Bool.{Bool, true, false}
use mathlib.Core.List.Memᴰ
use mathlib.Core.List.{List, Memᴰ}
use Prim.Native.Nat.{ℕ, zero, suc, ◌+◌, ◌<◌, ◌≤◌}
use native.Mathlib.Nat.{add-zero}
use native.Mathlib.Omega.{arith}
use lib.Dec.{T}
use Rattle.ast.specs.Image.{nodes, kind_at, field}
use Rattle.ast.specs.Kinds.{kind_of}
use Rattle.ast.specs.Is.{Is}
use Rattle.ast.specs.Tests.{verdict}
use Rattle.ast.specs.Tree.{tree_at}
use Rattle.ast.specs.Items.{items}
use Rattle.table.specs.Table.{Table}
use Rattle.rows.specs.Rows.{Row, row, when}
use Rattle.bindings.specs.Errors.{arg_row, arg_rows, plain_rows}
use Rattle.error.specs.Kinds.{asked}
use Rattle.sentences.specs.Places.{Node, Introduced, NotNew, NotFresh}
use Rattle.bindings.proofs.Leaves.{when_true, introduced-is}
use Rattle.bindings.proofs.RowLaws.{plain-rows, term_rows, case_rows, defined-some, defined-ident, arg-ident, args-inside, ctor-ident}
use Rattle.bindings.proofs.Epic.{epic-ident}
use Rattle.bindings.proofs.Bodies.{atom-defined, applied, applied-yes}
use Rattle.sentences.proofs.Fine.{Justified}
use Rattle.sentences.proofs.Standing.{plain-all}
use Rattle.sentences.proofs.Reached.{then-up, ups, stmt_kind}

-- an argument's row 3 is among those of its list
args-among : (img : List ℕ) (t : Table) (n c j i : ℕ) → i < c → (r : Row) → Memᴰ r (arg_row img t (tree_at img (field img n (j + i)))) → Memᴰ r (arg_rows img t (items img n c j))
unfolding items arg_rows
args-among img t n zero j i l r m = absurd (omega arith)
args-among img t n (suc c) j zero l r m = Memᴰ.append_left (arg_rows img t (items img n c (j + 1))) (subst (λ (x : ℕ). Memᴰ r (arg_row img t (tree_at img (field img n x)))) (add-zero j) m)
args-among img t n (suc c) j (suc i) l r m =
    Memᴰ.append_right (arg_row img t (tree_at img (field img n j)))
    (args-among img t n c (j + 1) i (omega arith) r
    (subst (λ (x : ℕ). Memᴰ r (arg_row img t (tree_at img (field img n x)))) (let q : j + suc i ≡ j + 1 + i = omega arith in q) m))

module _ (img : List ℕ) (t : Table) (accepted : verdict img ≡ 0) where
  is-node : {k n : ℕ} → Node img k n → Is img (kind_of k) n
  is-node h = record { accepted = accepted; below = h.below; kind = ap kind_of h.kind }

  -- a row that stands where a test says so
  there : {l : List Row} {b : Bool} (x n : ℕ) → l ≡ when b (row x n) → b ≡ true → Memᴰ (row x n) l
  there x n e q = subst (Memᴰ (row x n)) (sym (e ∙ when_true (row x n) q)) (Memᴰ.head refl)

  one-there : {n : ℕ} → Introduced img t n → Memᴰ (row 1 n) (plain_rows img t)
  one-there {n} h =
      let is = is-node h.term.node in
      let u = then-up img t accepted h.place (λ e. let k = h.term.node.kind in omega arith) in
      u.1 (row 1 n)
      (there 1 n
      (term_rows img t true u.0 is ∙ epic-ident img t is (sym h.term.case) (sym h.term.ident) ∙ introduced-is img t n h.i refl)
      h.new)

  two-there : {n : ℕ} → NotNew img t n → Memᴰ (row 2 n) (plain_rows img t)
  unfolding kind_of asked
  two-there {n} h =
      let is = is-node h.is_atom in
      let u = (ups img t accepted (nodes img) h.atom (omega arith) h.is_atom.below).1 (subst (λ (k : ℕ). T (stmt_kind k)) (sym h.is_atom.kind) tt) in
      let d = atom-defined img t is (sym h.case) (sym h.child) in
      let e = plain-rows img t false 29 _ u.0 is h.is_atom.kind ∙ d.1 ∙ defined-some img t true h.atom n d.0 (sym h.variable) refl in
      u.1 (row 2 n)
      (subst (Memᴰ (row 2 n)) (sym e)
      (Memᴰ.append_left _ (there 2 n (defined-ident img t h.atom (is-node h.term.node) (sym h.term.case) (sym h.term.ident)) h.seen)))

  three-there : {n : ℕ} → NotFresh img t n → Memᴰ (row 3 n) (plain_rows img t)
  three-there {n} h =
      let is = is-node h.is_case in
      let u = (ups img t accepted (nodes img) h.case (omega arith) h.is_case.below).1 (subst (λ (k : ℕ). T (stmt_kind k)) (sym h.is_case.kind) tt) in
      let a = applied img t is (sym h.pattern_of) (sym h.applies) (sym h.app_of) (sym h.head_of) (sym h.list_of) in
      let c = ctor-ident img t a.head (sym h.is_ident) (sym h.ctor_of) ∙ h.is_ctor in
      let e = applied-yes img t a refl c ∙ args-inside img t a.args in
      u.1 (row 3 n)
      (subst (Memᴰ (row 3 n)) (sym (case_rows img t false u.0 is))
      (Memᴰ.append_left _
      (subst (Memᴰ (row 3 n)) (sym e)
      (args-among img t h.list (field img h.list 0) 1 h.place h.within (row 3 n)
      (subst (λ (x : ℕ). Memᴰ (row 3 n) (arg_row img t (tree_at img x))) (sym h.argument)
      (there 3 n (arg-ident img t (is-node h.term.node) (sym h.term.case) (sym h.term.ident)) h.seen))))))

  -- row 1 stands at exactly the ident terms of a then-atom that introduce their name, except the defined variable and terms
  -- under Dom, Cod or a member predicate's receiver
  pub row-one : (n : ℕ) → Memᴰ (row 1 n) (plain_rows img t) ↔ Introduced img t n
  row-one n = (λ m. pick ((plain-all img t accepted).just (row 1 n) m), one-there)
    where
      pick : Justified img t (row 1 n) → Introduced img t n
      pick (inl h) = h.1
      pick (inr (inl h)) = absurd (let z = h.0 in omega arith)
      pick (inr (inr h)) = absurd (let z = h.0 in omega arith)

  -- row 2 at exactly the defined-then variables whose name is a Var at the atom's entry
  pub row-two : (n : ℕ) → Memᴰ (row 2 n) (plain_rows img t) ↔ NotNew img t n
  row-two n = (λ m. pick ((plain-all img t accepted).just (row 2 n) m), two-there)
    where
      pick : Justified img t (row 2 n) → NotNew img t n
      pick (inl h) = absurd (let z = h.0 in omega arith)
      pick (inr (inl h)) = h.1
      pick (inr (inr h)) = absurd (let z = h.0 in omega arith)

  -- row 3 at exactly the ident arguments that are a Var at their own entry, directly under a case pattern whose head is an
  -- ident that lookup gives as Ctor
  pub row-three : (n : ℕ) → Memᴰ (row 3 n) (plain_rows img t) ↔ NotFresh img t n
  row-three n = (λ m. pick ((plain-all img t accepted).just (row 3 n) m), three-there)
    where
      pick : Justified img t (row 3 n) → NotFresh img t n
      pick (inl h) = absurd (let z = h.0 in omega arith)
      pick (inr (inl h)) = absurd (let z = h.0 in omega arith)
      pick (inr (inr h)) = h.1

  -- there are no plain rows of another number
  pub plain-numbers : (r : Row) → Memᴰ r (plain_rows img t) → (1 ≤ r.left) × (r.left ≤ 3)
  plain-numbers r m = pick ((plain-all img t accepted).just r m)
    where
      pick : Justified img t r → (1 ≤ r.left) × (r.left ≤ 3)
      pick (inl h) = let z = h.0 in (omega arith, omega arith)
      pick (inr (inl h)) = let z = h.0 in (omega arith, omega arith)
      pick (inr (inr h)) = let z = h.0 in (omega arith, omega arith)

  -- each plain row stands at a Term; so row 1 never stands at an app head
  pub plain-at-term : (r : Row) → Memᴰ r (plain_rows img t) → kind_at img r.right ≡ 12
  plain-at-term r m = pick ((plain-all img t accepted).just r m)
    where
      pick : Justified img t r → kind_at img r.right ≡ 12
      pick (inl h) = h.1.term.node.kind
      pick (inr (inl h)) = h.1.term.node.kind
      pick (inr (inr h)) = h.1.term.node.kind

  pub never-at-head : (n : ℕ) → Memᴰ (row 1 n) (plain_rows img t) → kind_at img n ≡ 15 → ⊥
  never-at-head n m e = let k = plain-at-term (row 1 n) m in omega arith
