-- The trees of an accepted image: the nodes are below N, and what the walk enters as a symbol is a named node of a kind that has
-- a symbol number.
use mathlib.Core.Path.{◌≡◌, refl, sym, ap, subst, ◌∙◌}
use mathlib.Core.Bool.{Bool, true, not, ◌&&◌, false≢true}
use mathlib.Core.List.{List, [], ◌∷◌}
use Prim.Native.Nat.{ℕ, zero, suc, ◌+◌, ◌<◌, ◌≤◌}
use native.Mathlib.Decide.{dec_lt}
use native.Mathlib.Omega.{arith}
use native.Mathlib.Nat.{add-zero}
use lib.Dec.{T, eqb, leb, leb→le, eqb→eq, T_not}
use borrow.Author.Tests.{le-leb}
use Rattle.ast.specs.Declarations.{rule_node, declared, declared_all}
use Rattle.ast.specs.Image.{nodes, kind_at, start_at, op_at, field}
use Rattle.ast.specs.Kinds.{Class, outer, inner, root, decl, signature, rule, enum, model, plain, term, ident, head, head_member, member, case, if_var, defined_then, arg, Kind, kinds, kind_of}
use Rattle.ast.specs.Rows.{after, field_shape, fields_shape, fields_at, shape}
use Rattle.ast.specs.Tests.{verdict}
use Rattle.ast.specs.Tree.{Tree, node, block, Trees, none, ◌◂◌, class_at, tree_at}
use Rattle.ast.proofs.Accepted.{formed}
use Rattle.ast.proofs.Small.{Small, Smalls}
use Rattle.ast.proofs.Unfold.{All, nil, cons, All-append, tree_at-is}
use Rattle.ast.proofs.Vars.{Everywhere, EverywhereAll, everywhere, every-kind, and_both}
use Rattle.sound.specs.Sound.{has_name, is_symbol}
use Rattle.sound.proofs.Sounds.{named-yes, symbol-out, symbol-rule, symbol-arg, symbol-var, symbol-decl}
use Rattle.ast.proofs.Bools.{true-not-false}
use Rattle.ordered.proofs.Moves.{named_by, enters}

-- the kinds of these classes
declares : ℕ → Bool
declares k = leb 2 k && (leb k 9 && not (eqb k 6))

allowed : Class → ℕ → Bool
unfolding declares
allowed (outer root) k = true
allowed (outer decl) k = true
allowed (outer signature) k = declares k
allowed (outer rule) k = eqb k 6
allowed (outer enum) k = declares k
allowed (outer model) k = declares k
allowed (inner plain) k = true
allowed (inner term) k = true
allowed (inner ident) k = eqb k 13
allowed (inner head) k = true
allowed (inner head_member) k = true
allowed (inner member) k = true
allowed (inner case) k = true
allowed (inner if_var) k = true
allowed (inner defined_then) k = true
allowed (inner arg) k = eqb k 10

allows : ℕ → Kind → Bool
unfolding allowed
allows k kd = allowed kd.class k

every-allowed : (k : ℕ) → k ≤ 40 → T (allows k (kind_of k))
unfolding allows kinds
every-allowed k l = every-kind allows tt k l

-- a node of a tree: its number, and that what is entered is a symbol
unfoldable pub Fit : List ℕ → Tree → Type 0
Fit img (block ts) = Unit {0}
Fit img (node n k c sh ts) = (n < nodes img) × (enters c sh ≡ true → is_symbol img n ≡ true)

-- what a declaration declares is symbols
module _ (img : List ℕ) where
  abbrev pub Symbols : List ℕ → Type 0
  Symbols ns = All (λ n. is_symbol img n ≡ true) ns

  rule-symbols : (sh : List ℕ) (n : ℕ) → (named_by sh ≡ true → is_symbol img n ≡ true) → Symbols (rule_node sh n)
  unfolding rule_node named_by
  rule-symbols [] n f = nil
  rule-symbols (zero ∷ sh) n f = nil
  rule-symbols (suc c ∷ sh) n f = cons (f refl) nil

  mutual
    unfolding declared Everywhere Fit enters

    declared-symbols : (u : Tree) → Everywhere (Fit img) u → Symbols (declared u)
    declared-symbols (block ts) q = nil
    declared-symbols (node n k (inner i) sh ts) q = nil
    declared-symbols (node n k (outer root) sh ts) q = nil
    declared-symbols (node n k (outer decl) sh ts) q = declared_all-symbols ts q.1
    declared-symbols (node n k (outer signature) sh ts) q = cons (q.0.1 refl) nil
    declared-symbols (node n k (outer rule) sh ts) q = rule-symbols sh n q.0.1
    declared-symbols (node n k (outer enum) sh ts) q = cons (q.0.1 refl) (declared_all-symbols ts q.1)
    declared-symbols (node n k (outer model) sh ts) q = cons (q.0.1 refl) nil

    pub declared_all-symbols : (us : Trees) → EverywhereAll (Fit img) us → Symbols (declared_all us)
    declared_all-symbols none q = nil
    declared_all-symbols (u ◂ us) q = All-append (declared-symbols u q.0) (declared_all-symbols us q.1)

  mutual
    unfolding Everywhere Fit Small

    fit_small : (u : Tree) → Everywhere (Fit img) u → Small (nodes img) u
    fit_small (node n k c sh ts) q = (q.0.0, fit-smalls ts q.1)
    fit_small (block ts) q = fit-smalls ts q

    pub fit-smalls : (us : Trees) → EverywhereAll (Fit img) us → Smalls (nodes img) us
    fit-smalls none q = tt
    fit-smalls (u ◂ us) q = (fit_small u q.0, fit-smalls us q.1)

-- a symbol is a node
pub symbol-below : (img : List ℕ) (n : ℕ) → is_symbol img n ≡ true → n < nodes img
symbol-below img n s = go (dec_lt n (nodes img))
  where
    go : Dec (n < nodes img) → n < nodes img
    go (yes l) = l
    go (no l) = absurd (true-not-false s (symbol-out img n (omega arith)))

module _ (img : List ℕ) (n : ℕ) (below : n < nodes img) where
  decl-symbol : T (declares (kind_at img n)) → is_symbol img n ≡ true
  unfolding declares
  decl-symbol t =
      let k = kind_at img n in
      let a = and_both (leb 2 k) _ t in
      let b = and_both (leb k 9) _ a.1 in
      let l = leb→le 2 k a.0 in
      let m = leb→le k 9 b.0 in
      symbol-decl img n below (λ e. T_not (eqb k 6) b.1 (subst (λ x. T (eqb x 6)) (sym e) tt)) (λ e. omega arith) (λ e. omega arith) l ∙ le-leb k 9 m

  -- the first word of the shape is the first field's
  shape-six : kind_at img n ≡ 6 → (sh : List ℕ) × (shape img n ≡ elim (field img n 0) [ zero ↦ 0 | suc c ↦ 1 ] ∷ sh)
  unfolding shape fields_at fields_shape field_shape after kind_of kinds field
  shape-six e = (op_at img (start_at img n + 2 + 1) ∷ [], ap (λ (k : ℕ). fields_shape img (kind_of k).fields (start_at img n + 2)) e ∙ ap (λ (p : ℕ). elim (op_at img p) as (λ _. ℕ) [ zero ↦ 0 | suc c ↦ 1 ] ∷ op_at img (start_at img n + 2 + 1) ∷ []) (sym (add-zero (start_at img n + 2))))

  shape-ten : kind_at img n ≡ 10 → (sh : List ℕ) × (shape img n ≡ elim (field img n 0) [ zero ↦ 0 | suc c ↦ 1 ] ∷ sh)
  unfolding shape fields_at fields_shape field_shape after kind_of kinds field
  shape-ten e = ([], ap (λ (k : ℕ). fields_shape img (kind_of k).fields (start_at img n + 2)) e ∙ ap (λ (p : ℕ). elim (op_at img p) as (λ _. ℕ) [ zero ↦ 0 | suc c ↦ 1 ] ∷ []) (sym (add-zero (start_at img n + 2))))

  present : (w : ℕ) (sh : List ℕ) → named_by (elim w [ zero ↦ 0 | suc c ↦ 1 ] ∷ sh) ≡ true → w ≡ 0 → ⊥
  unfolding named_by
  present zero sh e z = false≢true e
  present (suc w) sh e z = omega arith

  has : (q : (sh : List ℕ) × (shape img n ≡ elim (field img n 0) [ zero ↦ 0 | suc c ↦ 1 ] ∷ sh)) → named_by (shape img n) ≡ true → has_name img n ≡ true
  has q e = named-yes img n (present (field img n 0) q.0 (ap named_by (sym q.1) ∙ e))

  class-symbol : (c : Class) → T (allowed c (kind_at img n)) → enters c (shape img n) ≡ true → is_symbol img n ≡ true
  unfolding enters allowed
  class-symbol (outer root) t e = absurd (false≢true e)
  class-symbol (outer decl) t e = absurd (false≢true e)
  class-symbol (outer signature) t e = decl-symbol t
  class-symbol (outer rule) t e = let k = eqb→eq (kind_at img n) 6 t in symbol-rule img n below k ∙ has (shape-six k) e
  class-symbol (outer enum) t e = decl-symbol t
  class-symbol (outer model) t e = decl-symbol t
  class-symbol (inner plain) t e = absurd (false≢true e)
  class-symbol (inner term) t e = absurd (false≢true e)
  class-symbol (inner ident) t e = let k = eqb→eq (kind_at img n) 13 t in symbol-var img n below k
  class-symbol (inner head) t e = absurd (false≢true e)
  class-symbol (inner head_member) t e = absurd (false≢true e)
  class-symbol (inner member) t e = absurd (false≢true e)
  class-symbol (inner case) t e = absurd (false≢true e)
  class-symbol (inner if_var) t e = absurd (false≢true e)
  class-symbol (inner defined_then) t e = absurd (false≢true e)
  class-symbol (inner arg) t e = let k = eqb→eq (kind_at img n) 10 t in symbol-arg img n below k ∙ has (shape-ten k) e

module _ (img : List ℕ) (accepted : verdict img ≡ 0) where
  fit_at : (n : ℕ) → n < nodes img → Fit img (tree_at img n)
  unfolding Fit allows class_at
  fit_at n h =
      let f = formed img accepted in
      subst (Fit img) (sym (tree_at-is img f n h)) (h, class-symbol img n h (class_at img n) (every-allowed (kind_at img n) (f.each n h).kind))

  pub tree-fits : (n : ℕ) → n < nodes img → Everywhere (Fit img) (tree_at img n)
  tree-fits n h = everywhere (Fit img) img (formed img accepted) fit_at n h
