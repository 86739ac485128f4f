-- Where rows 1 are not asked for, no term, type expression, predicate expression or if-atom gives a row: not below Dom,
-- Cod or a member predicate's receiver, and not in an if statement or a matched term.
use mathlib.Core.Path.{◌≡◌, refl, sym, ap, subst, ◌∙◌}
use mathlib.Core.Bool.{Bool, true, false, ◌&&◌, ◌||◌, not}
use mathlib.Core.List.{List, [], ◌∷◌, ◌++◌}
use Prim.Native.Nat.{ℕ, zero, suc, ◌<◌, ◌≤◌}
use lib.Dec.{T, eqb, leb}
use Rattle.ast.specs.Image.{nodes, kind_at}
use Rattle.ast.specs.Kinds.{Class, outer, inner, plain, term, ident, head, head_member, member, case, if_var, defined_then, arg, Kind, kinds, kind_of}
use Rattle.ast.specs.Tests.{verdict}
use Rattle.ast.specs.Rows.{shape}
use Rattle.ast.specs.Tree.{Tree, node, block, Trees, none, ◌◂◌, class_at, tree_at}
use Rattle.ast.proofs.ByKind.{kids_at, low-kind, by-kinds}
use Rattle.ast.proofs.Vars.{every-kind, Each, and_both}
use Rattle.table.specs.Table.{Table}
use Rattle.rows.specs.Rows.{Row}
use Rattle.ast.proofs.Bools.{not-or, is_false}
use Rattle.bindings.specs.Errors.{introduced_row, rows_of, rows_seq, rows_first}
use Rattle.error.specs.Kinds.{asked}

-- the kinds from Term to IfAtom, the atoms but DefinedThenAtom, and IfStmt
abbrev quiet_kind : ℕ → Bool
quiet_kind k = (leb 12 k && leb k 28) || ((leb 30 k && leb k 33) || eqb k 37)

abbrev quiet_class : Class → Bool
quiet_class (outer o) = false
quiet_class (inner plain) = true
quiet_class (inner term) = true
quiet_class (inner ident) = true
quiet_class (inner head) = true
quiet_class (inner head_member) = true
quiet_class (inner member) = true
quiet_class (inner case) = false
quiet_class (inner if_var) = true
quiet_class (inner defined_then) = false
quiet_class (inner arg) = false

-- rows 1 are not asked for below them
abbrev unasked : ℕ → Kind → Bool
unasked k kd = not (quiet_kind k) || (not (asked k false) && quiet_class kd.class)

unasked-kinds : (k : ℕ) → k ≤ 40 → T (unasked k (kind_of k))
unfolding kinds asked
unasked-kinds k l = every-kind unasked tt k l

module _ (img : List ℕ) (t : Table) where
  -- no row, whatever the node above
  abbrev Silent : Tree → Type 0
  Silent u = (o : ℕ) → rows_of img t false o u ≡ []

  silent-seq : (ts : Trees) (o : ℕ) → Each Silent ts → rows_seq img t false o ts ≡ []
  unfolding rows_of Each
  silent-seq none o h = refl
  silent-seq (u ◂ us) o h = ap (λ (l : List Row). l ++ rows_seq img t false o us) (h.0 o) ∙ silent-seq us o h.1

  silent-first : (ts : Trees) (o : ℕ) → Each Silent ts → rows_first img t false o ts ≡ []
  unfolding rows_of Each
  silent-first none o h = refl
  silent-first (u ◂ us) o h = h.0 o

  silent-block : (ts : Trees) → Each Silent ts → Silent (block ts)
  unfolding rows_of
  silent-block ts h o = silent-seq ts o h

  -- a node of a quiet kind over silent children
  silent-node : (n k : ℕ) (c : Class) (sh : List ℕ) (ts : Trees) → asked k false ≡ false → T (quiet_class c) → Each Silent ts → Silent (node n k c sh ts)
  unfolding rows_of introduced_row
  silent-node n k (outer c) sh ts e q h o = absurd q
  silent-node n k (inner plain) sh ts e q h o = ap (λ (a : Bool). rows_seq img t a n ts) e ∙ silent-seq ts n h
  silent-node n k (inner term) sh ts e q h o = silent-seq ts n h
  silent-node n k (inner ident) sh ts e q h o = refl
  silent-node n k (inner head) [] ts e q h o = refl
  silent-node n k (inner head) (zero ∷ sh) ts e q h o = refl
  silent-node n k (inner head) (suc x ∷ sh) ts e q h o = silent-seq ts n h
  silent-node n k (inner head_member) sh ts e q h o = silent-first ts n h
  silent-node n k (inner member) sh ts e q h o = silent-first ts n h
  silent-node n k (inner case) sh ts e q h o = absurd q
  silent-node n k (inner if_var) sh ts e q h o = refl
  silent-node n k (inner defined_then) sh ts e q h o = absurd q
  silent-node n k (inner arg) sh ts e q h o = absurd q

  -- no row at all
  pub quiet : verdict img ≡ 0 → {n k : ℕ} (o : ℕ) → n < nodes img → kind_at img n ≡ k → T (quiet_kind k) → rows_of img t false o (tree_at img n) ≡ []
  unfolding kinds
  quiet accepted {n} o l e q = by-kinds img accepted Silent silent-block quiet_kind tt step n l (subst (λ (i : ℕ). T (quiet_kind i)) (sym e) q) o
    where
      step : (n : ℕ) → n < nodes img → T (quiet_kind (kind_at img n)) → Each Silent (kids_at img n) → Silent (node n (kind_at img n) (class_at img n) (shape img n) (kids_at img n))
      step n l q h = unfold class_at in
          let c = (kind_of (kind_at img n)).class in
          let r = and_both (not (asked (kind_at img n) false)) (quiet_class c) (not-or (quiet_kind (kind_at img n)) (not (asked (kind_at img n) false) && quiet_class c) q (unasked-kinds (kind_at img n) (low-kind img accepted n l))) in
          silent-node n (kind_at img n) c (shape img n) (kids_at img n) (is_false (asked (kind_at img n) false) r.0) r.1 h
