-- A walk never lowers the counts of the table, and keeps its rows.
use mathlib.Core.Path.{◌≡◌, refl, ◌∙◌}
use mathlib.Core.Bool.{Bool, true, false}
use mathlib.Core.List.{List, [], ◌∷◌}
use lib.ListN.{length}
use Prim.Native.Nat.{ℕ, zero, suc, ◌+◌, ◌<◌, ◌≤◌}
use native.Mathlib.Omega.{arith}
use Rattle.ast.specs.Image.{nodes, name_of}
use Rattle.ast.specs.Kinds.{outer, inner, plain, term, ident, head, head_member, member, case, if_var, defined_then, arg}
use Rattle.ast.specs.Tree.{Tree, node, block, Trees, none, ◌◂◌}
use Rattle.table.specs.Layout.{all_ones}
use Rattle.table.specs.Rising.{scope_of}
use Rattle.table.specs.State.{Walked, introduce, child_scope, own_symbol, marked, unmarked, back}
use Rattle.table.specs.Table.{lookup, is_kind, is_value, mark, new_scope, new_symbol}
use Rattle.ast.proofs.Small.{Small, Smalls}
use Rattle.ordered.specs.Walk.{Role, occurs, declares, names, defines, walk_ident, head_role, walk_arg, walk, walk_seq, walk_first}
use Rattle.ordered.specs.Promises.{Few}
use Rattle.table.specs.Kept.{Kept}
use Rattle.table.proofs.Kept.{past, mark-past, scope-past, symbol-past, mark-kept, scope_kept, symbol-kept, mark-length, scope-length, symbol-length, mark-rows, scope-rows, symbol-rows}

-- from e to f, whose counts are within the arrays: the rows of e stay, so do the words past the table, and what is kept of a
-- table is kept
pub record Grows (img : List ℕ) (e f : Walked) : Type 0 where
  pub scopes : e.table.scopes ≤ f.table.scopes
  pub symbols : e.table.symbols ≤ f.table.symbols
  pub long : length f.table.words ≡ length e.table.words
  pub rows : Few img f.table → (j : ℕ) → j < e.table.symbols → scope_of (nodes img) f.table.words j ≡ scope_of (nodes img) e.table.words j
  pub passed : Few img f.table → past img f.table ≡ past img e.table
  pub kept : Few img f.table → Kept img e.table → Kept img f.table

pub few-below : {img : List ℕ} {e f : Walked} → Grows img e f → Few img f.table → Few img e.table
few-below h q = let a = h.scopes in let b = h.symbols in record { scopes = omega arith; symbols = omega arith }

pub stays : {img : List ℕ} (e : Walked) → Grows img e e
stays e = record { scopes = omega arith; symbols = omega arith; long = refl; rows = λ q j l. refl; passed = λ q. refl; kept = λ q s. s }

pub further : {img : List ℕ} {e f g : Walked} → Grows img e f → Grows img f g → Grows img e g
further h k =
    record {
      scopes = (let a = h.scopes in let b = k.scopes in omega arith);
      symbols = (let a = h.symbols in let b = k.symbols in omega arith);
      long = k.long ∙ h.long;
      rows = λ q j l. k.rows q j (let a = h.symbols in omega arith) ∙ h.rows (few-below k q) j l;
      passed = λ q. k.passed q ∙ h.passed (few-below k q);
      kept = λ q s. k.kept q (h.kept (few-below k q) s);
    }

module _ (img : List ℕ) where
  pub introduces : (n : ℕ) (e : Walked) → Grows img e (introduce img n e)
  unfolding introduce child_scope own_symbol new_scope new_symbol
  introduces n e =
      record {
        scopes = omega arith;
        symbols = omega arith;
        long = symbol-length img e.table.scopes n (new_scope img e.scope e.table) ∙ scope-length img e.scope e.table;
        rows = λ q j l. symbol-rows img e.table.scopes n (new_scope img e.scope e.table) j l ∙ scope-rows img e.scope e.table (let a = q.scopes in omega arith) j;
        passed = λ q. symbol-past img e.table.scopes n (new_scope img e.scope e.table) (let a = q.symbols in omega arith) ∙ scope-past img e.scope e.table (let a = q.scopes in omega arith);
        kept = λ q s. symbol-kept img e.table.scopes n (new_scope img e.scope e.table) (let a = q.symbols in omega arith) (let z : suc e.table.scopes ≡ e.table.scopes + 1 = omega arith in z) (scope_kept img e.scope e.table (let a = q.scopes in omega arith) s);
      }

  marks : {n : ℕ} → n < nodes img → (a b s : ℕ) (e : Walked) → Grows img e (record { scope = s; table = mark img n a b e.table })
  unfolding mark
  marks {n} h a b s e =
      record { scopes = omega arith; symbols = omega arith; long = mark-length img n a b e.table; rows = λ q j l. mark-rows img n a b e.table h j; passed = λ q. mark-past img n a b e.table h; kept = λ q d. mark-kept img n a b e.table h d }

  pick-grows : (b : Bool) (n : ℕ) (e : Walked) → Grows img e (elim b [ true ↦ e | false ↦ introduce img n e ])
  pick-grows true n e = stays e
  pick-grows false n e = introduces n e

  pub ident-grows : (r : Role) (n : ℕ) (e : Walked) → Grows img e (walk_ident img r n e)
  unfolding walk_ident
  ident-grows occurs n e = pick-grows (is_value img (lookup img e.table e.scope (name_of img n))) n e
  ident-grows declares n e = pick-grows (is_kind img 13 (lookup img e.table e.scope (name_of img n))) n e
  ident-grows names n e = stays e
  ident-grows (defines b) n e = pick-grows (is_kind img 13 (lookup img e.table b (name_of img n))) n e

  pub marked-grows : {n : ℕ} → n < nodes img → (cur : ℕ) {e f : Walked} → Grows img e f → Grows img e (marked img n cur f)
  unfolding marked
  marked-grows l cur {e} {f} h = further h (marks l cur f.scope f.scope f)

  pub unmarked-grows : {n : ℕ} → n < nodes img → {e f : Walked} → Grows img e f → Grows img e (unmarked img n f)
  unfolding unmarked
  unmarked-grows l {e} {f} h = further h (marks l all_ones all_ones f.scope f)

  pub back-grows : (cur : ℕ) {e f : Walked} → Grows img e f → Grows img e (back img cur f)
  back-grows cur h = record { scopes = h.scopes; symbols = h.symbols; long = h.long; rows = h.rows; passed = h.passed; kept = h.kept }

  pub arg-grows : (n : ℕ) (sh : List ℕ) {e f : Walked} → Grows img e f → Grows img e (walk_arg img n sh f)
  unfolding walk_arg
  arg-grows n [] h = h
  arg-grows n (zero ∷ sh) h = h
  arg-grows n (suc c ∷ sh) h = further h (introduces n _)

  mutual
    unfolding walk Small

    pub walk-grows : (r : Role) (u : Tree) → Small (nodes img) u → (e : Walked) → Grows img e (walk img r u e)
    walk-grows r (block ts) q e = back-grows e.scope (seq-grows occurs ts q e)
    walk-grows r (node n k (outer o) sh ts) q e = stays e
    walk-grows r (node n k (inner plain) sh ts) q e = marked-grows q.0 e.scope (seq-grows occurs ts q.1 e)
    walk-grows r (node n k (inner term) sh ts) q e = marked-grows q.0 e.scope (seq-grows r ts q.1 e)
    walk-grows r (node n k (inner ident) sh ts) q e = marked-grows q.0 e.scope (ident-grows r n e)
    walk-grows r (node n k (inner head) sh ts) q e = marked-grows q.0 e.scope (seq-grows (head_role img sh) ts q.1 e)
    walk-grows r (node n k (inner member) sh ts) q e = marked-grows q.0 e.scope (first-grows names ts q.1 e)
    walk-grows r (node n k (inner head_member) sh ts) q e = unmarked-grows q.0 (first-grows names ts q.1 e)
    walk-grows r (node n k (inner case) sh ts) q e = marked-grows q.0 e.scope (back-grows e.scope (seq-grows occurs ts q.1 e))
    walk-grows r (node n k (inner if_var) sh ts) q e = marked-grows q.0 e.scope (first-grows declares ts q.1 e)
    walk-grows r (node n k (inner defined_then) sh ts) q e = marked-grows q.0 e.scope (first-grows (defines e.scope) ts q.1 e)
    walk-grows r (node n k (inner arg) sh ts) q e = marked-grows q.0 e.scope (arg-grows n sh (seq-grows occurs ts q.1 e))

    pub seq-grows : (r : Role) (us : Trees) → Smalls (nodes img) us → (e : Walked) → Grows img e (walk_seq img r us e)
    seq-grows r none q e = stays e
    seq-grows r (u ◂ us) q e = further (walk-grows r u q.0 e) (seq-grows r us q.1 (walk img r u e))

    pub first-grows : (r : Role) (us : Trees) → Smalls (nodes img) us → (e : Walked) → Grows img e (walk_first img r us e)
    first-grows r none q e = stays e
    first-grows r (u ◂ us) q e = further (walk-grows occurs u q.0 e) (seq-grows r us q.1 (walk img occurs u e))
