-- A walk raises each count by at most the number of nodes of the tree, and leaves at a scope that is there.
use mathlib.Core.Bool.{Bool, true, false}
use mathlib.Core.List.{List, [], ◌∷◌}
use Prim.Native.Nat.{ℕ, zero, suc, ◌+◌, ◌≤◌, ◌<◌}
use native.Mathlib.Omega.{arith}
use Rattle.ast.specs.Image.{name_of}
use Rattle.ast.specs.Kinds.{outer, inner, plain, term, ident, head, head_member, member, case, if_var, defined_then, arg}
use Rattle.ast.specs.Tree.{Tree, node, block, Trees, none, ◌◂◌, size, sizes}
use Rattle.table.specs.State.{Walked, introduce, child_scope, own_symbol, marked, unmarked, back}
use Rattle.table.specs.Table.{lookup, is_kind, is_value, mark, new_scope, new_symbol}
use Rattle.ordered.specs.Walk.{Role, occurs, declares, names, defines, walk_ident, head_role, walk_arg, walk, walk_seq, walk_first}

-- f is e with at most k scopes and k symbols more
pub record Within (k : ℕ) (e f : Walked) : Type 0 where
  pub scopes : f.table.scopes ≤ e.table.scopes + k
  pub symbols : f.table.symbols ≤ e.table.symbols + k
  pub more : e.table.scopes ≤ f.table.scopes
  pub live : e.scope < e.table.scopes → f.scope < f.table.scopes

keep : (e : Walked) → Within 0 e e
keep e = record { scopes = omega arith; symbols = omega arith; more = omega arith; live = λ h. h }

wider : {k l : ℕ} {e f : Walked} → k ≤ l → Within k e f → Within l e f
wider h w = record { scopes = omega arith; symbols = omega arith; more = w.more; live = w.live }

then : {k l : ℕ} {e f g : Walked} → Within k e f → Within l f g → Within (k + l) e g
then v w = record { scopes = omega arith; symbols = omega arith; more = omega arith; live = λ h. w.live (v.live h) }

module _ (img : List ℕ) where
  introduces : (n : ℕ) (e : Walked) → Within 1 e (introduce img n e)
  unfolding introduce child_scope own_symbol new_scope new_symbol
  introduces n e = record { scopes = omega arith; symbols = omega arith; more = omega arith; live = λ h. omega arith }

  pick : (b : Bool) (n : ℕ) (e : Walked) → Within 1 e (elim b [ true ↦ e | false ↦ introduce img n e ])
  pick true n e = wider (omega arith) (keep e)
  pick false n e = introduces n e

  in-ident : (r : Role) (n : ℕ) (e : Walked) → Within 1 e (walk_ident img r n e)
  unfolding walk_ident
  in-ident occurs n e = pick (is_value img (lookup img e.table e.scope (name_of img n))) n e
  in-ident declares n e = pick (is_kind img 13 (lookup img e.table e.scope (name_of img n))) n e
  in-ident names n e = wider (omega arith) (keep e)
  in-ident (defines b) n e = pick (is_kind img 13 (lookup img e.table b (name_of img n))) n e

  in-marked : (n cur : ℕ) {k : ℕ} {e f : Walked} → Within k e f → Within k e (marked img n cur f)
  unfolding marked mark
  in-marked n cur w = record { scopes = w.scopes; symbols = w.symbols; more = w.more; live = w.live }

  in-unmarked : (n : ℕ) {k : ℕ} {e f : Walked} → Within k e f → Within k e (unmarked img n f)
  unfolding unmarked mark
  in-unmarked n w = record { scopes = w.scopes; symbols = w.symbols; more = w.more; live = w.live }

  -- back in the scope of e
  in-back : {k : ℕ} {e f : Walked} → Within k e f → Within k e (back img e.scope f)
  in-back w = record { scopes = w.scopes; symbols = w.symbols; more = w.more; live = λ h. let m = w.more in omega arith }

  one_less : {k : ℕ} {e f : Walked} → Within k e f → Within (suc k) e f
  one_less w = wider (omega arith) w

  in-arg : (n : ℕ) (sh : List ℕ) {k : ℕ} {e f : Walked} → Within k e f → Within (suc k) e (walk_arg img n sh f)
  unfolding walk_arg
  in-arg n [] w = one_less w
  in-arg n (zero ∷ sh) w = one_less w
  in-arg n (suc c ∷ sh) w = wider (omega arith) (then w (introduces n _))

  mutual
    unfolding walk size

    pub walk-within : (r : Role) (u : Tree) (e : Walked) → Within (size u) e (walk img r u e)
    walk-within r (block ts) e = in-back (seq-within occurs ts e)
    walk-within r (node n k (outer o) sh ts) e = wider (omega arith) (keep e)
    walk-within r (node n k (inner plain) sh ts) e = in-marked n e.scope (one_less (seq-within occurs ts e))
    walk-within r (node n k (inner term) sh ts) e = in-marked n e.scope (one_less (seq-within r ts e))
    walk-within r (node n k (inner ident) sh ts) e = in-marked n e.scope (wider (omega arith) (in-ident r n e))
    walk-within r (node n k (inner head) sh ts) e = in-marked n e.scope (one_less (seq-within (head_role img sh) ts e))
    walk-within r (node n k (inner member) sh ts) e = in-marked n e.scope (one_less (first-within names ts e))
    walk-within r (node n k (inner head_member) sh ts) e = in-unmarked n (one_less (first-within names ts e))
    walk-within r (node n k (inner case) sh ts) e = in-marked n e.scope (one_less (in-back (seq-within occurs ts e)))
    walk-within r (node n k (inner if_var) sh ts) e = in-marked n e.scope (one_less (first-within declares ts e))
    walk-within r (node n k (inner defined_then) sh ts) e = in-marked n e.scope (one_less (first-within (defines e.scope) ts e))
    walk-within r (node n k (inner arg) sh ts) e = in-marked n e.scope (in-arg n sh (seq-within occurs ts e))

    pub seq-within : (r : Role) (us : Trees) (e : Walked) → Within (sizes us) e (walk_seq img r us e)
    seq-within r none e = keep e
    seq-within r (u ◂ us) e = then (walk-within r u e) (seq-within r us (walk img r u e))

    pub first-within : (r : Role) (us : Trees) (e : Walked) → Within (sizes us) e (walk_first img r us e)
    first-within r none e = keep e
    first-within r (u ◂ us) e = then (walk-within occurs u e) (seq-within r us (walk img occurs u e))
