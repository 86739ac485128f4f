-- The ordered part of document 01's walk: argument lists and rule bodies.
use Rattle.std.proofs.Math.Bool.{true, false}
use mathlib.Core.List.{List, [], ◌∷◌}
use Rattle.std.specs.Prelude.{ℕ, zero, suc}
use Rattle.ast.specs.Image.{name_of}
use Rattle.ast.specs.Kinds.{outer, inner, plain, term, ident, head, head_member, member, case, if_var, defined_then, arg}
use Rattle.ast.specs.Tree.{Tree, node, block, Trees, none, ◌◂◌}
use Rattle.table.specs.Table.{lookup, is_kind, is_var, is_value}
use Rattle.table.specs.State.{Walked, introduce, marked, unmarked, back}

-- what an IdentTerm does at its place: an ordinary term, an if-var, a defined-then variable (with the scope before the
-- atom's term), or a name that introduces nothing: an app head's or a member's
pub data Role : Type 0 where
  occurs declares names : Role
  defines : ℕ → Role

module _ (img : List ℕ) where
  unfoldable pub walk_ident : Role → ℕ → Walked → Walked
  unfolding lookup is_kind is_value introduce
  walk_ident occurs i e = elim (is_value img (lookup img e.table e.scope (name_of img i))) [ true ↦ e | false ↦ introduce img i e ]
  walk_ident declares i e = elim (is_var img (lookup img e.table e.scope (name_of img i))) [ true ↦ e | false ↦ introduce img i e ]
  walk_ident (defines before) i e = elim (is_var img (lookup img e.table before (name_of img i))) [ true ↦ e | false ↦ introduce img i e ]
  walk_ident names i e = e

  unfoldable pub head_role : List ℕ → Role
  head_role [] = occurs
  head_role (zero ∷ _) = names
  head_role (suc c ∷ _) = occurs

  unfoldable pub walk_arg : ℕ → List ℕ → Walked → Walked
  unfolding introduce
  walk_arg n [] e = e
  walk_arg n (zero ∷ _) e = e
  walk_arg n (suc c ∷ _) e = introduce img n e

  unfoldable mutual
    unfolding walk_ident marked unmarked head_role walk_arg

    pub walk : Role → Tree → Walked → Walked
    walk r (block ts) e = back img e.scope (walk_seq occurs ts e)
    walk r (node n k (outer o) sh ts) e = e
    walk r (node n k (inner plain) sh ts) e = marked img n e.scope (walk_seq occurs ts e)
    walk r (node n k (inner term) sh ts) e = marked img n e.scope (walk_seq r ts e)
    walk r (node n k (inner ident) sh ts) e = marked img n e.scope (walk_ident r n e)
    walk r (node n k (inner head) sh ts) e = marked img n e.scope (walk_seq (head_role sh) ts e)
    walk r (node n k (inner member) sh ts) e = marked img n e.scope (walk_first names ts e)
    walk r (node n k (inner head_member) sh ts) e = unmarked img n (walk_first names ts e)
    walk r (node n k (inner case) sh ts) e = marked img n e.scope (back img e.scope (walk_seq occurs ts e))
    walk r (node n k (inner if_var) sh ts) e = marked img n e.scope (walk_first declares ts e)
    walk r (node n k (inner defined_then) sh ts) e = marked img n e.scope (walk_first (defines e.scope) ts e)
    walk r (node n k (inner arg) sh ts) e = marked img n e.scope (walk_arg n sh (walk_seq occurs ts e))

    -- one after another, each from where the one before ends
    pub walk_seq : Role → Trees → Walked → Walked
    walk_seq r none e = e
    walk_seq r (u ◂ us) e = walk_seq r us (walk r u e)

    -- the first for itself, then the others in the given role
    pub walk_first : Role → Trees → Walked → Walked
    walk_first r none e = e
    walk_first r (u ◂ us) e = walk_seq r us (walk occurs u e)
