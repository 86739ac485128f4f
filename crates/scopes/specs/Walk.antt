-- The unordered part of document 01's walk: the names of a declaration list, then its declarations; and the module.
use mathlib.Core.List.{List, [], ◌∷◌, ◌++◌}
use Rattle.std.proofs.Math.Option.{none as nothing, some}
use Rattle.std.specs.Prelude.{ℕ}
use Rattle.ast.specs.Declarations.{declared_all}
use Rattle.ast.specs.Image.{name_of}
use Rattle.ast.specs.Kinds.{outer, inner, root, decl, signature, rule, enum, model}
use Rattle.ast.specs.Tree.{Tree, node, block, Trees, none, ◌◂◌}
use Rattle.table.specs.Layout.{all_ones}
use Rattle.table.specs.Table.{Table, new_scope, find}
use Rattle.table.specs.State.{Walked, child_scope, own_symbol, marked, back}
use Rattle.ordered.specs.Walk.{occurs, walk_seq}

-- what a declaration list gives: where the walk stands after it, or the first name declared twice
pub data Listed : Type 0 where
  done : Walked → Listed
  twice : (name first second : ℕ) → Listed

-- the nodes that record the scope of the list they stand in: kinds 1 to 7 and 9
unfoldable mutual
  pub recorded : Tree → List ℕ
  recorded (block ts) = []
  recorded (node n k (inner i) sh ts) = []
  recorded (node n k (outer root) sh ts) = []
  recorded (node n k (outer decl) sh ts) = n ∷ recorded_all ts
  recorded (node n k (outer signature) sh ts) = n ∷ []
  recorded (node n k (outer rule) sh ts) = n ∷ []
  recorded (node n k (outer enum) sh ts) = n ∷ recorded_all ts
  recorded (node n k (outer model) sh ts) = []

  pub recorded_all : Trees → List ℕ
  recorded_all none = []
  recorded_all (u ◂ us) = recorded u ++ recorded_all us

module _ (img : List ℕ) where
  unfoldable pub enter_name : ℕ → Walked → Listed
  unfolding find own_symbol
  enter_name n e =
      elim (find img e.table e.scope (name_of img n)) [
        | nothing ↦ done (own_symbol img n e)
        | some first ↦ twice (name_of img n) first n
      ]

  unfoldable pub and_then : Listed → (Walked → Listed) → Listed
  and_then (done e) f = f e
  and_then (twice x a b) f = twice x a b

  -- the names of the nodes, one after another
  unfoldable pub enter_names : List ℕ → Walked → Listed
  unfolding enter_name and_then
  enter_names [] e = done e
  enter_names (n ∷ ns) e = and_then (enter_name n e) (λ f. enter_names ns f)

  -- each of the nodes with the scope that the walk stands in
  unfoldable pub mark_all : List ℕ → Walked → Walked
  unfolding marked
  mark_all [] e = e
  mark_all (n ∷ ns) e = mark_all ns (marked img n e.scope e)

  -- a declaration list in the scope that the walk stands in: its nodes record the scope, and all its names are entered
  unfoldable pub enter_all : Trees → Walked → Listed
  enter_all us e = enter_names (declared_all us) (mark_all (recorded_all us) e)

  -- the declarations themselves; what a signature or a rule adds is dropped
  unfoldable mutual
    unfolding walk_seq and_then child_scope marked

    pub visit : Tree → Walked → Listed
    visit (block ts) e = done e
    visit (node n k (inner i) sh ts) e = done e
    visit (node n k (outer root) sh ts) e = done e
    visit (node n k (outer decl) sh ts) e = visit_all ts e
    visit (node n k (outer signature) sh ts) e = done (back img e.scope (walk_seq img occurs ts e))
    visit (node n k (outer rule) sh ts) e = done (back img e.scope (walk_seq img occurs ts e))
    visit (node n k (outer enum) sh ts) e = visit_all ts e
    visit (node n k (outer model) sh ts) e =
        and_then (and_then (enter_all ts (marked img n e.table.scopes (child_scope img e))) (λ f. visit_all ts f)) (λ f. done (back img e.scope f))

    pub visit_all : Trees → Walked → Listed
    visit_all none e = done e
    visit_all (u ◂ us) e = and_then (visit u e) (λ f. visit_all us f)

  unfoldable pub resolve_tree : Tree → Table → Listed
  unfolding visit_all new_scope marked and_then
  resolve_tree (block ts) t = done (record { scope = 0; table = t })
  resolve_tree (node n k c sh ts) t =
      and_then (enter_all ts (marked img n 0 (record { scope = 0; table = new_scope img all_ones t }))) (λ f. visit_all ts f)
