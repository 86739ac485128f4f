-- The steps of a walk: it marks its nodes, and adds scopes with one symbol each.
use mathlib.Core.Path.{◌≡◌, refl}
use mathlib.Core.Bool.{Bool, true, false}
use mathlib.Core.List.{List, [], ◌∷◌, ◌++◌}
use Prim.Native.Nat.{ℕ, zero, suc, ◌≤◌}
use native.Mathlib.Omega.{arith}
use Rattle.ast.specs.Image.{name_of}
use Rattle.ast.specs.Kinds.{Class, outer, inner, root, decl, signature, rule, enum, model, plain, term, ident, head, head_member, member, case, if_var, defined_then, arg}
use Rattle.ast.specs.Tree.{Tree, node, block, Trees, none, ◌◂◌}
use Rattle.ast.proofs.Vars.{Everywhere, EverywhereAll}
use Rattle.table.specs.Layout.{all_ones}
use Rattle.table.specs.State.{Walked, introduce, back}
use Rattle.table.specs.Table.{lookup, is_kind, is_value, mark}
use Rattle.ordered.specs.Walk.{Role, occurs, declares, names, defines, walk_ident, head_role, walk_arg, walk, walk_seq, walk_first}

-- the nodes that the walk marks, in its order
unfoldable mutual
  pub numbers : Tree → List ℕ
  numbers (block ts) = numbers_seq ts
  numbers (node n k (outer c) sh ts) = []
  numbers (node n k (inner plain) sh ts) = numbers_seq ts ++ (n ∷ [])
  numbers (node n k (inner term) sh ts) = numbers_seq ts ++ (n ∷ [])
  numbers (node n k (inner ident) sh ts) = n ∷ []
  numbers (node n k (inner head) sh ts) = numbers_seq ts ++ (n ∷ [])
  numbers (node n k (inner head_member) sh ts) = numbers_seq ts ++ (n ∷ [])
  numbers (node n k (inner member) sh ts) = numbers_seq ts ++ (n ∷ [])
  numbers (node n k (inner case) sh ts) = numbers_seq ts ++ (n ∷ [])
  numbers (node n k (inner if_var) sh ts) = numbers_seq ts ++ (n ∷ [])
  numbers (node n k (inner defined_then) sh ts) = numbers_seq ts ++ (n ∷ [])
  numbers (node n k (inner arg) sh ts) = numbers_seq ts ++ (n ∷ [])

  pub numbers_seq : Trees → List ℕ
  numbers_seq none = []
  numbers_seq (u ◂ us) = numbers u ++ numbers_seq us

-- an optional name, by the shape
unfoldable pub named_by : List ℕ → Bool
named_by [] = false
named_by (zero ∷ sh) = false
named_by (suc c ∷ sh) = true

-- the walk enters the node as a symbol
unfoldable pub enters : Class → List ℕ → Bool
unfolding named_by
enters (outer root) sh = false
enters (outer decl) sh = false
enters (outer signature) sh = true
enters (outer rule) sh = named_by sh
enters (outer enum) sh = true
enters (outer model) sh = true
enters (inner plain) sh = false
enters (inner term) sh = false
enters (inner ident) sh = true
enters (inner head) sh = false
enters (inner head_member) sh = false
enters (inner member) sh = false
enters (inner case) sh = false
enters (inner if_var) sh = false
enters (inner defined_then) sh = false
enters (inner arg) sh = named_by sh

module _ (img : List ℕ) (M A : ℕ → Type 0) where
  -- with the nodes marked, each of which has M; a node that is added as a symbol has A
  pub data Moves : List ℕ → Walked → Walked → Type 0 where
    stay : {e : Walked} → Moves [] e e
    next : {ns ms : List ℕ} {e f g : Walked} → Moves ns e f → Moves ms f g → Moves (ns ++ ms) e g
    marks : {e : Walked} (n c x : ℕ) → M n → Moves (n ∷ []) e (record { scope = e.scope; table = mark img n c x e.table })
    adds : {e : Walked} (n : ℕ) → A n → Moves [] e (introduce img n e)
    drops : {ns : List ℕ} {e f : Walked} → Moves ns e f → Moves ns e (back img e.scope f)

  pub rises : {ns : List ℕ} {e f : Walked} → Moves ns e f → (e.table.scopes ≤ f.table.scopes) × (e.table.symbols ≤ f.table.symbols)
  unfolding mark introduce
  rises stay = (omega arith, omega arith)
  rises (next m n) = let a = rises m in let b = rises n in (omega arith, omega arith)
  rises (marks n c x h) = (omega arith, omega arith)
  rises (adds n h) = (omega arith, omega arith)
  rises (drops m) = rises m

  picks : (b : Bool) (n : ℕ) (e : Walked) → A n → Moves [] e (elim b [ true ↦ e | false ↦ introduce img n e ])
  picks true n e h = stay
  picks false n e h = adds n h

  ident-moves : (r : Role) (n : ℕ) (e : Walked) → A n → Moves [] e (walk_ident img r n e)
  unfolding walk_ident
  ident-moves occurs n e h = picks (is_value img (lookup img e.table e.scope (name_of img n))) n e h
  ident-moves declares n e h = picks (is_kind img 13 (lookup img e.table e.scope (name_of img n))) n e h
  ident-moves names n e h = stay
  ident-moves (defines b) n e h = picks (is_kind img 13 (lookup img e.table b (name_of img n))) n e h

  arg-moves : (n : ℕ) (sh : List ℕ) (e : Walked) → (named_by sh ≡ true → A n) → Moves [] e (walk_arg img n sh e)
  unfolding walk_arg named_by
  arg-moves n [] e h = stay
  arg-moves n (zero ∷ sh) e h = stay
  arg-moves n (suc c ∷ sh) e h = adds n (h refl)

  -- over trees whose nodes have M, and A where the walk enters them
  module _ (P : Tree → Type 0) (known : (n k : ℕ) (c : Class) (sh : List ℕ) (ts : Trees) → P (node n k c sh ts) → M n × (enters c sh ≡ true → A n)) where
    -- a node after what stands below it
    then : {n : ℕ} → M n → (c : ℕ) {ns : List ℕ} {e f : Walked} → Moves ns e f → Moves (ns ++ (n ∷ [])) e (record { scope = f.scope; table = mark img n c f.scope f.table })
    then {n} h c {f = f} m = next m (marks n c f.scope h)

    mutual
      unfolding numbers walk Everywhere enters

      pub walk-moves : (r : Role) (u : Tree) → Everywhere P u → (e : Walked) → Moves (numbers u) e (walk img r u e)
      walk-moves r (block ts) q e = drops (seq-moves occurs ts q e)
      walk-moves r (node n k (outer o) sh ts) q e = stay
      walk-moves r (node n k (inner plain) sh ts) q e = then (known n k _ sh ts q.0).0 e.scope (seq-moves occurs ts q.1 e)
      walk-moves r (node n k (inner term) sh ts) q e = then (known n k _ sh ts q.0).0 e.scope (seq-moves r ts q.1 e)
      walk-moves r (node n k (inner ident) sh ts) q e = then (known n k _ sh ts q.0).0 e.scope (ident-moves r n e ((known n k _ sh ts q.0).1 refl))
      walk-moves r (node n k (inner head) sh ts) q e = then (known n k _ sh ts q.0).0 e.scope (seq-moves (head_role img sh) ts q.1 e)
      walk-moves r (node n k (inner member) sh ts) q e = then (known n k _ sh ts q.0).0 e.scope (first-moves names ts q.1 e)
      walk-moves r (node n k (inner head_member) sh ts) q e = next (first-moves names ts q.1 e) (marks n all_ones all_ones (known n k _ sh ts q.0).0)
      walk-moves r (node n k (inner case) sh ts) q e = then (known n k _ sh ts q.0).0 e.scope (drops (seq-moves occurs ts q.1 e))
      walk-moves r (node n k (inner if_var) sh ts) q e = then (known n k _ sh ts q.0).0 e.scope (first-moves declares ts q.1 e)
      walk-moves r (node n k (inner defined_then) sh ts) q e = then (known n k _ sh ts q.0).0 e.scope (first-moves (defines e.scope) ts q.1 e)
      walk-moves r (node n k (inner arg) sh ts) q e =
          next (seq-moves occurs ts q.1 e) (then (known n k _ sh ts q.0).0 e.scope (arg-moves n sh (walk_seq img occurs ts e) (known n k _ sh ts q.0).1))

      pub seq-moves : (r : Role) (us : Trees) → EverywhereAll P us → (e : Walked) → Moves (numbers_seq us) e (walk_seq img r us e)
      seq-moves r none q e = stay
      seq-moves r (u ◂ us) q e = next (walk-moves r u q.0 e) (seq-moves r us q.1 (walk img r u e))

      first-moves : (r : Role) (us : Trees) → EverywhereAll P us → (e : Walked) → Moves (numbers_seq us) e (walk_first img r us e)
      first-moves r none q e = stay
      first-moves r (u ◂ us) q e = next (walk-moves occurs u q.0 e) (seq-moves r us q.1 (walk img occurs u e))
