-- Laws of lookup.
use mathlib.Core.Path.{◌≡◌, refl, sym, ap, ◌∙◌}
use mathlib.Core.List.{List}
use mathlib.Core.Bool.{Bool, true, false}
use mathlib.Core.Option.{Option, none, some}
use Prim.Native.Nat.{ℕ, zero, suc, ◌+◌, ◌-◌, ◌<◌, ◌≤◌}
use native.Mathlib.Nat.{add-zero}
use native.Mathlib.Omega.{arith}
use lib.Dec.{ltb, eqb}
use borrow.Author.Tests.{ltb-true, lt-ltb, le-ltb, eq-eqb, ne_eqb}
use Rattle.ast.specs.Declarations.{or_else}
use Rattle.ast.specs.Image.{nodes, name_of}
use Rattle.ast.specs.Named.{const_decl_kind}
use Rattle.ast.proofs.Shapes.{one_more}
use Rattle.table.specs.Rising.{scope_of, node_at, parent_at}
use Rattle.table.specs.Table.{Table, Found, found_node, symbol_at, row_is, find_from, climb, found, lookup, is_kind, is_var, is_value}

-- the nodes of "or else"
pub node-or_else : (o u : Option Found) → found_node (or_else o u) ≡ or_else (found_node o) (found_node u)
node-or_else none u = refl
node-or_else (some f) u = refl

-- none has no node, and nothing else has none
pub node-none : (o : Option Found) → found_node o ≡ none → o ≡ none
node-none none e = refl
node-none (some f) e = absurd (let z : ◌≡◌ {A = ℕ} 0 1 = cc in omega arith)

pub node-some : (o : Option Found) (m : ℕ) → found_node o ≡ some m → (f : Found) × (o ≡ some f) × (f.node ≡ m)
node-some none m e = absurd (let z : ◌≡◌ {A = ℕ} 0 1 = cc in omega arith)
node-some (some f) m e = (f, refl, (let z : f.node ≡ m = cc in z))

-- o, or else what climbing on gives, where b
unfoldable pub or_climb : Option Found → Bool → Option Found → Option Found
or_climb o b u = elim o [ some f ↦ some f | none ↦ elim b [ true ↦ u | false ↦ none ] ]

pub or_climb-same : (o : Option Found) (b : Bool) (u v : Option Found) → (b ≡ true → u ≡ v) → or_climb o b u ≡ or_climb o b v
unfolding or_climb
or_climb-same (some f) b u v h = refl
or_climb-same none true u v h = h refl
or_climb-same none false u v h = refl

module _ (img : List ℕ) where
  -- the node of what is found is what lookup gives
  pub lookup-node : (t : Table) (s x : ℕ) {o : Option Found} → o ≡ found img t s x → found_node o ≡ lookup img t s x
  unfolding lookup
  lookup-node t s x e = ap found_node e

  pub value-var : (o : Option ℕ) → is_var img o ≡ true → is_value img o ≡ true
  unfolding is_value
  value-var o h = rw (h, is_value)

  pub value-other : (o : Option ℕ) → is_var img o ≡ false → is_value img o ≡ is_kind img const_decl_kind o
  unfolding is_value
  value-other o h = rw (h, is_value)

module _ (img ws : List ℕ) where
  -- row j, if it is of the scope and the name
  unfoldable pub hit : Bool → ℕ → Option Found
  hit b j = elim b [ true ↦ some (symbol_at img ws j) | false ↦ none ]

  find_first : (b : Bool) (j : ℕ) (o u : Option Found) → or_else (elim b [ true ↦ some (symbol_at img ws j) | false ↦ o ]) u ≡ elim b [ true ↦ some (symbol_at img ws j) | false ↦ or_else o u ]
  find_first true j o u = refl
  find_first false j o u = refl

  -- the last of the rows counts where no other does
  pub find-snoc : (c j s x : ℕ) → find_from img (suc c) ws j s x ≡ or_else (find_from img c ws j s x) (hit (row_is img ws (j + c) s x) (j + c))
  unfolding find_from hit
  find-snoc zero j s x = ap (λ (i : ℕ). hit (row_is img ws i s x) i) (sym (add-zero j))
  find-snoc (suc c) j s x =
      ap (λ (o : Option Found). elim (row_is img ws j s x) as (λ _. Option Found) [ true ↦ some (symbol_at img ws j) | false ↦ o ]) (find-snoc c (j + 1) s x ∙ ap (λ (i : ℕ). or_else (find_from img c ws (j + 1) s x) (hit (row_is img ws i s x) i)) (let q : j + 1 + c ≡ j + suc c = omega arith in q))
      ∙ sym (find_first (row_is img ws j s x) j (find_from img c ws (j + 1) s x) (hit (row_is img ws (j + suc c) s x) (j + suc c)))

  pub row_out : (j s x : ℕ) → (scope_of (nodes img) ws j ≡ s → ⊥) → row_is img ws j s x ≡ false
  unfolding row_is
  row_out j s x h = rw (ne_eqb _ _ h, row_is)

  pub row_in : (j s x : ℕ) → scope_of (nodes img) ws j ≡ s → row_is img ws j s x ≡ lib.Dec.eqb (name_of img (node_at (nodes img) ws j)) x
  unfolding row_is
  row_in j s x h = rw (eq-eqb _ _ h, row_is)

  pub find-hit : (c j s x : ℕ) → j < c → row_is img ws j s x ≡ true → find_from img (c - j) ws j s x ≡ some (symbol_at img ws j)
  unfolding find_from
  find-hit c j s x h e = rw (one_more h, find_from, e)

  pub find-miss : (c j s x : ℕ) → j < c → row_is img ws j s x ≡ false → find_from img (c - j) ws j s x ≡ find_from img (c - (j + 1)) ws (j + 1) s x
  unfolding find_from
  find-miss c j s x h e = rw (one_more h, find_from, e)

  pub find-end : (c j s x : ℕ) → c ≤ j → find_from img (c - j) ws j s x ≡ none
  unfolding find_from
  find-end c j s x h = let e : c - j ≡ 0 = omega arith in rw e

  -- enough fuel is enough
  pub climb-fuel : (f g y s x : ℕ) → s < f → s < g → climb img f ws y s x ≡ climb img g ws y s x
  unfolding climb or_climb
  climb-fuel zero g y s x h k = absurd (omega arith)
  climb-fuel (suc f) zero y s x h k = absurd (omega arith)
  climb-fuel (suc f) (suc g) y s x h k =
      or_climb-same (find_from img y ws 0 s x) (ltb (parent_at (nodes img) ws s) s) _ _
      (λ e. let l = ltb-true (parent_at (nodes img) ws s) s e in climb-fuel f g y (parent_at (nodes img) ws s) x (omega arith) (omega arith))

  pub climb-hit : (y s x : ℕ) (f : Found) → find_from img y ws 0 s x ≡ some f → climb img (suc s) ws y s x ≡ some f
  unfolding climb
  climb-hit y s x f e = rw (e, climb)

  pub climb-end : (y s x p : ℕ) → find_from img y ws 0 s x ≡ none → p ≡ parent_at (nodes img) ws s → s ≤ p → climb img (suc s) ws y s x ≡ none
  unfolding climb
  climb-end y s x p e q h = rw (e, climb) (rw (← q, le-ltb _ _ h))

  pub climb-up : (y s x p : ℕ) → find_from img y ws 0 s x ≡ none → p ≡ parent_at (nodes img) ws s → p < s
      → climb img (suc s) ws y s x ≡ climb img (suc p) ws y p x
  unfolding climb
  climb-up y s x p e q h = rw (e, climb) (rw (← q, lt-ltb _ _ h) (rw (← q) (climb-fuel s (suc p) y p x h (omega arith))))
