-- What is found: the symbol of a row, with the name that was looked for, and no earlier row is one of that name in its scope; its node
-- is below N, where every symbol's is.
use mathlib.Core.Path.{◌≡◌, refl, sym, ap, subst, ◌∙◌}
use mathlib.Core.Bool.{Bool, true, false, false≢true}
use mathlib.Core.List.{List}
use mathlib.Core.Option.{Option, none as nothing, some}
use Prim.Native.Nat.{ℕ, zero, suc, ◌+◌, ◌<◌, ◌≤◌}
use native.Mathlib.Decide.{ℕ_discrete}
use native.Mathlib.Omega.{arith}
use lib.Dec.{eqb, ltb}
use lib.ListN.{get_or}
use borrow.Author.Tests.{eqb-true}
use Rattle.ast.specs.Image.{nodes, name_of}
use Rattle.table.specs.Layout.{scope_place, node_place}
use Rattle.table.specs.Rising.{node_at, parent_at}
use Rattle.table.specs.Table.{Table, Found, symbol_at, row_is, find_from, climb, found, lookup}
use Rattle.table.proofs.Finds.{node-some}

module _ (img ws : List ℕ) where
  -- the first of the c rows from j on that is of the scope s and has the name x: f is its symbol
  pub record Hit (c j s x : ℕ) (f : Found) : Type 0 where
    pub row : ℕ
    pub from : j ≤ row
    pub within : row < j + c
    pub hits : row_is img ws row s x ≡ true
    pub symbol : symbol_at img ws row ≡ f
    pub earlier : (i : ℕ) → j ≤ i → i < row → row_is img ws i s x ≡ true → ⊥

  hit-by : (c j s x : ℕ) (f : Found) (b : Bool) → row_is img ws j s x ≡ b
      → ◌≡◌ {A = Option Found} (elim b [ true ↦ some (symbol_at img ws j) | false ↦ find_from img c ws (j + 1) s x ]) (some f)
      → (find_from img c ws (j + 1) s x ≡ some f → Hit c (j + 1) s x f) → Hit (suc c) j s x f
  hit-by c j s x f true q e h =
      let z : symbol_at img ws j ≡ f = cc in
      record { row = j; from = omega arith; within = omega arith; hits = q; symbol = z; earlier = λ i a b r. absurd (omega arith) }
  hit-by c j s x f false q e h =
      let g = h e in
      record {
        row = g.row;
        from = (let z = g.from in omega arith);
        within = (let z = g.within in omega arith);
        hits = g.hits;
        symbol = g.symbol;
        earlier = λ i a b r. rest g i a b r (ℕ_discrete i j);
      }
    where
      rest : (g : Hit c (j + 1) s x f) → (i : ℕ) → j ≤ i → i < g.row → row_is img ws i s x ≡ true → Dec (i ≡ j) → ⊥
      rest g i a b r (yes p) = false≢true (sym q ∙ ap (λ (k : ℕ). row_is img ws k s x) (sym p) ∙ r)
      rest g i a b r (no p) = g.earlier i (omega arith) b r

  pub hit-of : (c j s x : ℕ) (f : Found) → find_from img c ws j s x ≡ some f → Hit c j s x f
  unfolding find_from
  hit-of zero j s x f e = absurd (let z : ◌≡◌ {A = ℕ} 0 1 = cc in omega arith)
  hit-of (suc c) j s x f e = hit-by c j s x f (row_is img ws j s x) refl e (hit-of c (j + 1) s x f)

  -- nothing is found: none of them is so
  pub miss-of : (c j s x : ℕ) → find_from img c ws j s x ≡ nothing → (i : ℕ) → j ≤ i → i < j + c → row_is img ws i s x ≡ true → ⊥
  unfolding find_from
  miss-of zero j s x e i a b r = omega arith
  miss-of (suc c) j s x e i a b r = go (row_is img ws j s x) refl e (miss-of c (j + 1) s x) (ℕ_discrete i j)
    where
      go : (b : Bool) → row_is img ws j s x ≡ b → ◌≡◌ {A = Option Found} (elim b [ true ↦ some (symbol_at img ws j) | false ↦ find_from img c ws (j + 1) s x ]) nothing
          → (find_from img c ws (j + 1) s x ≡ nothing → (k : ℕ) → j + 1 ≤ k → k < j + 1 + c → row_is img ws k s x ≡ true → ⊥) → Dec (i ≡ j) → ⊥
      go true q n h d = absurd (let z : ◌≡◌ {A = ℕ} 0 1 = cc in omega arith)
      go false q n h (yes p) = false≢true (sym q ∙ ap (λ (k : ℕ). row_is img ws k s x) (sym p) ∙ r)
      go false q n h (no p) = h n i (omega arith) (omega arith) r

  -- the row of what was found: m is its symbol, and has the name x
  pub record FoundRow (y x : ℕ) (m : Found) : Type 0 where
    pub row : ℕ
    pub within : row < y
    pub is : symbol_at img ws row ≡ m
    pub named : name_of img m.node ≡ x

  row_named : (j s x : ℕ) → row_is img ws j s x ≡ true → name_of img (node_at (nodes img) ws j) ≡ x
  unfolding row_is
  row_named j s x e = go (eqb (get_or ws (scope_place (nodes img) j) 0) s) e
    where
      go : (b : Bool) → elim b [ true ↦ eqb (name_of img (get_or ws (node_place (nodes img) j) 0)) x | false ↦ false ] ≡ true → name_of img (node_at (nodes img) ws j) ≡ x
      go true q = eqb-true _ _ q
      go false q = absurd (false≢true q)

  find-row : (y s x : ℕ) (m : Found) → find_from img y ws 0 s x ≡ some m → FoundRow y x m
  find-row y s x m e =
      let h = hit-of y 0 s x m e in
      record { row = h.row; within = (let z = h.within in omega arith); is = h.symbol; named = ap (λ (f : Found). name_of img f.node) (sym h.symbol) ∙ row_named h.row s x h.hits }

  pub climb-row : (f y s x : ℕ) (m : Found) → climb img f ws y s x ≡ some m → FoundRow y x m
  unfolding climb
  climb-row zero y s x m e = absurd (let z : ◌≡◌ {A = ℕ} 0 1 = cc in omega arith)
  climb-row (suc f) y s x m e = go (find_from img y ws 0 s x) refl e (climb-row f y (parent_at (nodes img) ws s) x m)
    where
      p : ℕ
      p = parent_at (nodes img) ws s

      up : (b : Bool) → ◌≡◌ {A = Option Found} (elim b [ true ↦ climb img f ws y p x | false ↦ nothing ]) (some m) → (climb img f ws y p x ≡ some m → FoundRow y x m) → FoundRow y x m
      up true q h = h q
      up false q h = absurd (let z : ◌≡◌ {A = ℕ} 0 1 = cc in omega arith)

      go : (o : Option Found) → find_from img y ws 0 s x ≡ o
          → ◌≡◌ {A = Option Found} (elim o [ some n ↦ some n | nothing ↦ elim (ltb p s) [ true ↦ climb img f ws y p x | false ↦ nothing ] ]) (some m)
          → (climb img f ws y p x ≡ some m → FoundRow y x m) → FoundRow y x m
      go (some n) q r h = find-row y s x m (q ∙ r)
      go nothing q r h = up (ltb p s) r h

module _ (img : List ℕ) (t : Table) where
  -- the row of what lookup gives
  pub lookup-row : (s x m : ℕ) → lookup img t s x ≡ some m → (f : Found) × (found img t s x ≡ some f) × (f.node ≡ m) × FoundRow img t.words t.symbols x f
  unfolding lookup found
  lookup-row s x m e =
      let (f, q, r) = node-some (found img t s x) m e in
      (f, q, r, climb-row img t.words (suc s) t.symbols s x f q)

  pub lookup-low : ((j : ℕ) → j < t.symbols → node_at (nodes img) t.words j < nodes img) → (s x m : ℕ) → lookup img t s x ≡ some m → m < nodes img
  lookup-low low s x m e =
      let (f, q, r, w) = lookup-row s x m e in
      subst (λ (n : ℕ). n < nodes img) r (subst (λ (g : Found). g.node < nodes img) w.is (low w.row w.within))
