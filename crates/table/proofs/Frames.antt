-- What the steps of a walk do to the table's words, and to the symbols of one scope.
use mathlib.Core.Path.{◌≡◌, refl, ap, ap₂, ◌∙◌}
use mathlib.Core.Bool.{Bool, true, false}
use mathlib.Core.List.{List, [], ◌∷◌}
use mathlib.Core.Option.{Option, none, some}
use mathlib.Core.Logic.{◌≢◌}
use Prim.Native.Nat.{ℕ, zero, suc, ◌+◌, ◌<◌, ◌≤◌}
use native.Mathlib.Omega.{arith}
use native.Mathlib.Nat.{zero-add}
use native.Mathlib.Numerals.{add-one}
use lib.Dec.{eqb}
use lib.ListN.{length, get_or, set, length-set}
use lib.Seq.{get_or-set_same, get_or-set_other}
use borrow.Author.Tests.{eq-eqb}
use Rattle.ast.specs.Declarations.{or_else, earliest}
use Rattle.ast.specs.Image.{nodes, name_of}
use Rattle.table.specs.Layout.{entry_place, exit_place, parent_place, scope_place, node_place, table_length}
use Rattle.table.specs.Rising.{scope_of, node_at}
use Rattle.table.specs.Table.{Table, Found, found_node, symbol_at, row_is, find_from, held, find, mark, new_scope, new_symbol}
use Rattle.table.proofs.Finds.{row_out, hit, find-snoc, node-or_else}

-- the words ws and vs have the same first y rows, in the table of an image of n nodes
pub record SameRows (n y : ℕ) (ws vs : List ℕ) : Type 0 where
  pub scopes : (j : ℕ) → j < y → scope_of n ws j ≡ scope_of n vs j
  pub nodes : (j : ℕ) → j < y → node_at n ws j ≡ node_at n vs j

module _ (img : List ℕ) where
  -- a word that the step does not store stays
  pub mark-word : (n a b : ℕ) (t : Table) (i : ℕ) → i ≢ entry_place (nodes img) n → i ≢ exit_place (nodes img) n → get_or (mark img n a b t).words i 0 ≡ get_or t.words i 0
  unfolding mark
  mark-word n a b t i f g =
      get_or-set_other (set t.words (entry_place (nodes img) n) a) (exit_place (nodes img) n) i b 0 g ∙ get_or-set_other t.words (entry_place (nodes img) n) i a 0 f

  pub scope-word : (p : ℕ) (t : Table) (i : ℕ) → i ≢ parent_place (nodes img) t.scopes → get_or (new_scope img p t).words i 0 ≡ get_or t.words i 0
  unfolding new_scope
  scope-word p t i f = get_or-set_other t.words (parent_place (nodes img) t.scopes) i p 0 f

  pub symbol-word : (s n : ℕ) (t : Table) (i : ℕ) → i ≢ scope_place (nodes img) t.symbols → i ≢ node_place (nodes img) t.symbols → get_or (new_symbol img s n t).words i 0 ≡ get_or t.words i 0
  unfolding new_symbol
  symbol-word s n t i f g =
      get_or-set_other (set t.words (scope_place (nodes img) t.symbols) s) (node_place (nodes img) t.symbols) i n 0 g
      ∙ get_or-set_other t.words (scope_place (nodes img) t.symbols) i s 0 f

  -- so the rows that are there stay
  pub mark-same : (n a b : ℕ) (t : Table) → n < nodes img → SameRows (nodes img) t.symbols (mark img n a b t).words t.words
  mark-same n a b t l =
      record {
        scopes = λ j k. mark-word n a b t (scope_place (nodes img) j) (omega arith) (omega arith);
        nodes = λ j k. mark-word n a b t (node_place (nodes img) j) (omega arith) (omega arith);
      }

  scope-same : (p : ℕ) (t : Table) → t.scopes < nodes img → SameRows (nodes img) t.symbols (new_scope img p t).words t.words
  scope-same p t l =
      record { scopes = λ j k. scope-word p t (scope_place (nodes img) j) (omega arith); nodes = λ j k. scope-word p t (node_place (nodes img) j) (omega arith) }

  pub symbol-same : (s n : ℕ) (t : Table) → t.symbols < nodes img → SameRows (nodes img) t.symbols (new_symbol img s n t).words t.words
  symbol-same s n t l =
      record {
        scopes = λ j k. symbol-word s n t (scope_place (nodes img) j) (omega arith) (omega arith);
        nodes = λ j k. symbol-word s n t (node_place (nodes img) j) (omega arith) (omega arith);
      }

  is_row : ℕ → ℕ → ℕ → ℕ → Bool
  is_row a n s x = elim (eqb a s) [ true ↦ eqb (name_of img n) x | false ↦ false ]

  abbrev symbol : ℕ → ℕ → Found
  symbol a n = record { node = n; scope = a }

  pick : Bool → Found → Option Found → Option Found
  pick b f o = elim b [ true ↦ some f | false ↦ o ]

  pub from-same : (c : ℕ) (ws vs : List ℕ) (j s x : ℕ) → SameRows (nodes img) (j + c) ws vs → find_from img c ws j s x ≡ find_from img c vs j s x
  unfolding find_from is_row pick
  from-same zero ws vs j s x h = refl
  from-same (suc c) ws vs j s x h =
      ap₂ (λ (a n : ℕ). pick (is_row a n s x) (symbol a n) (find_from img c ws (j + 1) s x)) (h.scopes j (omega arith)) (h.nodes j (omega arith))
      ∙ ap (λ (o : Option Found). pick (is_row (scope_of (nodes img) vs j) (node_at (nodes img) vs j) s x) (symbol_at img vs j) o)
      (from-same c ws vs (j + 1) s x (record { scopes = λ i l. h.scopes i (omega arith); nodes = λ i l. h.nodes i (omega arith) }))

  -- no row of the scope
  pub from-none : (c : ℕ) (ws : List ℕ) (j s x : ℕ) → ((i : ℕ) → i < j + c → scope_of (nodes img) ws i ≡ s → ⊥) → find_from img c ws j s x ≡ none
  unfolding find_from
  from-none zero ws j s x h = refl
  from-none (suc c) ws j s x h = rw (row_out img ws j s x (h j (omega arith)), find_from) (from-none c ws (j + 1) s x (λ i l. h i (omega arith)))

  pub held_none : (t : Table) (s x : ℕ) → ((i : ℕ) → i < t.symbols → scope_of (nodes img) t.words i ≡ s → ⊥) → held img t s x ≡ none
  unfolding held
  held_none t s x h = from-none t.symbols t.words 0 s x (λ i l. h i (omega arith))

  pub find_none : (t : Table) (s x : ℕ) → ((i : ℕ) → i < t.symbols → scope_of (nodes img) t.words i ≡ s → ⊥) → find img t s x ≡ none
  unfolding find
  find_none t s x h = ap found_node (held_none t s x h)

  pub find-same : {y : ℕ} {ws vs : List ℕ} → SameRows (nodes img) y ws vs → (s x : ℕ) → find_from img y ws 0 s x ≡ find_from img y vs 0 s x
  find-same {y} {ws} {vs} h s x = from-same y ws vs 0 s x (record { scopes = λ j k. h.scopes j (omega arith); nodes = λ j k. h.nodes j (omega arith) })

  pub held-mark : (n a b : ℕ) (t : Table) → n < nodes img → (s x : ℕ) → held img (mark img n a b t) s x ≡ held img t s x
  unfolding held mark
  held-mark n a b t l s x = find-same (mark-same n a b t l) s x

  pub find-mark : (n a b : ℕ) (t : Table) → n < nodes img → (s x : ℕ) → find img (mark img n a b t) s x ≡ find img t s x
  unfolding find
  find-mark n a b t l s x = ap found_node (held-mark n a b t l s x)

  pub held-scope : (p : ℕ) (t : Table) → t.scopes < nodes img → (s x : ℕ) → held img (new_scope img p t) s x ≡ held img t s x
  unfolding held new_scope
  held-scope p t l s x = find-same (scope-same p t l) s x

  -- the node n as a symbol of the scope s, if it has the name x
  unfoldable pub own : ℕ → ℕ → ℕ → Option Found
  own s n x = elim (eqb (name_of img n) x) [ true ↦ some (symbol s n) | false ↦ none ]

  pub own-node : (s n x : ℕ) → found_node (own s n x) ≡ earliest (name_of img) (n ∷ []) x
  unfolding own earliest
  own-node s n x = go (eqb (name_of img n) x)
    where
      go : (b : Bool) → found_node (elim b as (λ _. Option Found) [ true ↦ some (symbol s n) | false ↦ none ]) ≡ elim b [ true ↦ some n | false ↦ none ]
      go true = refl
      go false = refl

  -- one symbol more
  module _ (s n : ℕ) (t : Table) (few : t.symbols < nodes img) (long : table_length (nodes img) ≤ length t.words) where
    abbrev y : ℕ
    y = t.symbols

    abbrev vs : List ℕ
    vs = (new_symbol img s n t).words

    pub symbol-scope : scope_of (nodes img) vs y ≡ s
    unfolding new_symbol
    symbol-scope =
        get_or-set_other (set t.words (scope_place (nodes img) y) s) (node_place (nodes img) y) (scope_place (nodes img) y) n 0 (λ q. omega arith)
        ∙ get_or-set_same t.words (scope_place (nodes img) y) s 0 (omega arith)

    pub symbol-node : node_at (nodes img) vs y ≡ n
    unfolding new_symbol
    symbol-node = get_or-set_same (set t.words (scope_place (nodes img) y) s) (node_place (nodes img) y) n 0 (rw length-set (omega arith))

    row_new : (x : ℕ) → row_is img vs y s x ≡ eqb (name_of img n) x
    unfolding row_is
    row_new x = rw (eq-eqb _ _ symbol-scope, row_is) (ap (λ (m : ℕ). eqb (name_of img m) x) symbol-node)

    -- the new row's symbol
    pub symbol-new : symbol_at img vs y ≡ symbol s n
    symbol-new = ap₂ (λ (a m : ℕ). symbol a m) symbol-scope symbol-node

    hit-new : (x : ℕ) → hit img vs (row_is img vs y s x) y ≡ own s n x
    unfolding hit own
    hit-new x = ap₂ (λ (b : Bool) (f : Found). elim b as (λ _. Option Found) [ true ↦ some f | false ↦ none ]) (row_new x) symbol-new

    -- in its scope: what was there, or else the new node
    pub held-symbol : (x : ℕ) → held img (new_symbol img s n t) s x ≡ or_else (held img t s x) (own s n x)
    unfolding held new_symbol
    held-symbol x =
        ap (λ (c : ℕ). find_from img c vs 0 s x) (add-one y)
        ∙ find-snoc img vs y 0 s x
        ∙ ap (λ (i : ℕ). or_else (find_from img y vs 0 s x) (hit img vs (row_is img vs i s x) i)) (zero-add y)
        ∙ ap₂ (λ (o u : Option Found). or_else o u) (find-same (symbol-same s n t few) s x) (hit-new x)

    pub find-symbol : (x : ℕ) → find img (new_symbol img s n t) s x ≡ or_else (find img t s x) (earliest (name_of img) (n ∷ []) x)
    unfolding find
    find-symbol x = ap found_node (held-symbol x) ∙ node-or_else (held img t s x) (own s n x) ∙ ap (or_else (find img t s x)) (own-node s n x)
