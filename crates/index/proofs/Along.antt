-- Along the chain of a name the best so far, told of the rows that are passed; at its end it is what climbing finds. And the flags of
-- the scopes from one on upwards.
use mathlib.Core.Path.{◌≡◌, refl, sym, ap, subst, ◌∙◌}
use mathlib.Core.Logic.{◌≢◌, ◌⊎◌, inl, inr, ◌↔◌}
use mathlib.Core.Bool.{Bool, true, false, false≢true}
use mathlib.Core.List.{List}
use mathlib.Core.Option.{Option, none, some}
use Prim.Native.Nat.{ℕ, ◌+◌, ◌-◌, ◌<◌, ◌≤◌}
use native.Mathlib.Decide.{dec_lt, ℕ_discrete}
use native.Mathlib.Nat.{zero-add}
use native.Mathlib.Omega.{arith}
use lib.Dec.{ltb, ltb→lt}
use lib.ListN.{length, get_or, set, replicate, length-set, length-replicate}
use lib.Seq.{get_or-set_same, get_or-set_other}
use borrow.Author.Tests.{ltb-true, ltb-false}
use Rattle.ast.specs.Image.{nodes, names}
use Rattle.ast.proofs.Accepted.{both, needed, sized}
use Rattle.ast.proofs.Blank.{blank}
use Rattle.table.specs.Layout.{all_ones}
use Rattle.table.specs.Rising.{scope_of, parent_at}
use Rattle.table.specs.Table.{Table, Found, symbol_at, found}
use Rattle.table.specs.Where.{Over, itself, higher}
use Rattle.table.proofs.WhereFound.{over-le, over-over, found-exactly, nowhere-exactly}
use Rattle.sound.specs.Sound.{scopes_in, symbols_in, table_in, test_sound}
use Rattle.sound.proofs.Sounds.{sound-is}
use Rattle.scopes.specs.Lookup.{test_lookup}
use Rattle.scopes.proofs.Lookups.{lookup-accepted, lookup-sound}
use Rattle.index.specs.Index.{row_name, next_of}
use Rattle.index.specs.Promises.{Indexed, Flagged, better}
use Rattle.index.proofs.Rows.{First, first-is, begin-first, begin-next}

module _ (img tab : List ℕ) (s x : ℕ) where
  abbrev t : Table
  t = table_in img tab

  abbrev Y : ℕ
  Y = symbols_in img tab

  abbrev scope : ℕ → ℕ
  scope j = scope_of (nodes img) tab j

  -- row j has the name x and is of s or of a scope above it
  pub record Seen (j : ℕ) : Type 0 where
    pub below : j < Y
    pub name : row_name img tab j ≡ x
    pub over : Over img t (scope j) s

  -- of the rows before k that are so, f is the symbol of one: of the greatest scope, and there the earliest
  pub record Leads (k : ℕ) (f : Found) : Type 0 where
    pub row : ℕ
    pub before : row < k
    pub seen : Seen row
    pub symbol : symbol_at img tab row ≡ f
    pub rest : (j : ℕ) → j < k → Seen j → (scope j ≤ f.scope) × (scope j ≡ f.scope → row ≤ j)

  -- the best of them, if there are any
  abbrev pub Best : ℕ → Option Found → Type 0
  Best k none = (j : ℕ) → j < k → Seen j → ⊥
  Best k (some f) = Leads k f

  best-begin : Best 0 none
  best-begin j l h = omega arith

  -- rows of other names do not count
  best-on : (k n : ℕ) → k ≤ n → ((i : ℕ) → k ≤ i → i < n → i < Y → row_name img tab i ≢ x) → (o : Option Found) → Best k o → Best n o
  best-on k n h f none b = λ j l c. go j l c (dec_lt j k)
    where
      go : (j : ℕ) → j < n → Seen j → Dec (j < k) → ⊥
      go j l c (yes m) = b j m c
      go j l c (no m) = f j (omega arith) l c.below c.name
  best-on k n h f (some g) b = record { row = b.row; before = (let z = b.before in omega arith); seen = b.seen; symbol = b.symbol; rest = λ j l c. go j l c (dec_lt j k) }
    where
      go : (j : ℕ) → j < n → Seen j → Dec (j < k) → (scope j ≤ g.scope) × (scope j ≡ g.scope → b.row ≤ j)
      go j l c (yes m) = b.rest j m c
      go j l c (no m) = absurd (f j (omega arith) l c.below c.name)

  -- one row more, of the name
  module _ (y : ℕ) (below : y < Y) (name : row_name img tab y ≡ x) where
    unflagged : (false ≡ true ↔ Over img t (scope y) s) → (j : ℕ) → j ≡ y → Seen j → ⊥
    unflagged f j e c = false≢true (f.1 (subst (λ (i : ℕ). Over img t (scope i) s) e c.over))

    leads : Over img t (scope y) s → ((j : ℕ) → j < y → Seen j → scope j < scope y) → Leads (y + 1) (symbol_at img tab y)
    leads o f = record { row = y; before = omega arith; seen = record { below = below; name = name; over = o }; symbol = refl; rest = λ j l c. go j l c (ℕ_discrete j y) }
      where
        go : (j : ℕ) → j < y + 1 → Seen j → Dec (j ≡ y) → (scope j ≤ scope y) × (scope j ≡ scope y → y ≤ j)
        go j l c (yes e) = (let z : scope j ≡ scope y = ap scope e in omega arith, λ q. omega arith)
        go j l c (no e) = let z = f j (omega arith) c in (omega arith, λ q. absurd (omega arith))

    kept : (g : Found) → Leads y g → ((j : ℕ) → j ≡ y → Seen j → scope y ≤ g.scope) → Leads (y + 1) g
    kept g b f = record { row = b.row; before = (let z = b.before in omega arith); seen = b.seen; symbol = b.symbol; rest = λ j l c. go j l c (ℕ_discrete j y) }
      where
        go : (j : ℕ) → j < y + 1 → Seen j → Dec (j ≡ y) → (scope j ≤ g.scope) × (scope j ≡ g.scope → b.row ≤ j)
        go j l c (yes e) = (let z : scope j ≡ scope y = ap scope e in let w = f j e c in omega arith, λ q. let z = b.before in omega arith)
        go j l c (no e) = b.rest j (omega arith) c

    best-next : (b : Bool) → (b ≡ true ↔ Over img t (scope y) s) → (o : Option Found) → Best y o → Best (y + 1) (better b o (symbol_at img tab y))
    best-next false f none b = λ j l c. go j l c (ℕ_discrete j y)
      where
        go : (j : ℕ) → j < y + 1 → Seen j → Dec (j ≡ y) → ⊥
        go j l c (yes e) = unflagged f j e c
        go j l c (no e) = b j (omega arith) c
    best-next false f (some g) b = kept g b (λ j e c. absurd (unflagged f j e c))
    best-next true f none b = leads (f.0 refl) (λ j l c. absurd (b j l c))
    best-next true f (some g) b = go (ltb g.scope (scope y)) refl
      where
        go : (d : Bool) → ltb g.scope (scope y) ≡ d → Best (y + 1) (elim d [ true ↦ some (symbol_at img tab y) | false ↦ some g ])
        go true q = leads (f.0 refl) (λ j l c. let z = (b.rest j l c).0 in let w = ltb-true g.scope (scope y) q in omega arith)
        go false q = kept g b (λ j e c. let w = ltb-false g.scope (scope y) q in omega arith)

  -- past the last row it is what climbing finds
  best-all : (k : ℕ) → Y ≤ k → (o : Option Found) → Best k o → o ≡ found img t s x
  best-all k h none b =
      sym ((nowhere-exactly img t s x).1 (λ v o j c.
      b j (let z = c.row in omega arith) (record { below = c.row; name = c.name; over = subst (λ (u : ℕ). Over img t u s) (sym c.scope) o })))
  best-all k h (some f) b =
      let own : scope b.row ≡ f.scope = ap (λ (g : Found). g.scope) b.symbol in
      sym ((found-exactly img t s x f).1 (record {
        over = subst (λ (u : ℕ). Over img t u s) own b.seen.over;
        row = b.row;
        holds = record { row = b.seen.below; scope = own; name = b.seen.name };
        nearest = λ v o p n j c.
            let z = (b.rest j (let z = c.row in omega arith) (record { below = c.row; name = c.name; over = subst (λ (u : ℕ). Over img t u s) (sym c.scope) o })).0 in
            let w = over-le img t p in
            let e = c.scope in
            n (omega arith);
        node = sym (ap (λ (g : Found). g.node) b.symbol);
        earliest = λ j c l.
            let z = (b.rest j (let z = c.row in omega arith) (record { below = c.row; name = c.name; over = subst (λ (u : ℕ). Over img t u s) (own ∙ sym c.scope) b.seen.over })).1 c.scope in
            omega arith;
      }))

  -- where the code stands in the chain: at its end, or at a row of the name
  abbrev pub At : ℕ → Type 0
  At r = (r ≡ all_ones) ⊎ ((r < Y) × (row_name img tab r ≡ x))

  module _ {index : List ℕ} (indexed : Indexed img tab index s x) where
    sound : test_sound img tab ≡ 0
    sound = lookup-sound img tab s indexed.passed

    few : Y ≤ 2048
    few = let a = (sound-is img tab sound).few_symbols in let b = (sized img (lookup-accepted img tab s indexed.passed)).few_nodes in omega arith

    -- from the rows before k on, over the first row of the name
    to-first : (c k r : ℕ) → k + c ≡ Y → First img tab c k x r → (o : Option Found) → Best k o → At r × Best r o
    to-first c k r e f o b = elim f.at as (λ _. At r × Best r o) [
      | inl q ↦ (inl q, best-on k r (let z = few in omega arith) (λ i l m n. f.before i l (omega arith) m) o b)
      | inr q ↦ let p = q.1 in (inr ((omega arith), q.2), best-on k r q.0 (λ i l m n. f.before i l (omega arith) m) o b)
    ]

    pub nearest-begin : (r : ℕ) → r ≡ get_or index x 0 → At r × Best r none
    nearest-begin r e =
        let f = first-is img tab Y 0 x (let z = few in omega arith) in
        to-first Y 0 r (zero-add Y) (subst (First img tab Y 0 x) (sym (e ∙ begin-first img tab index indexed.begins x indexed.name)) f) none best-begin

    nearest-next : (r : ℕ) → At r → r ≢ all_ones → (b : Bool) → (b ≡ true ↔ Over img t (scope r) s) → (o : Option Found) → Best r o
        → (n : ℕ) → n ≡ get_or index (names img + r) 0 → (At n × Best n (better b o (symbol_at img tab r))) × (Y - n < Y - r)
    nearest-next r (inl q) ne b f o h n e = absurd (ne q)
    nearest-next r (inr q) ne b f o h n e =
        let l = q.0 in
        let m = (sound-is img tab sound).few_symbols in
        let g = first-is img tab (Y - (r + 1)) (r + 1) (row_name img tab r) (let z = few in omega arith) in
        let i : n ≡ next_of img tab r = e ∙ begin-next img tab index indexed.begins r (omega arith) in
        let j = subst (λ (z : ℕ). First img tab (Y - (r + 1)) (r + 1) z n) q.1 (subst (First img tab (Y - (r + 1)) (r + 1) (row_name img tab r)) (sym i) g) in
        (to-first (Y - (r + 1)) (r + 1) n (omega arith) j (better b o (symbol_at img tab r)) (best-next r l q.1 b f o h), smaller l j.at)
      where
        smaller : r < Y → (n ≡ all_ones) ⊎ ((r + 1 ≤ n) × (n < r + 1 + (Y - (r + 1))) × (row_name img tab n ≡ x)) → Y - n < Y - r
        smaller l (inl k) = let z = few in omega arith
        smaller l (inr k) = let z = k.0 in omega arith

    -- the same of the code's values: the flags, the symbol of the row, the better of it and the best so far
    pub nearest-step : (flags : List Bool) → Flagged img tab flags s → (r : ℕ) → At r → r ≢ all_ones → (o : Option Found) → Best r o → (f : Found) → f ≡ symbol_at img tab r
        → (p : Option Found) → p ≡ better (get_or flags f.scope false) o f → (n : ℕ) → n ≡ get_or index (names img + r) 0 → (At n × Best n p) × (Y - n < Y - r)
    nearest-step flags flagged r a ne o b f e p q n k =
        let g = q ∙ ap (λ (h : Found). better (get_or flags h.scope false) o h) e in
        subst (λ (u : Option Found). (At n × Best n u) × (Y - n < Y - r)) (sym g) (nearest-next r a ne (get_or flags (scope r) false) (flagged (scope r)) o b n k)

    -- the scope asked, and those of the rows, have a flag
    pub asked-low : s < 2048
    unfolding test_lookup
    asked-low =
        let a = ltb→lt s (scopes_in img tab) (needed 16 _ (both _ _ (both _ _ (sym indexed.passed)).1).1) in
        let b = (sound-is img tab sound).few_scopes in
        let c = (sized img (lookup-accepted img tab s indexed.passed)).few_nodes in
        omega arith

    pub scope-low : (r : ℕ) → At r → r ≢ all_ones → scope r < 2048
    scope-low r (inl e) ne = absurd (ne e)
    scope-low r (inr l) ne =
        let a = (sound-is img tab sound).under r l.0 in
        let b = (sound-is img tab sound).few_scopes in
        let c = (sized img (lookup-accepted img tab s indexed.passed)).few_nodes in
        omega arith

    pub nearest-end : (r : ℕ) → r ≡ all_ones → (o : Option Found) → Best r o → o ≡ found img t s x
    nearest-end r e o b = best-all r (let z = few in omega arith) o b

-- the flags of a climb ------------------------------------------------------------------------------------------------
module _ (img tab : List ℕ) where
  abbrev table : Table
  table = table_in img tab

  abbrev up : ℕ → ℕ
  up q = parent_at (nodes img) tab q

  -- from s the climb has come to the scope a: those between are flagged
  pub record Climbing (s : ℕ) (flags : List Bool) (a : ℕ) : Type 0 where
    pub long : length flags ≡ 2048
    pub low : a < 2048
    pub way : Over img table a s
    pub only : (q : ℕ) → get_or flags q false ≡ true → Over img table q s
    pub all : (q : ℕ) → Over img table q s → (get_or flags q false ≡ true) ⊎ Over img table q a

  pub climb-begin : (s : ℕ) → s < 2048 → Climbing s (replicate 2048 false) s
  climb-begin s l =
      record {
        long = length-replicate 2048 false;
        low = l;
        way = itself;
        only = λ q e. absurd (false≢true (sym (blank false 2048 q) ∙ e));
        all = λ q o. inr o;
      }

  over-own : {q a : ℕ} → Over img table q a → (q ≡ a) ⊎ ((up a < a) × Over img table q (up a))
  over-own itself = inl refl
  over-own (higher l o) = inr (l, o)

  module _ {s : ℕ} {flags : List Bool} {a : ℕ} (c : Climbing s flags a) where
    abbrev more : List Bool
    more = set flags a true

    set-own : get_or more a false ≡ true
    set-own = get_or-set_same flags a true false (let z = c.long in let w = c.low in omega arith)

    set-kept : (q : ℕ) → get_or flags q false ≡ true → get_or more q false ≡ true
    set-kept q e = go (ℕ_discrete q a)
      where
        go : Dec (q ≡ a) → get_or more q false ≡ true
        go (yes p) = ap (λ (i : ℕ). get_or more i false) p ∙ set-own
        go (no p) = get_or-set_other flags a q true false p ∙ e

    only-more : (q : ℕ) → get_or more q false ≡ true → Over img table q s
    only-more q e = go (ℕ_discrete q a)
      where
        go : Dec (q ≡ a) → Over img table q s
        go (yes p) = subst (λ (i : ℕ). Over img table i s) (sym p) c.way
        go (no p) = c.only q (sym (get_or-set_other flags a q true false p) ∙ e)

    pub climb-up : (p : ℕ) → p ≡ up a → p < a → Climbing s more p
    climb-up p e l =
        record {
          long = length-set flags a true ∙ c.long;
          low = (let w = c.low in omega arith);
          way = subst (λ (i : ℕ). Over img table i s) (sym e) (over-over img table (higher (let z : up a < a = omega arith in z) itself) c.way);
          only = only-more;
          all = λ q o. elim (c.all q o) as (λ _. (get_or more q false ≡ true) ⊎ Over img table q p) [
            | inl f ↦ inl (set-kept q f)
            | inr f ↦ elim (over-own f) as (λ _. (get_or more q false ≡ true) ⊎ Over img table q p) [
              | inl g ↦ inl (ap (λ (i : ℕ). get_or more i false) g ∙ set-own)
              | inr g ↦ inr (subst (λ (i : ℕ). Over img table q i) (sym e) g.1)
            ]
          ];
        }

    pub climb-end : (p : ℕ) → p ≡ up a → a ≤ p → Flagged img tab more s
    climb-end p e l q = (
      only-more q,
      λ o. elim (c.all q o) as (λ _. get_or more q false ≡ true) [
        | inl f ↦ set-kept q f
        | inr f ↦ elim (over-own f) as (λ _. get_or more q false ≡ true) [
          | inl g ↦ ap (λ (i : ℕ). get_or more i false) g ∙ set-own
          | inr g ↦ absurd (let z = g.0 in omega arith)
        ]
      ],
    )
