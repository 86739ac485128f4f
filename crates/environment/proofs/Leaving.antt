-- A scope left: row by row its names stand again for what they do in its parent. And back up a path of such scopes.
use mathlib.Core.Path.{◌≡◌, refl, ap, ◌∙◌, subst}
use mathlib.Core.Logic.{◌≢◌}
use mathlib.Core.Bool.{Bool, true, false}
use mathlib.Core.List.{List}
use mathlib.Core.Option.{none}
use Prim.Native.Nat.{ℕ, zero, suc, ◌+◌, ◌-◌, ◌<◌, ◌≤◌}
use native.Mathlib.Decide.{dec_lt}
use native.Mathlib.Omega.{arith}
use lib.Dec.{T, eqb, eqb→eq}
use Rattle.ast.specs.Declarations.{or_else}
use Rattle.ast.specs.Image.{nodes, name_of}
use Rattle.table.specs.Rising.{scope_of, node_at, parent_at}
use Rattle.table.specs.State.{Walked}
use Rattle.table.specs.Table.{Table, row_is, find_from, held, found}
use Rattle.table.proofs.Frame.{found-child}
use Rattle.environment.specs.Layout.{names_most, standing}
use Rattle.environment.specs.Stands.{Tells, Says, Stands, above, First, Path, here, up}
use Rattle.environment.specs.Builder.{Keeps, table_of}
use Rattle.environment.specs.declared.ScopeBuilder.{ScopeBuilder}

module _ (img : List ℕ) where
  -- no row of the scope with the name
  row-not : (ws : List ℕ) (j s x : ℕ) → (scope_of (nodes img) ws j ≡ s → name_of img (node_at (nodes img) ws j) ≡ x → ⊥) → row_is img ws j s x ≡ false
  unfolding row_is
  row-not ws j s x h = go (eqb (scope_of (nodes img) ws j) s) (eqb (name_of img (node_at (nodes img) ws j)) x) (eqb→eq _ _) (eqb→eq _ _)
    where
      go : (a b : Bool) → (T a → scope_of (nodes img) ws j ≡ s) → (T b → name_of img (node_at (nodes img) ws j) ≡ x) → ◌≡◌ {A = Bool} (elim a [ true ↦ b | false ↦ false ]) false
      go true true f g = absurd (h (f tt) (g tt))
      go true false f g = refl
      go false b f g = refl

  from-not : (c : ℕ) (ws : List ℕ) (j s x : ℕ) → ((i : ℕ) → i < j + c → scope_of (nodes img) ws i ≡ s → name_of img (node_at (nodes img) ws i) ≡ x → ⊥) → find_from img c ws j s x ≡ none
  unfolding find_from
  from-not zero ws j s x h = refl
  from-not (suc c) ws j s x h = rw (row-not ws j s x (h j (omega arith)), find_from) (from-not c ws (j + 1) s x (λ i l. h i (omega arith)))

  held-not : (t : Table) (s x : ℕ) → ((i : ℕ) → i < t.symbols → scope_of (nodes img) t.words i ≡ s → name_of img (node_at (nodes img) t.words i) ≡ x → ⊥) → held img t s x ≡ none
  unfolding held
  held-not t s x h = from-not t.symbols t.words 0 s x (λ i l. h i (omega arith))

  -- the word of the name x, where the rows from `first` to `row` were gone over: it tells what x is above the scope, or it still
  -- tells what x is in the scope, and none of the rows has that name
  pub data Word (t : Table) (s first row : ℕ) (env : List ℕ) (x : ℕ) : Type 0 where
    outer : Tells img t (standing env x) (found img t (parent_at (nodes img) t.words s) x) → Word t s first row env x
    still : Tells img t (standing env x) (found img t s x) → ((j : ℕ) → first ≤ j → j < row → name_of img (node_at (nodes img) t.words j) ≡ x → ⊥) → Word t s first row env x

  pub record Leaving (t : Table) (s first : ℕ) (env : List ℕ) (row : ℕ) : Type 0 where
    pub says : Says img t env
    pub live : s < t.scopes
    pub first_is : First img t s first
    pub from : first ≤ row
    pub words : (x : ℕ) → x < names_most → Word t s first row env x

  -- no row more of the scope
  module _ {e : Walked} {first : ℕ} {env : List ℕ} {row : ℕ} (h : Leaving e.table e.scope first env row)
      (done : row < e.table.symbols → scope_of (nodes img) e.table.words row ≡ e.scope → ⊥) where
    abbrev t : Table
    t = e.table

    abbrev s : ℕ
    s = e.scope

    past : (j : ℕ) → j < t.symbols → row ≤ j → scope_of (nodes img) t.words j ≢ s
    past j b l q =
        let c : row < t.symbols = omega arith in
        let a = h.first_is.after row h.from c in
        let r = h.says.kept.rising.rises row j l b in
        done c (omega arith)

    empty : (x : ℕ) → ((j : ℕ) → first ≤ j → j < row → name_of img (node_at (nodes img) t.words j) ≡ x → ⊥) → held img t s x ≡ none
    empty x g = held-not t s x (λ j b q n. pick j b q n (dec_lt j first) (dec_lt j row))
      where
        pick : (j : ℕ) → j < t.symbols → scope_of (nodes img) t.words j ≡ s → name_of img (node_at (nodes img) t.words j) ≡ x → Dec (j < first) → Dec (j < row) → ⊥
        pick j b q n (yes l) d = let z = h.first_is.before j l b in absurd (omega arith)
        pick j b q n (no l) (yes k) = g j (omega arith) k n
        pick j b q n (no l) (no k) = past j b (omega arith) q

    word-done : (x : ℕ) → Word t s first row env x → Tells img t (standing env x) (found img t (parent_at (nodes img) t.words s) x)
    word-done x (outer w) = w
    word-done x (still w g) =
        let p = parent_at (nodes img) t.words s in
        subst (λ o. Tells img t (standing env x) o)
        (found-child img t s p x refl h.first_is.lower ∙ ap (λ o. or_else o (found img t p x)) (empty x g)) w

    pub leaving-done : Stands img (above img e) env
    leaving-done =
        record { says = h.says; live = (let a = h.first_is.lower in let b = h.live in omega arith); here = λ x l. word-done x (h.words x l) }

  -- the loop over the rows of the scope s: its table stays, and the words stay lent
  pub record Leaves (old new : ScopeBuilder) (s first row : ℕ) : Type 0 where
    pub rows : Leaving (table_of new) s first new.env.now row
    pub same : table_of new ≡ table_of old
    pub keeps : Keeps old new

  pub leaves-done : {old new : ScopeBuilder} {s first row : ℕ} → Leaves old new s first row
      → (row < old.symbols → scope_of (nodes img) new.table.now row ≡ s → ⊥) → Stands img (above img (record { scope = s; table = table_of old })) new.env.now
  leaves-done {old} {new} {s} h done =
      let q = ap (λ (t : Table). t.symbols) h.same in
      subst (λ (t : Table). Stands img (above img (record { scope = s; table = t })) new.env.now) h.same
      (leaving-done {e = record { scope = s; table = table_of new }} h.rows (λ l r. done (omega arith) r))

  -- the first step of a path
  pub record Step (t : Table) (to s : ℕ) : Type 0 where
    pub within : s ≤ t.scopes
    pub rows : t.scopes - s ≤ t.symbols
    pub first : First img t s (t.symbols - (t.scopes - s))
    pub rest : Path img t to (parent_at (nodes img) t.words s)

  step : {t : Table} {to s : ℕ} → Path img t to s → to < s → Step t to s
  step here l = absurd (omega arith)
  step (up a b c f p) l = record { within = b; rows = c; first = f; rest = p }

  -- back up a path, in the same table
  pub record Going (t : Table) (to : ℕ) (e : Walked) (env : List ℕ) : Type 0 where
    pub table : e.table ≡ t
    pub stands : Stands img e env
    pub path : Path img e.table to e.scope

  pub going_step : {t : Table} {to : ℕ} {e : Walked} {env : List ℕ} → Going t to e env → to < e.scope → Step e.table to e.scope
  going_step h l = step h.path l
