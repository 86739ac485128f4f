-- The steps of resolving, and what they keep: parents below their scopes, rows of scopes that are there and of named nodes.
use mathlib.Core.Path.{◌≡◌, refl, ap, subst, ◌∙◌}
use mathlib.Core.Logic.{⊎_elim}
use mathlib.Core.Bool.{true}
use mathlib.Core.List.{List}
use mathlib.Core.Option.{Option, none as nothing, some}
use Prim.Native.Nat.{ℕ, ◌<◌, ◌≤◌}
use native.Mathlib.Omega.{arith}
use native.Mathlib.Nat.{eq-or-lt_of_le}
use lib.ListN.{length, get_or}
use lib.Seq.{get_or-set_same}
use Rattle.ast.specs.Image.{nodes, name_of}
use Rattle.ast.specs.Kinds.{outer, inner, root, decl, signature, rule, enum, model}
use Rattle.ast.specs.Tree.{Tree, node, block, Trees, none, ◌◂◌}
use Rattle.ast.proofs.Unfold.{All, nil, cons}
use Rattle.ast.proofs.Vars.{Everywhere, EverywhereAll}
use Rattle.table.specs.Layout.{all_ones, parent_place, scope_place, node_place, table_length}
use Rattle.table.specs.Rising.{scope_of, node_at, parent_at}
use Rattle.sound.specs.Sound.{is_symbol}
use Rattle.table.specs.State.{Walked, child_scope, own_symbol, introduce, marked, back}
use Rattle.table.specs.Table.{Table, find, mark, new_scope, new_symbol}
use Rattle.table.proofs.Frames.{SameRows, mark-word, scope-word, symbol-word, symbol-same, symbol-scope, symbol-node}
use Rattle.ordered.specs.Walk.{occurs, walk_seq}
use Rattle.ordered.specs.Promises.{Few}
use Rattle.table.proofs.Kept.{mark-length, scope-length, symbol-length}
use Rattle.ordered.proofs.Moves.{Moves as Walks, stay as rests, next as goes, marks as records, adds as brings, drops as leaves, seq-moves as walks_seq}
use Rattle.scopes.specs.Resolve.{Unused, parent, scope, symbol}
use Rattle.scopes.specs.Walk.{Listed, done, twice, recorded_all, enter_name, and_then, enter_names, mark_all, enter_all, visit, visit_all}
use Rattle.scopes.proofs.Adds.{recorded_all-small, named, done-same, twice-done, opened}
use Rattle.scopes.proofs.Namings.{Fit, Symbols, declared_all-symbols, fit-smalls}

module _ (img : List ℕ) where
  pub data Moves : Walked → Walked → Type 0 where
    stay : {e : Walked} → Moves e e
    next : {e f g : Walked} → Moves e f → Moves f g → Moves e g
    -- a node's two places
    marks : {e : Walked} (n a b : ℕ) → n < nodes img → Moves e (record { scope = e.scope; table = mark img n a b e.table })
    -- a symbol of the scope
    adds : {e : Walked} (n : ℕ) → is_symbol img n ≡ true → Moves e (own_symbol img n e)
    -- a scope below the scope
    opens : {e : Walked} → Moves e (child_scope img e)
    -- what is added is dropped
    drops : {e f : Walked} → Moves e f → Moves e (back img e.scope f)

  -- the nodes that a walk may mark, and those that it may add as symbols
  abbrev Low : ℕ → Type 0
  Low n = n < nodes img

  abbrev Symbol : ℕ → Type 0
  Symbol n = is_symbol img n ≡ true

  from-walk : {ns : List ℕ} {e f : Walked} → Walks img Low Symbol ns e f → Moves e f
  unfolding introduce
  from-walk rests = stay
  from-walk (goes m n) = next (from-walk m) (from-walk n)
  from-walk (records n c x l) = marks n c x l
  from-walk (brings n h) = next opens (adds n h)
  from-walk (leaves m) = drops (from-walk m)

  seq-moves : (us : Trees) → EverywhereAll (Fit img) us → (e : Walked) → Moves e (walk_seq img occurs us e)
  unfolding Fit
  seq-moves us q e = from-walk (walks_seq img Low Symbol (Fit img) (λ n k c sh ts h. h) occurs us q e)

  marked-moves : {n : ℕ} → n < nodes img → (cur : ℕ) {e f : Walked} → Moves e f → Moves e (marked img n cur f)
  unfolding marked
  marked-moves {n} l cur {e} {f} m = next m (marks n cur f.scope l)

  -- declarations, where the walk is not stopped
  abbrev pub Ends : Walked → Listed → Type 0
  Ends e l = (f : Walked) → l ≡ done f → Moves e f

  ends : {e f : Walked} → Moves e f → Ends e (done f)
  ends {e} {f} m g q = subst (Moves e) (done-same f g q) m

  pub ends-and : {e : Walked} (l : Listed) (g : Walked → Listed) → Ends e l → ((f : Walked) → Ends f (g f)) → Ends e (and_then img l g)
  unfolding and_then
  ends-and (done h) g m n f q = next (m h refl) (n h f q)
  ends-and (twice x a b) g m n f q = absurd (twice-done x a b f q)

  name-ends : (n : ℕ) (e : Walked) → is_symbol img n ≡ true → Ends e (enter_name img n e)
  unfolding enter_name named
  name-ends n e h = go (find img e.table e.scope (name_of img n))
    where
      go : (o : Option ℕ) → Ends e (named img n e o)
      go nothing = ends (adds n h)
      go (some first) = λ f q. absurd (twice-done (name_of img n) first n f q)

  after : {e f : Walked} {l : Listed} → Moves e f → Ends f l → Ends e l
  after m n g q = next m (n g q)

  names-ends : {ns : List ℕ} → Symbols img ns → (e : Walked) → Ends e (enter_names img ns e)
  unfolding enter_names
  names-ends nil e = ends stay
  names-ends (cons {c = n} {cs = ns} h q) e = ends-and (enter_name img n e) (enter_names img ns) (name-ends n e h) (λ f. names-ends q f)

  marks-moves : {ns : List ℕ} → All Low ns → (e : Walked) → Moves e (mark_all img ns e)
  unfolding mark_all
  marks-moves nil e = stay
  marks-moves (cons {c = n} l q) e = next (marked-moves l e.scope stay) (marks-moves q (marked img n e.scope e))

  pub enter_all-ends : (us : Trees) → EverywhereAll (Fit img) us → (e : Walked) → Ends e (enter_all img us e)
  unfolding enter_all
  enter_all-ends us q e = after (marks-moves (recorded_all-small (nodes img) us (fit-smalls img us q)) e) (names-ends (declared_all-symbols img us q) (mark_all img (recorded_all us) e))

  open-moves : {n : ℕ} → n < nodes img → (e : Walked) → Moves e (opened img n e)
  open-moves {n} l e = marked-moves l e.table.scopes opens

  back-ends : {e : Walked} (l : Listed) → Ends e l → Ends e (and_then img l (λ f. done (back img e.scope f)))
  unfolding and_then
  back-ends (done h) m = ends (drops (m h refl))
  back-ends (twice x a b) m = λ f q. absurd (twice-done x a b f q)

  mutual
    unfolding visit Everywhere Fit

    visit-ends : (u : Tree) → Everywhere (Fit img) u → (e : Walked) → Ends e (visit img u e)
    visit-ends (block ts) q e = ends stay
    visit-ends (node n k (inner i) sh ts) q e = ends stay
    visit-ends (node n k (outer root) sh ts) q e = ends stay
    visit-ends (node n k (outer decl) sh ts) q e = visit_all-ends ts q.1 e
    visit-ends (node n k (outer signature) sh ts) q e = ends (drops (seq-moves ts q.1 e))
    visit-ends (node n k (outer rule) sh ts) q e = ends (drops (seq-moves ts q.1 e))
    visit-ends (node n k (outer enum) sh ts) q e = visit_all-ends ts q.1 e
    visit-ends (node n k (outer model) sh ts) q e =
        back-ends (and_then img (enter_all img ts (opened img n e)) (visit_all img ts))
        (after (open-moves q.0.0 e) (ends-and (enter_all img ts (opened img n e)) (visit_all img ts) (enter_all-ends ts q.1 (opened img n e)) (λ f. visit_all-ends ts q.1 f)))

    pub visit_all-ends : (us : Trees) → EverywhereAll (Fit img) us → (e : Walked) → Ends e (visit_all img us e)
    visit_all-ends none q e = ends stay
    visit_all-ends (u ◂ us) q e = ends-and (visit img u e) (visit_all img us) (visit-ends u q.0 e) (λ f. visit_all-ends us q.1 f)

  pub rises : {e f : Walked} → Moves e f → (e.table.scopes ≤ f.table.scopes) × (e.table.symbols ≤ f.table.symbols)
  unfolding mark child_scope own_symbol new_scope new_symbol
  rises stay = (omega arith, omega arith)
  rises (next m n) = let a = rises m in let b = rises n in (omega arith, omega arith)
  rises (marks n a b l) = (omega arith, omega arith)
  rises (adds n h) = (omega arith, omega arith)
  rises opens = (omega arith, omega arith)
  rises (drops m) = rises m

  -- what document 01 calls sound, of a table that a walk fills
  pub record Good (e : Walked) : Type 0 where
    pub long : table_length (nodes img) ≤ length e.table.words
    pub live : e.scope < e.table.scopes
    pub root : parent_at (nodes img) e.table.words 0 ≡ all_ones
    pub parents : (s : ℕ) → 1 ≤ s → s < e.table.scopes → parent_at (nodes img) e.table.words s < s
    pub scopes : (j : ℕ) → j < e.table.symbols → scope_of (nodes img) e.table.words j < e.table.scopes
    pub symbols : (j : ℕ) → j < e.table.symbols → is_symbol img (node_at (nodes img) e.table.words j) ≡ true

  pub good-mark : (n a b : ℕ) (e : Walked) → n < nodes img → Good e → Good (record { scope = e.scope; table = mark img n a b e.table })
  unfolding mark
  good-mark n a b e l g =
      record {
        long = (let z = mark-length img n a b e.table in let y = g.long in omega arith);
        live = g.live;
        root = mark-word img n a b e.table (parent_place (nodes img) 0) (omega arith) (omega arith) ∙ g.root;
        parents = λ s h k. let z = mark-word img n a b e.table (parent_place (nodes img) s) (omega arith) (omega arith) in let y = g.parents s h k in omega arith;
        scopes = λ j k. let z = mark-word img n a b e.table (scope_place (nodes img) j) (omega arith) (omega arith) in let y = g.scopes j k in omega arith;
        symbols = λ j k. ap (is_symbol img) (mark-word img n a b e.table (node_place (nodes img) j) (omega arith) (omega arith)) ∙ g.symbols j k;
      }

  good-open : (e : Walked) → e.table.scopes < nodes img → e.table.symbols ≤ nodes img → Good e → Good (child_scope img e)
  unfolding child_scope new_scope
  good-open e h y g =
      record {
        long = (let z = scope-length img e.scope e.table in let x = g.long in omega arith);
        live = omega arith;
        root = scope-word img e.scope e.table (parent_place (nodes img) 0) (λ q. let z = g.live in omega arith) ∙ g.root;
        parents = λ s l k. ⊎_elim (new s) (old s l) (eq-or-lt_of_le (let z : s ≤ e.table.scopes = omega arith in z));
        scopes = λ j k. let z = scope-word img e.scope e.table (scope_place (nodes img) j) (λ q. omega arith) in let x = g.scopes j k in omega arith;
        symbols = λ j k. ap (is_symbol img) (scope-word img e.scope e.table (node_place (nodes img) j) (λ q. omega arith)) ∙ g.symbols j k;
      }
    where
      vs : List ℕ
      vs = (new_scope img e.scope e.table).words

      new : (s : ℕ) → s ≡ e.table.scopes → parent_at (nodes img) vs s < s
      new s q =
          let z : parent_at (nodes img) vs s ≡ e.scope = ap (parent_at (nodes img) vs) q ∙ get_or-set_same e.table.words (parent_place (nodes img) e.table.scopes) e.scope 0 (let l = g.long in omega arith) in
          let l = g.live in
          omega arith

      old : (s : ℕ) → 1 ≤ s → s < e.table.scopes → parent_at (nodes img) vs s < s
      old s l k = let z = scope-word img e.scope e.table (parent_place (nodes img) s) (λ q. omega arith) in let x = g.parents s l k in omega arith

  good-add : (n : ℕ) (e : Walked) → is_symbol img n ≡ true → e.table.symbols < nodes img → e.table.scopes ≤ nodes img → Good e → Good (own_symbol img n e)
  unfolding own_symbol new_symbol
  good-add n e i h k g =
      record {
        long = (let z = symbol-length img e.scope n e.table in let x = g.long in omega arith);
        live = g.live;
        root = symbol-word img e.scope n e.table (parent_place (nodes img) 0) (omega arith) (omega arith) ∙ g.root;
        parents = λ s l m. let z = symbol-word img e.scope n e.table (parent_place (nodes img) s) (omega arith) (omega arith) in let x = g.parents s l m in omega arith;
        scopes = λ j l. ⊎_elim (λ q. let z = ap (scope_of (nodes img) vs) q in let y = symbol-scope img e.scope n e.table h g.long in let x = g.live in omega arith) (λ m. let z = same.scopes j m in let x = g.scopes j m in omega arith) (eq-or-lt_of_le (let z : j ≤ e.table.symbols = omega arith in z));
        symbols = λ j l. ⊎_elim (λ q. ap (is_symbol img) (ap (node_at (nodes img) vs) q ∙ symbol-node img e.scope n e.table h g.long) ∙ i) (λ m. ap (is_symbol img) (same.nodes j m) ∙ g.symbols j m) (eq-or-lt_of_le (let z : j ≤ e.table.symbols = omega arith in z));
      }
    where
      vs : List ℕ
      vs = (new_symbol img e.scope n e.table).words

      same : SameRows (nodes img) e.table.symbols vs e.table.words
      same = symbol-same img e.scope n e.table h

  -- resolving keeps it, where the counts are within the arrays
  pub moves-good : {e f : Walked} → Moves e f → Few img f.table → Good e → Good f
  unfolding child_scope own_symbol new_scope new_symbol
  moves-good stay h g = g
  moves-good (next m n) h g =
      let r = rises n in
      let a = h.scopes in
      let b = h.symbols in
      moves-good n h (moves-good m (record { scopes = omega arith; symbols = omega arith }) g)
  moves-good (marks {e = e} n a b l) h g = good-mark n a b e l g
  moves-good (adds {e = e} n i) h g = good-add n e i (let b = h.symbols in omega arith) h.scopes g
  moves-good (opens {e = e}) h g = good-open e (let a = h.scopes in omega arith) h.symbols g
  moves-good (drops {e = e} {f = f} m) h g =
      let r = rises m in
      let k = moves-good m h g in
      let l = g.live in
      record { long = k.long; live = omega arith; root = k.root; parents = k.parents; scopes = k.scopes; symbols = k.symbols }

  -- an unused place was unused before, in a table of fewer scopes and symbols
  pub unused-below : {t u : Table} {i : ℕ} → t.scopes ≤ u.scopes → t.symbols ≤ u.symbols → Unused img u i → Unused img t i
  unused-below a b (parent k l h) = parent k (omega arith) h
  unused-below a b (scope j l h) = scope j (omega arith) h
  unused-below a b (symbol j l h) = symbol j (omega arith) h

  pub unused-marked : (n a b : ℕ) (t : Table) → n < nodes img → {i : ℕ} → Unused img t i → get_or (mark img n a b t).words i 0 ≡ get_or t.words i 0
  unused-marked n a b t l (parent k p h) = mark-word img n a b t (parent_place (nodes img) k) (omega arith) (omega arith)
  unused-marked n a b t l (scope j p h) = mark-word img n a b t (scope_place (nodes img) j) (omega arith) (omega arith)
  unused-marked n a b t l (symbol j p h) = mark-word img n a b t (node_place (nodes img) j) (omega arith) (omega arith)

  pub unused-opened : (p : ℕ) (t : Table) → t.scopes < nodes img → {i : ℕ} → Unused img (new_scope img p t) i → get_or (new_scope img p t).words i 0 ≡ get_or t.words i 0
  unfolding new_scope
  unused-opened p t l (parent k q h) = scope-word img p t (parent_place (nodes img) k) (λ z. omega arith)
  unused-opened p t l (scope j q h) = scope-word img p t (scope_place (nodes img) j) (λ z. omega arith)
  unused-opened p t l (symbol j q h) = scope-word img p t (node_place (nodes img) j) (λ z. omega arith)

  unused-added : (s n : ℕ) (t : Table) → t.symbols < nodes img → {i : ℕ} → Unused img (new_symbol img s n t) i → get_or (new_symbol img s n t).words i 0 ≡ get_or t.words i 0
  unfolding new_symbol
  unused-added s n t l (parent k q h) = symbol-word img s n t (parent_place (nodes img) k) (λ z. omega arith) (λ z. omega arith)
  unused-added s n t l (scope j q h) = symbol-word img s n t (scope_place (nodes img) j) (λ z. omega arith) (λ z. omega arith)
  unused-added s n t l (symbol j q h) = symbol-word img s n t (node_place (nodes img) j) (λ z. omega arith) (λ z. omega arith)

  pub mark-unused : (n a b : ℕ) (t : Table) {i : ℕ} → Unused img (mark img n a b t) i → Unused img t i
  unfolding mark
  mark-unused n a b t u = unused-below (omega arith) (omega arith) u

  add-few : (s n : ℕ) (t : Table) → (new_symbol img s n t).symbols ≤ nodes img → t.symbols < nodes img
  unfolding new_symbol
  add-few s n t h = omega arith

  open-few : (p : ℕ) (t : Table) → (new_scope img p t).scopes ≤ nodes img → t.scopes < nodes img
  unfolding new_scope
  open-few p t h = omega arith

  -- resolving stores nothing there
  pub moves-unused : {e f : Walked} → Moves e f → Few img f.table → {i : ℕ} → Unused img f.table i → get_or f.table.words i 0 ≡ get_or e.table.words i 0
  unfolding child_scope own_symbol
  moves-unused stay h u = refl
  moves-unused (next m n) h u =
      let r = rises n in
      let a = h.scopes in
      let b = h.symbols in
      moves-unused n h u ∙ moves-unused m (record { scopes = omega arith; symbols = omega arith }) (unused-below r.0 r.1 u)
  moves-unused (marks {e = e} n a b l) h u = unused-marked n a b e.table l (mark-unused n a b e.table u)
  moves-unused (adds {e = e} n i) h u = unused-added e.scope n e.table (add-few e.scope n e.table h.symbols) u
  moves-unused (opens {e = e}) h u = unused-opened e.scope e.table (open-few e.scope e.table h.scopes) u
  moves-unused (drops m) h u = moves-unused m h u
