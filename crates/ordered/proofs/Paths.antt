-- The way from the end of a walk up to its start, and what the table at the end keeps of the one at the start.
use Rattle.std.proofs.lemmas.Bool.{cases_lt}
use mathlib.Core.Path.{◌≡◌, refl, sym, ap, ap₂, subst, ◌∙◌}
use mathlib.Core.Logic.{⊎_elim}
use mathlib.Core.List.{List}
use mathlib.Core.Option.{some}
use Prim.Native.Nat.{ℕ, zero, suc, ◌+◌, ◌-◌, ◌<◌, ◌≤◌}
use native.Mathlib.Omega.{arith}
use Rattle.ast.specs.Image.{nodes}
use Rattle.ast.specs.Tree.{Tree, node, block, Trees, none, ◌◂◌}
use Rattle.ast.proofs.Small.{Small, Smalls}
use Rattle.ast.proofs.Vars.{Everywhere, EverywhereAll}
use Rattle.table.specs.Kept.{Kept}
use Rattle.table.specs.Layout.{node_place}
use Rattle.table.specs.Rising.{scope_of, node_at, parent_at}
use Rattle.table.specs.State.{Walked, introduce, child_scope, own_symbol}
use Rattle.table.specs.Table.{Table, found, mark, new_scope, new_symbol}
use Rattle.table.proofs.Frame.{mark-parent, mark-found, child-parent, child-parent-other, name-parent, new-found-old, new-kept}
use Rattle.table.proofs.Frames.{mark-word, scope-word, symbol-word, symbol-scope}
use Rattle.table.proofs.Kept.{mark-kept, scope_kept, mark-rows, scope-rows, symbol-rows}
use Rattle.environment.specs.Stands.{told, Stands, First, Path, here, up}
use Rattle.environment.proofs.Laws.{Older}
use Rattle.ordered.specs.Walk.{Role, walk, walk_seq}
use Rattle.ordered.specs.Promises.{Few}
use Rattle.ordered.proofs.Moves.{Moves, stay, next, marks, adds, drops, rises, walk-moves, seq-moves}

module _ (img : List ℕ) where
  abbrev N : ℕ
  N = nodes img

  -- from the scope s up to the scope `to`, through scopes that are not below `low`
  data Way (t : Table) (low to : ℕ) : ℕ → Type 0 where
    done : Way t low to to
    step : {s : ℕ} → low ≤ s → s < t.scopes → Way t low to (parent_at N t.words s) → Way t low to s

  -- in a table that keeps the parents; and one way after another
  way_later : {t u : Table} {low to s : ℕ} → t.scopes ≤ u.scopes → ((s : ℕ) → s < t.scopes → parent_at N u.words s ≡ parent_at N t.words s) → Way t low to s → Way u low to s
  way_later l p done = done
  way_later {t} {u} {low} {to} l p (step {s = s} a b w) = step {s = s} a (omega arith) (subst (Way u low to) (sym (p s b)) (way_later l p w))

  way_then : {t : Table} {low mid to m s : ℕ} → low ≤ mid → Way t low to m → Way t mid m s → Way t low to s
  way_then l v done = v
  way_then l v (step {s = s} a b w) = step {s = s} (omega arith) b (way_then l v w)

  -- from e to f: what was there stays; each new scope has one new row, in the same order, and a lower parent
  record Grown (e f : Walked) : Type 0 where
    kept : Kept img f.table
    live : f.scope < f.table.scopes
    more : e.table.scopes ≤ f.table.scopes
    even : f.table.symbols + e.table.scopes ≡ e.table.symbols + f.table.scopes
    rows : (j : ℕ) → j < e.table.symbols → scope_of N f.table.words j ≡ scope_of N e.table.words j
    named : (j : ℕ) → j < e.table.symbols → node_at N f.table.words j ≡ node_at N e.table.words j
    parents : (s : ℕ) → s < e.table.scopes → parent_at N f.table.words s ≡ parent_at N e.table.words s
    lookups : (s x : ℕ) → s < e.table.scopes → found img f.table s x ≡ found img e.table s x
    fresh : (j : ℕ) → e.table.symbols ≤ j → j < f.table.symbols → scope_of N f.table.words j + e.table.symbols ≡ e.table.scopes + j
    lower : (s : ℕ) → e.table.scopes ≤ s → s < f.table.scopes → parent_at N f.table.words s < s
    way : Way f.table e.table.scopes e.scope f.scope

  stays : {e : Walked} → Kept img e.table → e.scope < e.table.scopes → Grown e e
  stays k i =
      record {
        kept = k;
        live = i;
        more = omega arith;
        even = refl;
        rows = λ j l. refl;
        named = λ j l. refl;
        parents = λ s l. refl;
        lookups = λ s x l. refl;
        fresh = λ j l h. absurd (omega arith);
        lower = λ s l h. absurd (omega arith);
        way = done;
      }

  further : {e f g : Walked} → Grown e f → Grown f g → Grown e g
  further {e} {f} {g} v u =
      let m = v.more in
      let n = u.more in
      let a = v.even in
      let b = u.even in
      let y : e.table.symbols ≤ f.table.symbols = omega arith in
      record {
        kept = u.kept;
        live = u.live;
        more = omega arith;
        even = omega arith;
        rows = λ j l. u.rows j (omega arith) ∙ v.rows j l;
        named = λ j l. u.named j (omega arith) ∙ v.named j l;
        parents = λ s l. u.parents s (omega arith) ∙ v.parents s l;
        lookups = λ s x l. u.lookups s x (omega arith) ∙ v.lookups s x l;
        fresh = λ j l h. ⊎_elim (λ k. let p = u.rows j k in let q = v.fresh j l k in omega arith) (λ k. let q = u.fresh j k h in omega arith) (cases_lt j f.table.symbols);
        lower = λ s l h. ⊎_elim (λ k. let p = u.parents s k in let q = v.lower s l k in omega arith) (λ k. u.lower s k h) (cases_lt s f.table.scopes);
        way = way_then m (way_later n u.parents v.way) u.way;
      }

  left : {e : Walked} (n c x : ℕ) → n < N → Kept img e.table → e.scope < e.table.scopes → Grown e (record { scope = e.scope; table = mark img n c x e.table })
  unfolding mark
  left {e} n c x l k i =
      record {
        kept = mark-kept img n c x e.table l k;
        live = i;
        more = omega arith;
        even = refl;
        rows = λ j h. mark-rows img n c x e.table l j;
        named = λ j h. mark-word img n c x e.table (node_place N j) (omega arith) (omega arith);
        parents = λ s h. mark-parent img n c x e.table l s;
        lookups = λ s y h. mark-found img n c x e.table l s y;
        fresh = λ j h z. absurd (omega arith);
        lower = λ s h z. absurd (omega arith);
        way = done;
      }

  added : {e : Walked} (n : ℕ) → Few img (introduce img n e).table → Kept img e.table → e.scope < e.table.scopes → Grown e (introduce img n e)
  unfolding introduce child_scope own_symbol new_scope new_symbol
  added {e} n f k i =
      let a = f.scopes in
      let b = f.symbols in
      let K<N : e.table.scopes < N = omega arith in
      let Y<N : e.table.symbols < N = omega arith in
      let t = new_scope img e.scope e.table in
      let t₂ = new_symbol img e.table.scopes n t in
      let k₁ = scope_kept img e.scope e.table K<N k in
      let r = symbol-scope img e.table.scopes n t Y<N k₁.rising.long in
      let p = name-parent img e.table.scopes n t k₁ Y<N e.table.scopes K<N ∙ child-parent img e.scope e.table k K<N in
      record {
        kept = new-kept img n e k i K<N Y<N;
        live = omega arith;
        more = omega arith;
        even = omega arith;
        rows = λ j l. symbol-rows img e.table.scopes n t j l ∙ scope-rows img e.scope e.table K<N j;
        named = λ j l. symbol-word img e.table.scopes n t (node_place N j) (omega arith) (omega arith) ∙ scope-word img e.scope e.table (node_place N j) (omega arith);
        parents = λ s l. name-parent img e.table.scopes n t k₁ Y<N s (omega arith) ∙ child-parent-other img e.scope e.table k K<N s l;
        lookups = λ s x l. new-found-old img n e k i K<N Y<N s x l;
        fresh = λ j l h. let q : j ≡ e.table.symbols = omega arith in let z = ap (scope_of N t₂.words) q in omega arith;
        lower = λ s l h. let q : s ≡ e.table.scopes = omega arith in let z = ap (parent_at N t₂.words) q in omega arith;
        way = step {s = e.table.scopes} (omega arith) (omega arith) (subst (Way t₂ e.table.scopes e.scope) (sym p) done);
      }

  -- back in the scope of e
  dropped : {e f : Walked} → e.scope < e.table.scopes → Grown e f → Grown e (record { scope = e.scope; table = f.table })
  dropped i g =
      let m = g.more in
      record { kept = g.kept; live = omega arith; more = m; even = g.even; rows = g.rows; named = g.named; parents = g.parents; lookups = g.lookups; fresh = g.fresh; lower = g.lower; way = done }

  -- the steps of a walk over nodes of the image
  abbrev Marks : ℕ → Type 0
  Marks n = n < N

  abbrev Adds : ℕ → Type 0
  Adds n = Unit {0}

  grown : {ns : List ℕ} {e f : Walked} → Moves img Marks Adds ns e f → Few img f.table → Kept img e.table → e.scope < e.table.scopes → Grown e f
  unfolding mark introduce
  grown stay b k i = stays k i
  grown (next v u) b k i =
      let r = rises img Marks Adds u in
      let s = b.scopes in
      let y = b.symbols in
      let g = grown v (record { scopes = omega arith; symbols = omega arith }) k i in
      further g (grown u b g.kept g.live)
  grown (marks n c x l) b k i = left n c x l k i
  grown (adds n a) b k i = added n b k i
  grown (drops v) b k i = dropped i (grown v b k i)

  -- of a walk over small trees
  unfoldable Low : Tree → Type 0
  Low (node n k c sh ts) = n < N
  Low (block ts) = Unit {0}

  mutual
    unfolding Small Everywhere Low

    low : (u : Tree) → Small N u → Everywhere Low u
    low (node n k c sh ts) h = (h.0, lows ts h.1)
    low (block ts) h = lows ts h

    lows : (us : Trees) → Smalls N us → EverywhereAll Low us
    lows none h = tt
    lows (u ◂ us) h = (low u h.0, lows us h.1)

  walk-grown : (r : Role) (u : Tree) (e : Walked) {env : List ℕ} → Small N u → Few img (walk img r u e).table → Stands img e env → Grown e (walk img r u e)
  unfolding Low
  walk-grown r u e h f s = grown (walk-moves img Marks Adds Low (λ n k c sh ts l. (l, λ q. tt)) r u (low u h) e) f s.says.kept s.live

  seq-grown : (r : Role) (us : Trees) (e : Walked) {env : List ℕ} → Smalls N us → Few img (walk_seq img r us e).table → Stands img e env → Grown e (walk_seq img r us e)
  unfolding Low
  seq-grown r us e h f s = grown (seq-moves img Marks Adds Low (λ n k c sh ts l. (l, λ q. tt)) r us (lows us h) e) f s.says.kept s.live

  -- the rows of a new scope start with its one row
  first : {e f : Walked} → Kept img e.table → Grown e f → (s : ℕ) → e.table.scopes ≤ s → s < f.table.scopes → First img f.table s (f.table.symbols - (f.table.scopes - s))
  first {e} {f} k g s l h =
      let m = g.even in
      record {
        lower = g.lower s l h;
        before = λ j a b. ⊎_elim (λ z. let p = g.rows j z in let q = k.under j z in omega arith) (λ z. let p = g.fresh j z b in omega arith) (cases_lt j e.table.symbols);
        after = λ j a b. let p = g.fresh j (omega arith) b in omega arith;
      }

  path : {e f : Walked} {s : ℕ} → Kept img e.table → e.scope < e.table.scopes → Grown e f → Way f.table e.table.scopes e.scope s → Path img f.table e.scope s
  path k i g done = here
  path k i g (step {s = s} a b w) = let m = g.even in up {s = s} (omega arith) (omega arith) (omega arith) (first k g s a b) (path k i g w)

  pub seq-path : (r : Role) (us : Trees) (e : Walked) {env : List ℕ} → Smalls (nodes img) us → Few img (walk_seq img r us e).table → Stands img e env
      → Path img (walk_seq img r us e).table e.scope (walk_seq img r us e).scope
  seq-path r us e q f s = let g = seq-grown r us e q f s in path s.says.kept s.live g g.way

  pub walk-older : (r : Role) (u : Tree) (e : Walked) {env : List ℕ} → Small (nodes img) u → Few img (walk img r u e).table → Stands img e env
      → Older img e.table (walk img r u e).table
  unfolding told
  walk-older r u e q f s =
      let g = walk-grown r u e q f s in
      let m = g.even in
      let l = g.more in
      record { scopes = l; symbols = omega arith; rows = told_same g; lookups = g.lookups }
    where
      told_same : Grown e (walk img r u e) → (w : ℕ) → w ≤ e.table.symbols → told img (walk img r u e).table.words w ≡ told img e.table.words w
      told_same g zero h = refl
      told_same g (suc j) h = ap₂ (λ (m a : ℕ). some (record { node = m; scope = a })) (g.named j (omega arith)) (g.rows j (omega arith))
