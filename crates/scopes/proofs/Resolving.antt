-- What Resolve leaves, as theorems about its definition: K and Y within their bounds, a table that is sound, the words past it
-- untouched; and "twice" exactly if some module or model list declares a name twice, at the first clash.
use mathlib.Core.Path.{◌≡◌, refl, sym, ap, subst, ◌∙◌}
use mathlib.Core.List.{List}
use mathlib.Core.Option.{some}
use Prim.Native.Nat.{ℕ, zero, suc, ◌+◌, ◌-◌, ◌<◌, ◌≤◌}
use native.Mathlib.Omega.{arith}
use native.Mathlib.Nat.{zero-add}
use lib.Dec.{leb→le}
use lib.ListN.{length, get_or, set, drop, length-set}
use lib.Seq.{get_or-set_same, get_or-set_other, drop-set-lt}
use Rattle.ast.specs.Answer.{twice as twice_answer, result}
use Rattle.ast.specs.Image.{nodes, last, kind_at, name_of}
use Rattle.ast.specs.Declarations.{module_lists}
use Rattle.ast.specs.Rows.{kids, shape}
use Rattle.ast.specs.Kinds.{Class}
use Rattle.ast.specs.Tests.{run, verdict}
use Rattle.ast.specs.Tree.{Tree, node, block, Trees, ordered, grow, class_at, tree_at, size}
use Rattle.ast.proofs.Accepted.{both, needed, skip, formed, last-below}
use Rattle.ast.proofs.Unfold.{tree_at-is}
use Rattle.ast.proofs.Count.{tree-size}
use Rattle.ast.proofs.Small.{Small, tree-small}
use Rattle.ast.proofs.Vars.{Everywhere}
use Rattle.table.specs.Layout.{all_ones, nodes_place, scopes_place, symbols_place, parent_place, scope_place, node_place, table_length}
use Rattle.sound.specs.Sound.{is_symbol, scopes_in, symbols_in, test_sound}
use Rattle.table.specs.State.{Walked, marked}
use Rattle.table.specs.Table.{Table, mark, new_scope}
use Rattle.sound.proofs.Sounds.{Read, parent-low, row-yes, sound-rest}
use Rattle.ordered.specs.Promises.{Few}
use Rattle.table.specs.Kept.{Kept}
use Rattle.table.proofs.Kept.{past, mark-kept, scope_kept, mark-past, scope-past, mark-length, scope-length}
use Rattle.rows.proofs.Appends.{clear-length, clear-long, clear-past}
use Rattle.scopes.specs.Walk.{done, enter_all, visit_all, resolve_tree}
use Rattle.scopes.specs.Resolve.{test_table, zeroed, walked, headed, Way, refuses, stops, fills, way, answer_by, table_by, table_call, resolve, Unused}
use Rattle.scopes.specs.Clash.{Clash, clash_in, first_clash}
use Rattle.scopes.proofs.Adds.{addss, Newest, list-in}
use Rattle.scopes.proofs.Calls.{Went, went}
use Rattle.scopes.proofs.Clashes.{shows, list-shown, visit_all-shown}
use Rattle.scopes.proofs.Namings.{Fit, tree-fits}
use Rattle.scopes.proofs.Moves.{Good, good-mark, moves-good, unused-below, unused-marked, unused-opened, mark-unused, moves-unused, enter_all-ends, visit_all-ends, ends-and}

-- a table with no scope and no symbol
pub none_kept : (img ws : List ℕ) → table_length (nodes img) ≤ length ws → Kept img (record { words = ws; scopes = 0; symbols = 0 })
none_kept img ws long = record { rising = record { within = omega arith; long = long; rises = λ i j a b. absurd (omega arith) }; under = λ j b. absurd (omega arith) }

-- the module's own scope in it
module _ (img ws : List ℕ) (n : ℕ) (below : n < nodes img) (long : table_length (nodes img) ≤ length ws) where
  abbrev empty : Table
  empty = record { words = ws; scopes = 0; symbols = 0 }

  abbrev pub begun : Walked
  begun = marked img n 0 (record { scope = 0; table = new_scope img all_ones empty })

  pub begun-counts : (begun.scope ≡ 0) × (begun.table.scopes ≡ 1) × (begun.table.symbols ≡ 0)
  unfolding marked mark new_scope
  begun-counts = (refl, zero-add 1, refl)

  pub begun-newest : Newest img begun
  unfolding marked mark new_scope
  begun-newest =
      record {
        kept = mark-kept img n 0 0 (new_scope img all_ones empty) below (scope_kept img all_ones empty (omega arith) (none_kept img ws long));
        last = (let z : suc 0 ≡ 0 + 1 = omega arith in z);
      }

  pub begun-length : length begun.table.words ≡ length ws
  unfolding marked
  begun-length = mark-length img n 0 0 (new_scope img all_ones empty) ∙ scope-length img all_ones empty

  pub begun-past : past img begun.table ≡ drop (table_length (nodes img)) ws
  unfolding marked
  begun-past = mark-past img n 0 0 (new_scope img all_ones empty) below ∙ scope-past img all_ones empty (omega arith)

  begun-good : Good img begun
  unfolding marked new_scope
  begun-good =
      good-mark img n 0 0 (record { scope = 0; table = new_scope img all_ones empty }) below
      (record {
        long = (let z = scope-length img all_ones empty in omega arith);
        live = omega arith;
        root = get_or-set_same ws (parent_place (nodes img) 0) all_ones 0 (omega arith);
        parents = λ s l k. absurd (omega arith);
        scopes = λ j k. absurd (omega arith);
        symbols = λ j k. absurd (omega arith);
      })

  begun-unused : 0 < nodes img → {i : ℕ} → Unused img begun.table i → get_or begun.table.words i 0 ≡ get_or ws i 0
  unfolding marked
  begun-unused l u =
      let v = mark-unused img n 0 0 (new_scope img all_ones empty) u in
      unused-marked img n 0 0 (new_scope img all_ones empty) below v ∙ unused-opened img all_ones empty l v

-- what is done at the end of the module
pub record Ended (img ws : List ℕ) (e : Walked) : Type 0 where
  pub outer : e.scope ≡ 0
  pub some : 1 ≤ e.table.scopes
  pub scopes : e.table.scopes ≤ nodes img
  pub symbols : e.table.symbols ≤ nodes img
  pub long : length e.table.words ≡ length ws
  pub passed : past img e.table ≡ drop (table_length (nodes img)) ws
  pub kept : Kept img e.table
  pub good : Good img e
  pub unused : {i : ℕ} → Unused img e.table i → get_or e.table.words i 0 ≡ get_or ws i 0

module _ (img ws : List ℕ) (long : table_length (nodes img) ≤ length ws) where
  tree-ended : (n k : ℕ) (c : Class) (sh : List ℕ) (ts : Trees) → Small (nodes img) (node n k c sh ts) → Everywhere (Fit img) (node n k c sh ts) → size (node n k c sh ts) ≤ nodes img
      → (e : Walked) → resolve_tree img (node n k c sh ts) (record { words = ws; scopes = 0; symbols = 0 }) ≡ done e → Ended img ws e
  unfolding resolve_tree Small Everywhere size
  tree-ended n k c sh ts q fit s e h =
      let m = begun img ws n q.0 long in
      let w = (list-in img ts m q.1 (begun-newest img ws n q.0 long)).went e h in
      let (z, o, y) = begun-counts img ws n q.0 long in
      let a = w.scopes in
      let b = w.symbols in
      let d = addss ts in
      let g = w.more in
      let few : Few img e.table = record { scopes = omega arith; symbols = omega arith } in
      let steps = ends-and img (enter_all img ts m) (visit_all img ts) (enter_all-ends img ts fit.1 m) (λ f. visit_all-ends img ts fit.1 f) e h in
      record {
        outer = w.same ∙ z;
        some = omega arith;
        scopes = omega arith;
        symbols = omega arith;
        long = w.long ∙ begun-length img ws n q.0 long;
        passed = w.passed few ∙ begun-past img ws n q.0 long;
        kept = w.keeps few (begun-newest img ws n q.0 long).kept;
        good = moves-good img steps few (begun-good img ws n q.0 long);
        unused = λ u. moves-unused img steps few u ∙ begun-unused img ws n q.0 long (omega arith) (unused-below img (omega arith) (omega arith) u);
      }

  tree-shown : (u : Tree) → Small (nodes img) u → size u ≤ nodes img → shows (resolve_tree img u (record { words = ws; scopes = 0; symbols = 0 })) ≡ clash_in (name_of img) (module_lists u)
  unfolding resolve_tree Small size clash_in module_lists shows
  tree-shown (block ts) q s = refl
  tree-shown (node n k c sh ts) q s =
      let m = begun img ws n q.0 long in
      let (z, o, y) = begun-counts img ws n q.0 long in
      let d = addss ts in
      list-shown img ts m q.1 (λ f h. visit_all-shown img ts q.1 f h) (begun-newest img ws n q.0 long) (λ j k. absurd (omega arith)) (omega arith) (omega arith)

module _ (img tab : List ℕ) where
  pub table-accepted : test_table img tab ≡ 0 → verdict img ≡ 0
  unfolding test_table
  table-accepted e = (both _ _ e).0

  pub table-long : test_table img tab ≡ 0 → table_length (nodes img) ≤ length tab
  unfolding test_table
  table-long e = leb→le _ _ (needed 12 _ (both _ _ e).1)

  pub zeroed-length : table_length (nodes img) ≤ length tab → length (zeroed img tab) ≡ length tab
  unfolding zeroed
  zeroed-length h = clear-length (table_length (nodes img)) tab h

  pub zeroed-long : table_length (nodes img) ≤ length (zeroed img tab)
  unfolding zeroed
  zeroed-long = clear-long (table_length (nodes img)) tab

  pub zeroed-past : drop (table_length (nodes img)) (zeroed img tab) ≡ drop (table_length (nodes img)) tab
  unfolding zeroed
  zeroed-past = clear-past (table_length (nodes img)) tab

  module _ (accepted : verdict img ≡ 0) where
    whole-size : size (tree_at img (last img)) ≡ nodes img
    whole-size = tree-size img accepted

    pub walk-ended : (e : Walked) → walked img tab ≡ done e → Ended img (zeroed img tab) e
    unfolding walked
    walk-ended e h =
        let n = last img in
        let below = last-below img accepted in
        let is = tree_at-is img (formed img accepted) n below in
        let ts = ordered (class_at img n) (grow (tree_at img) (kids img n)) in
        tree-ended img (zeroed img tab) zeroed-long n (kind_at img n) (class_at img n) (shape img n) ts
        (subst (Small (nodes img)) is (tree-small img n)) (subst (Everywhere (Fit img)) is (tree-fits img accepted n below))
        (let z = ap size is in let y = whole-size in omega arith) e
        (ap (λ (u : Tree). resolve_tree img u (record { words = zeroed img tab; scopes = 0; symbols = 0 })) (sym is) ∙ h)

    walk-shown : shows (walked img tab) ≡ first_clash img
    unfolding walked first_clash
    walk-shown = tree-shown img (zeroed img tab) zeroed-long (tree_at img (last img)) (tree-small img (last img)) (let z = whole-size in omega arith)

  pub walked-ended : test_table img tab ≡ 0 → (e : Walked) → walked img tab ≡ done e → Ended img (zeroed img tab) e
  walked-ended p e h = walk-ended (table-accepted p) e h

  pub walked-shown : test_table img tab ≡ 0 → shows (walked img tab) ≡ first_clash img
  walked-shown p = walk-shown (table-accepted p)

-- the table with its counts -----------------------------------------------------------------------------------------------
module _ (img : List ℕ) (t : Table) where
  pub headed-word : (i : ℕ) → 3 ≤ i → get_or (headed img t) i 0 ≡ get_or t.words i 0
  unfolding headed
  headed-word i l =
      get_or-set_other (set (set t.words nodes_place (nodes img)) scopes_place t.scopes) symbols_place i t.symbols 0 (λ q. omega arith)
      ∙ get_or-set_other (set t.words nodes_place (nodes img)) scopes_place i t.scopes 0 (λ q. omega arith)
      ∙ get_or-set_other t.words nodes_place i (nodes img) 0 (λ q. omega arith)

  pub headed-length : length (headed img t) ≡ length t.words
  unfolding headed
  headed-length = length-set (set (set t.words nodes_place (nodes img)) scopes_place t.scopes) symbols_place t.symbols ∙ length-set (set t.words nodes_place (nodes img)) scopes_place t.scopes ∙ length-set t.words nodes_place (nodes img)

  pub headed-past : drop (table_length (nodes img)) (headed img t) ≡ past img t
  unfolding headed
  headed-past =
      let L = table_length (nodes img) in
      drop-set-lt L (set (set t.words nodes_place (nodes img)) scopes_place t.scopes) symbols_place t.symbols (omega arith)
      ∙ drop-set-lt L (set t.words nodes_place (nodes img)) scopes_place t.scopes (omega arith)
      ∙ drop-set-lt L t.words nodes_place (nodes img) (omega arith)

  module _ (long : table_length (nodes img) ≤ length t.words) where
    pub headed-nodes : get_or (headed img t) nodes_place 0 ≡ nodes img
    unfolding headed
    headed-nodes =
        get_or-set_other (set (set t.words nodes_place (nodes img)) scopes_place t.scopes) symbols_place nodes_place t.symbols 0 (λ q. omega arith)
        ∙ get_or-set_other (set t.words nodes_place (nodes img)) scopes_place nodes_place t.scopes 0 (λ q. omega arith)
        ∙ get_or-set_same t.words nodes_place (nodes img) 0 (omega arith)

    pub headed-scopes : scopes_in img (headed img t) ≡ t.scopes
    unfolding headed
    headed-scopes =
        get_or-set_other (set (set t.words nodes_place (nodes img)) scopes_place t.scopes) symbols_place scopes_place t.symbols 0 (λ q. omega arith)
        ∙ get_or-set_same (set t.words nodes_place (nodes img)) scopes_place t.scopes 0 (rw length-set (omega arith))

    pub headed-symbols : symbols_in img (headed img t) ≡ t.symbols
    unfolding headed
    headed-symbols = get_or-set_same (set (set t.words nodes_place (nodes img)) scopes_place t.scopes) symbols_place t.symbols 0 (rw length-set (rw length-set (omega arith)))

-- a run of tests that all pass
run-all : (f : ℕ → ℕ) (c i : ℕ) → ((j : ℕ) → i ≤ j → j < i + c → f j ≡ 0) → run f c i ≡ 0
unfolding run
run-all f zero i h = refl
run-all f (suc c) i h = skip _ _ (h i (omega arith) (omega arith)) ∙ run-all f c (i + 1) (λ j l k. h j (omega arith) (omega arith))

-- 16 does not refuse it
pub headed-sound : (img ws : List ℕ) (e : Walked) → table_length (nodes img) ≤ length ws → Ended img ws e → test_sound img (headed img e.table) ≡ 0
headed-sound img ws e long d =
    let t = e.table in
    let vs = headed img t in
    let l : table_length (nodes img) ≤ length t.words = (let z = d.long in omega arith) in
    let k = headed-scopes img t l in
    let y = headed-symbols img t l in
    let g = d.good in
    let r : Read img vs (nodes img) (nodes img) t.scopes t.symbols = record { nodes_are = refl; first-is = sym (headed-nodes img t l); scopes-are = sym k; symbols-are = sym y } in
    sound-rest img vs r refl (λ q. let s = d.some in omega arith) d.scopes d.symbols
    (headed-word img t (parent_place (nodes img) 0) (omega arith) ∙ g.root)
    ∙ skip _ _ (run-all _ (t.scopes - 1) 1 (λ s a b. parent-low img vs s _ refl (let z = headed-word img t (parent_place (nodes img) s) (omega arith) in let p = g.parents s a (omega arith) in omega arith)))
    ∙ run-all _ t.symbols 0 (λ j a b.
    row-yes img vs j _ t.scopes refl (sym k) _ refl (let z = headed-word img t (scope_place (nodes img) j) (omega arith) in let p = g.scopes j (omega arith) in omega arith)
    (ap (is_symbol img) (headed-word img t (node_place (nodes img) j) (omega arith)) ∙ g.symbols j (omega arith)))

-- what a call that resolves leaves in the table ---------------------------------------------------------------------------
module _ (img tab : List ℕ) {r : ℕ} (tested : r ≡ 0 → test_table img tab ≡ 0) where
  -- the words past 3 + 5N are untouched, and the length stays
  pub past-kept : drop (table_length (nodes img)) (table_by img tab (way img tab r)) ≡ drop (table_length (nodes img)) tab
  unfolding table_by
  past-kept = go (way img tab r) (went img tab r)
    where
      go : (w : Way) → Went img tab r w → drop (table_length (nodes img)) (table_by img tab w) ≡ drop (table_length (nodes img)) tab
      go (refuses k) h = refl
      go (stops x a b) h = zeroed-past img tab
      go (fills t) (p, (e, h, q)) =
          ap (λ (u : Table). drop (table_length (nodes img)) u.words) q
          ∙ headed-past img e.table ∙ (walked-ended img tab (tested p) e h).passed ∙ zeroed-past img tab

  pub long_kept : length (table_by img tab (way img tab r)) ≡ length tab
  unfolding table_by
  long_kept = go (way img tab r) (went img tab r)
    where
      go : (w : Way) → Went img tab r w → length (table_by img tab w) ≡ length tab
      go (refuses k) h = refl
      go (stops x a b) (p, h) = zeroed-length img tab (table-long img tab (tested p))
      go (fills t) (p, (e, h, q)) =
          ap (λ (u : Table). length u.words) q
          ∙ headed-length img e.table ∙ (walked-ended img tab (tested p) e h).long ∙ zeroed-length img tab (table-long img tab (tested p))

-- Resolve -----------------------------------------------------------------------------------------------------------------
module _ (img tab : List ℕ) where
  -- a result: what the walk ended with
  pub record Fills (k y : ℕ) (ws : List ℕ) : Type 0 where
    pub end : Walked
    pub passes : test_table img tab ≡ 0
    pub is : walked img tab ≡ done end
    pub scopes_are : end.table.scopes ≡ k
    pub symbols_are : end.table.symbols ≡ y
    pub table_is : ws ≡ headed img end.table

  pub filled : (k y : ℕ) → (resolve img tab).answer ≡ result k y → Fills k y (resolve img tab).table
  unfolding resolve table_call answer_by table_by
  filled k y = go (way img tab (test_table img tab)) (went img tab (test_table img tab))
    where
      go : (w : Way) → Went img tab (test_table img tab) w → answer_by (λ t. result t.scopes t.symbols) w ≡ result k y → Fills k y (table_by img tab w)
      go (refuses r) h z = let w : ◌≡◌ {A = ℕ} 0 1 = cc in absurd (omega arith)
      go (stops x a b) h z = let w : ◌≡◌ {A = ℕ} 0 1 = cc in absurd (omega arith)
      go (fills t) (p, (e, h, q)) z =
          let i : t.scopes ≡ k = cc in
          let j : t.symbols ≡ y = cc in
          record {
            end = e;
            passes = p;
            is = h;
            scopes_are = sym (ap (λ (u : Table). u.scopes) q) ∙ i;
            symbols_are = sym (ap (λ (u : Table). u.symbols) q) ∙ j;
            table_is = ap (λ (u : Table). u.words) q;
          }

  -- K is from 1 to N, and Y at most N
  pub bounds : (k y : ℕ) → (resolve img tab).answer ≡ result k y → (1 ≤ k) × (k ≤ nodes img) × (y ≤ nodes img)
  bounds k y e =
      let f = filled k y e in
      let d = walked-ended img tab f.passes f.end f.is in
      let a = f.scopes_are in
      let b = f.symbols_are in
      let s = d.some in
      let u = d.scopes in
      let v = d.symbols in
      (omega arith, omega arith, omega arith)

  -- the table that Resolve leaves is sound: 16 does not refuse it
  pub own-table-sound : (k y : ℕ) → (resolve img tab).answer ≡ result k y → test_sound img (resolve img tab).table ≡ 0
  own-table-sound k y e =
      let f = filled k y e in
      ap (test_sound img) f.table_is
      ∙ headed-sound img (zeroed img tab) f.end (zeroed-long img tab) (walked-ended img tab f.passes f.end f.is)

  -- its words have K and Y
  pub own-counts : (k y : ℕ) → (resolve img tab).answer ≡ result k y → (scopes_in img (resolve img tab).table ≡ k) × (symbols_in img (resolve img tab).table ≡ y)
  own-counts k y e =
      let f = filled k y e in
      let d = walked-ended img tab f.passes f.end f.is in
      let l : table_length (nodes img) ≤ length f.end.table.words = (let z = d.long in let w = zeroed-long img tab in omega arith) in
      (ap (scopes_in img) f.table_is ∙ headed-scopes img f.end.table l ∙ f.scopes_are, ap (symbols_in img) f.table_is ∙ headed-symbols img f.end.table l ∙ f.symbols_are)

  -- the words past 3 + 5N are untouched, and the length stays
  pub rest-untouched : drop (table_length (nodes img)) (resolve img tab).table ≡ drop (table_length (nodes img)) tab
  unfolding resolve table_call
  rest-untouched = past-kept img tab (λ p. p)

  pub length-kept : length (resolve img tab).table ≡ length tab
  unfolding resolve table_call
  length-kept = long_kept img tab (λ p. p)

  -- "twice" names the first clash
  pub twice-first : test_table img tab ≡ 0 → (c : Clash) → first_clash img ≡ some c → (resolve img tab).answer ≡ twice_answer c.name c.first c.second
  unfolding resolve table_call answer_by shows
  twice-first p c e = go (way img tab (test_table img tab)) (went img tab (test_table img tab))
    where
      go : (w : Way) → Went img tab (test_table img tab) w → answer_by (λ t. result t.scopes t.symbols) w ≡ twice_answer c.name c.first c.second
      go (refuses r) (q, h) = absurd (h (sym q ∙ p))
      go (stops x a b) (q, h) =
          let z = ap shows (sym h) ∙ walked-shown img tab p ∙ e in
          let w : record { name = x; first = a; second = b } ≡ c = cc in
          ap (λ (d : Clash). twice_answer d.name d.first d.second) w
      go (fills t) (q, (f, h, i)) = let z = ap shows (sym h) ∙ walked-shown img tab p ∙ e in let w : ◌≡◌ {A = ℕ} 0 1 = cc in absurd (omega arith)

  pub twice-only : (x a b : ℕ) → (resolve img tab).answer ≡ twice_answer x a b → first_clash img ≡ some (record { name = x; first = a; second = b })
  unfolding resolve table_call answer_by shows
  twice-only x a b = go (way img tab (test_table img tab)) (went img tab (test_table img tab))
    where
      go : (w : Way) → Went img tab (test_table img tab) w → answer_by (λ t. result t.scopes t.symbols) w ≡ twice_answer x a b → first_clash img ≡ some (record { name = x; first = a; second = b })
      go (refuses r) h z = let w : ◌≡◌ {A = ℕ} 0 1 = cc in absurd (omega arith)
      go (stops y c d) (q, h) z =
          let i : y ≡ x = cc in
          let j : c ≡ a = cc in
          let k : d ≡ b = cc in
          sym (walked-shown img tab q) ∙ ap shows h ∙ rw (i, j, k)
      go (fills t) h z = let w : ◌≡◌ {A = ℕ} 0 1 = cc in absurd (omega arith)
