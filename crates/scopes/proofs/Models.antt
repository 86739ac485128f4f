-- A model: its list in a scope of its own. The rows that the list adds are of that scope or of scopes below it, and no others are.
use mathlib.Core.Path.{◌≡◌, refl, sym, ap, subst, ◌∙◌}
use mathlib.Core.Logic.{⊎_elim}
use mathlib.Core.List.{List}
use mathlib.Core.Option.{none as nothing}
use Prim.Native.Nat.{ℕ, suc, ◌+◌, ◌<◌, ◌≤◌}
use native.Mathlib.Omega.{arith}
use native.Mathlib.Nat.{eq-or-lt_of_le}
use lib.ListN.{length, drop}
use Rattle.std.specs.Prelude.{Ok, Err}
use Rattle.error.specs.declared.SymbolDeclaredTwice.{SymbolDeclaredTwice}
use Rattle.ast.specs.Image.{nodes, field}
use Rattle.ast.specs.Is.{Is}
use Rattle.ast.specs.Items.{items}
use Rattle.ast.specs.Kinds.{kind_of}
use Rattle.ast.specs.Named.{model_decl_kind}
use Rattle.ast.specs.Tree.{Tree, Trees, tree_at, size, sizes}
use Rattle.ast.proofs.Row.{append-none, next, node_of}
use Rattle.ast.proofs.Shapes.{tree_of, run-tail}
use Rattle.ast.proofs.Small.{items-small}
use Rattle.ast.proofs.Vars.{Everywhere, EverywhereAll}
use Rattle.typed.specs.RowShapes.{Listed as ListedAt}
use Rattle.typed.specs.declared.nodes.NodeList.{NodeList}
use Rattle.typed.proofs.Lists.{at-list}
use Rattle.table.specs.Kept.{Kept}
use Rattle.table.specs.Layout.{parent_place, table_length}
use Rattle.table.specs.Rising.{scope_of, parent_at}
use Rattle.table.specs.State.{Walked, child_scope, own_symbol, marked, back}
use Rattle.table.specs.Table.{Table, mark, new_scope, new_symbol}
use Rattle.table.proofs.Frame.{mark-parent, child-parent}
use Rattle.table.proofs.Frames.{scope-word, symbol-word, symbol-scope}
use Rattle.table.proofs.Kept.{mark-rows, scope-rows, symbol-rows, mark-length, scope-length, symbol-length}
use Rattle.environment.specs.Asked.{asked}
use Rattle.environment.specs.Stands.{Stands, Opens, First, above}
use Rattle.environment.proofs.Asking.{loud_fields, quiet}
use Rattle.environment.proofs.Laws.{opens-left, opens-child}
use Rattle.ordered.specs.Promises.{Few}
use Rattle.scopes.specs.Walk.{done, and_then, enter_all, visit, visit_all}
use Rattle.scopes.specs.Promises.{Declared, ents, vis, viss, over_list, Visited, Visit, ListRun}
use Rattle.scopes.proofs.Adds.{Newest, opened, opened-counts, child-newest, child-past, child-empty, list-in}
use Rattle.scopes.proofs.Entries.{and-done, and-stop}
use Rattle.scopes.proofs.Moves.{Moves, stay, next as goes, marks, adds, opens, drops, rises, ends-and, enter_all-ends, visit_all-ends}
use Rattle.scopes.proofs.Namings.{Fit, tree-fits}
use Rattle.scopes.proofs.Visiting.{list_trees, stands-done, visited-as, halted-as, visits-twice}

module _ (img : List ℕ) where
  -- a walk in the scope m, whose parent is p, or below it: the rows from r on are of such scopes, and those before are of lower ones
  record Within (m p r : ℕ) (e : Walked) : Type 0 where
    long : table_length (nodes img) ≤ length e.table.words
    inner : m ≤ e.scope
    live : e.scope < e.table.scopes
    rows : r ≤ e.table.symbols
    parent : parent_at (nodes img) e.table.words m ≡ p
    before : (j : ℕ) → j < r → scope_of (nodes img) e.table.words j < m
    after : (j : ℕ) → r ≤ j → j < e.table.symbols → m ≤ scope_of (nodes img) e.table.words j

  within-mark : {m p r : ℕ} (n a b : ℕ) (e : Walked) → n < nodes img → Within m p r e → Within m p r (record { scope = e.scope; table = mark img n a b e.table })
  unfolding mark
  within-mark {m} n a b e l w =
      record {
        long = (let z = mark-length img n a b e.table in let y = w.long in omega arith);
        inner = w.inner;
        live = w.live;
        rows = w.rows;
        parent = mark-parent img n a b e.table l m ∙ w.parent;
        before = λ j k. let z = mark-rows img n a b e.table l j in let y = w.before j k in omega arith;
        after = λ j k i. let z = mark-rows img n a b e.table l j in let y = w.after j k i in omega arith;
      }

  within-open : {m p r : ℕ} (e : Walked) → e.table.scopes < nodes img → Within m p r e → Within m p r (child_scope img e)
  unfolding child_scope new_scope
  within-open {m} e l w =
      let x = w.inner in
      let y = w.live in
      record {
        long = (let z = scope-length img e.scope e.table in let y = w.long in omega arith);
        inner = omega arith;
        live = omega arith;
        rows = w.rows;
        parent = scope-word img e.scope e.table (parent_place (nodes img) m) (λ q. omega arith) ∙ w.parent;
        before = λ j k. let z = scope-rows img e.scope e.table l j in let y = w.before j k in omega arith;
        after = λ j k i. let z = scope-rows img e.scope e.table l j in let y = w.after j k i in omega arith;
      }

  within-add : {m p r : ℕ} (n : ℕ) (e : Walked) → e.table.symbols < nodes img → e.table.scopes ≤ nodes img → Within m p r e → Within m p r (own_symbol img n e)
  unfolding own_symbol new_symbol
  within-add {m} {p} {r} n e l k w =
      let x = w.inner in
      let y = w.live in
      let o = w.rows in
      record {
        long = (let z = symbol-length img e.scope n e.table in let y = w.long in omega arith);
        inner = w.inner;
        live = w.live;
        rows = omega arith;
        parent = symbol-word img e.scope n e.table (parent_place (nodes img) m) (λ q. omega arith) (λ q. omega arith) ∙ w.parent;
        before = λ j i. let z = symbol-rows img e.scope n e.table j (omega arith) in let y = w.before j i in omega arith;
        after = λ j i h. ⊎_elim (new j) (old j i) (eq-or-lt_of_le (let z : j ≤ e.table.symbols = omega arith in z));
      }
    where
      vs : List ℕ
      vs = (new_symbol img e.scope n e.table).words

      new : (j : ℕ) → j ≡ e.table.symbols → m ≤ scope_of (nodes img) vs j
      new j q = let z = ap (scope_of (nodes img) vs) q in let y = symbol-scope img e.scope n e.table l w.long in let x = w.inner in omega arith

      old : (j : ℕ) → r ≤ j → j < e.table.symbols → m ≤ scope_of (nodes img) vs j
      old j i h = let z = symbol-rows img e.scope n e.table j h in let y = w.after j i h in omega arith

  -- resolving keeps it, where the counts are within the arrays
  moves-within : {m p r : ℕ} {e f : Walked} → Moves img e f → Few img f.table → Within m p r e → Within m p r f
  unfolding child_scope own_symbol new_scope new_symbol
  moves-within stay h w = w
  moves-within (goes u v) h w =
      let s = rises img v in
      let a = h.scopes in
      let b = h.symbols in
      moves-within v h (moves-within u (record { scopes = omega arith; symbols = omega arith }) w)
  moves-within (marks {e = e} n a b l) h w = within-mark n a b e l w
  moves-within (adds {e = e} n i) h w = within-add n e (let b = h.symbols in omega arith) h.scopes w
  moves-within (opens {e = e}) h w = within-open e (let a = h.scopes in omega arith) w
  moves-within (drops {e = e} {f = f} u) h w =
      let s = rises img u in
      let k = moves-within u h w in
      let l = w.live in
      record { long = k.long; inner = w.inner; live = omega arith; rows = k.rows; parent = k.parent; before = k.before; after = k.after }

  -- a model's own scope
  opened-scope : (n : ℕ) (e : Walked) → (opened img n e).scope ≡ e.table.scopes
  unfolding marked child_scope
  opened-scope n e = refl

  opened-within : {n : ℕ} (e : Walked) → n < nodes img → e.table.scopes < nodes img → Kept img e.table → Within e.table.scopes e.scope e.table.symbols (opened img n e)
  unfolding marked mark child_scope new_scope
  opened-within {n} e i l s =
      let t = new_scope img e.scope e.table in
      record {
        long = (let z = mark-length img n e.table.scopes e.table.scopes t in let y = scope-length img e.scope e.table in let x = s.rising.long in omega arith);
        inner = omega arith;
        live = omega arith;
        rows = omega arith;
        parent = mark-parent img n e.table.scopes e.table.scopes t i e.table.scopes ∙ child-parent img e.scope e.table s l;
        before = child-empty img e i l s;
        after = λ j k h. absurd (omega arith);
      }

  model-visit : {n : ℕ} (e : Walked) → Is img (kind_of model_decl_kind) n
      → (visit img (tree_at img n) e ≡ and_then img (and_then img (enter_all img (list_trees img n) (opened img n e)) (λ f. visit_all img (list_trees img n) f)) (λ f. done (back img e.scope f)))
      × (size (tree_at img n) ≡ suc (sizes (list_trees img n))) × (vis (tree_at img n) ≡ ents (list_trees img n) + viss (list_trees img n))
  unfolding visit vis size node_of kind_of
  model-visit {n} e is =
      subst (λ (u : Tree). (visit img u e ≡ and_then img (and_then img (enter_all img (list_trees img n) (opened img n e)) (λ f. visit_all img (list_trees img n) f)) (λ f. done (back img e.scope f)))
      × (size u ≡ suc (sizes (list_trees img n))) × (vis u ≡ ents (list_trees img n) + viss (list_trees img n)))
      (sym (tree_of img is)) (refl, refl, refl)

  model-quiet : {n : ℕ} → Is img (kind_of model_decl_kind) n → asked img n ≡ nothing
  unfolding kind_of loud_fields
  model-quiet is = quiet img refl is

  model-fits : {n : ℕ} → Is img (kind_of model_decl_kind) n → EverywhereAll (Fit img) (items img n (field img n 1) 2)
  unfolding Everywhere node_of kind_of
  model-fits {n} is = subst (EverywhereAll (Fit img)) (append-none (items img n (field img n 1) 2)) (subst (Everywhere (Fit img)) (tree_of img is) (tree-fits img is.accepted n is.below)).1

  -- its own scope, with its node marked
  pub opened-is : (n : ℕ) (e : Walked) {f g : Walked} → f ≡ child_scope img e → g ≡ marked img n f.scope f → g ≡ opened img n e
  unfolding child_scope
  opened-is n e {f} {g} p q = q ∙ ap (λ (k : Walked). marked img n k.scope k) p

  pub record ModelVisit (n : ℕ) (e g : Walked) (m j count : ℕ) : Type 0 where
    pub own : m ≡ n
    pub list : ListRun img m j count g
    pub opens : {env new : List ℕ} → new ≡ env → Stands img e env → Opens img g new
    pub leaves : {us env en : List ℕ} {h : Walked} {r : Declared} {a : Unit {0}} → r ≡ Ok a → Visited img (over_list img (items img m count j) g) us r en h → Stands img e env
        → Stands img h en × First img h.table h.scope e.table.symbols
    pub back_in : {us env en em : List ℕ} {h : Walked} {r : Declared} {a : Unit {0}} → r ≡ Ok a → Visited img (over_list img (items img m count j) g) us r en h → us ≡ g.table.words → Stands img e env
        → Stands img (above img h) em → {t : Table} → t ≡ h.table → Visited img (visit img (tree_at img n) e) e.table.words (Ok tt) em (record { scope = e.scope; table = t })
    pub stop : {us en : List ℕ} {h : Walked} {r : Declared} (t : SymbolDeclaredTwice) → r ≡ Err t → Visited img (over_list img (items img m count j) g) us r en h → us ≡ g.table.words
        → {o : Declared} → o ≡ Err t → Visited img (visit img (tree_at img n) e) e.table.words o en (back img e.scope h)

  pub model_visit : {n : ℕ} {e f g : Walked} {l : NodeList} → Visit img (kind_of model_decl_kind) n e → ListedAt img n 1 l → f ≡ child_scope img e → g ≡ marked img n f.scope f → ModelVisit n e g l.node.0 l.first l.count
  unfolding next kind_of
  model_visit {n} {e} {g = g} p q v w =
      at-list img (ModelVisit n e g) q (subst (λ (k : Walked). ModelVisit n e k n 2 (field img n 1)) (sym (opened-is n e v w))
      (record {
        own = refl;
        list = record {
          run = run-tail img p.is refl refl;
          fits = record { scopes = (let f = p.fits.scopes in let x = c in let y = s in omega arith); symbols = (let f = p.fits.symbols in let x = c in let y = s in omega arith); kept = new.kept };
          newest = new.last;
          fresh = child-empty img e p.is.below small p.fits.kept;
        };
        opens = λ v s. opens-left img e.table.scopes p.is.below (model-quiet p.is) refl v (opens-child img small s);
        leaves = λ {us} {env} {en} {h} d v s.
            let t = visited-as img d v in
            (v.stands h t, first_of h t s.live);
        back_in = λ {us} {env} {en} {em} {h} d v u s a y.
            let t = visited-as img d v in
            let q = sym (whole ∙ and-done img h (λ f. done (back img e.scope f)) _ t) in
            let k = subst (λ (f : Walked). Stands img f em) (above-is h t s.live) a in
            subst (λ (o : Table). Visited img (visit img (tree_at img n) e) e.table.words (Ok tt) em (record { scope = e.scope; table = o })) (sym y)
            (record { same = q; stands = stands-done img k q; passed = v.passed ∙ ap (drop (table_length (nodes img))) u ∙ child-past img e p.is.below small });
        stop = λ t d v u z.
            visits-twice img t (whole ∙ and-stop img t.name t.first.0 t.second.0 (λ f. done (back img e.scope f)) _ (halted-as img t d v)) z (v.passed ∙ ap (drop (table_length (nodes img))) u ∙ child-past img e p.is.below small);
      }))
    where
      ts : Trees
      ts = items img n (field img n 1) 2

      m : Walked
      m = opened img n e

      a : list_trees img n ≡ ts
      a = append-none ts

      c : (m.table.scopes ≡ e.table.scopes + 1) × (m.table.symbols ≡ e.table.symbols)
      c = opened-counts img n e

      s : (size (tree_at img n) ≡ suc (sizes ts)) × (vis (tree_at img n) ≡ ents ts + viss ts)
      s = ((model-visit e p.is).1 ∙ ap (λ (us : Trees). suc (sizes us)) a, (model-visit e p.is).2 ∙ ap (λ (us : Trees). ents us + viss us) a)

      small : e.table.scopes < nodes img
      small = let f = p.fits.scopes in let z = s.0 in omega arith

      new : Newest img m
      new = child-newest img e p.is.below small p.fits.kept

      whole : visit img (tree_at img n) e ≡ and_then img (over_list img ts m) (λ f. done (back img e.scope f))
      whole = (model-visit e p.is).0
          ∙ ap (λ (us : Trees). and_then img (and_then img (enter_all img us m) (λ f. visit_all img us f)) (λ f. done (back img e.scope f))) a

      -- where the list ends
      ended : (f : Walked) → over_list img ts m ≡ done f → e.scope < e.table.scopes → (f.scope ≡ e.table.scopes) × Within e.table.scopes e.scope e.table.symbols f
      ended f t l =
          let w = (list-in img ts m (items-small img n (field img n 1) 2) new).went f t in
          let x = w.scopes in
          let y = w.symbols in
          let u = p.fits.scopes in
          let v = p.fits.symbols in
          let z = c in
          let k = s in
          let q = model-fits p.is in
          let o = ends-and img (enter_all img ts m) (visit_all img ts) (enter_all-ends img ts q m) (λ g. visit_all-ends img ts q g) f t in
          (w.same ∙ opened-scope n e, moves-within o (record { scopes = omega arith; symbols = omega arith }) (opened-within e p.is.below small p.fits.kept))

      first_of : (f : Walked) → over_list img ts m ≡ done f → e.scope < e.table.scopes → First img f.table f.scope e.table.symbols
      first_of f t l = let (a, b) = ended f t l in subst (λ (x : ℕ). First img f.table x e.table.symbols) (sym a) (record { lower = (let z = b.parent in omega arith); before = λ j k i. b.before j k; after = b.after })

      above-is : (f : Walked) → over_list img ts m ≡ done f → e.scope < e.table.scopes → above img f ≡ back img e.scope f
      above-is f t l = let (a, b) = ended f t l in ap (λ (x : ℕ). record { scope = x; table = f.table }) (ap (parent_at (nodes img) f.table.words) a ∙ b.parent)
