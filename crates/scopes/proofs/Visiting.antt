-- Visiting the declarations of a list: what each function over it is handed, and hands on.
use mathlib.Core.Path.{◌≡◌, refl, sym, ap, subst, ◌∙◌}
use mathlib.Core.List.{List, [], ◌∷◌}
use Prim.Native.Nat.{ℕ, suc, ◌+◌, ◌<◌, ◌≤◌}
use native.Mathlib.Omega.{arith}
use lib.ListN.{drop}
use Rattle.std.specs.Prelude.{Ok, Err}
use Rattle.error.specs.declared.SymbolDeclaredTwice.{SymbolDeclaredTwice}
use Rattle.ast.specs.Image.{nodes, field}
use Rattle.ast.specs.Is.{Is, kind_by}
use Rattle.ast.specs.Items.{items, below}
use Rattle.ast.specs.Kinds.{outer, signature, Field, name, child, Kind, kind_of}
use Rattle.ast.specs.Named.{arg_decl_list_kind, ctor_decl_kind, decl_kind, enum_decl_kind, func_decl_kind, rule_decl_kind, stmt_kind, type_decl_kind, type_expr_kind}
use Rattle.ast.specs.Tree.{Tree, node, block, Trees, none, ◌◂◌, tree_at, size, sizes}
use Rattle.ast.proofs.Accepted.{sized}
use Rattle.ast.proofs.Row.{append, append-none, Child, FormedFields, next, node_of}
use Rattle.ast.proofs.Shapes.{row, tree_of, child-is, run-tail}
use Rattle.ast.proofs.Small.{Small, Smalls, tree-small, items-small}
use Rattle.typed.specs.RowShapes.{Listed as ListedAt}
use Rattle.typed.specs.declared.nodes.NodeList.{NodeList}
use Rattle.typed.specs.declared.items.Items.{Items}
use Rattle.typed.specs.Items.{Others, trees_of}
use Rattle.typed.proofs.Lists.{at-list, Within, Taken, taken, begun, begun-row, none-left, row-short}
use Rattle.table.specs.Layout.{table_length}
use Rattle.table.specs.State.{Walked, back}
use Rattle.table.specs.declared.ScopeId.{ScopeId}
use Rattle.environment.specs.Builder.{Keeps, walked_of}
use Rattle.environment.specs.Stands.{Stands, Path}
use Rattle.environment.specs.declared.ScopeBuilder.{ScopeBuilder}
use Rattle.environment.proofs.Steps.{keeps_same, keeps-then}
use Rattle.ordered.specs.Walk.{occurs, walk, walk_seq}
use Rattle.ordered.specs.Promises.{over, inside, rest, Ends, Room, Ready, ReadyRun}
use Rattle.ordered.proofs.Ends.{ends_as}
use Rattle.ordered.proofs.Paths.{seq-path}
use Rattle.table.proofs.Kept.{past}
use Rattle.ordered.proofs.Lists.{rest-start}
use Rattle.ordered.proofs.Size.{seq-within}
use Rattle.ordered.proofs.Steps.{room-below, tree-grows}
use Rattle.scopes.specs.Walk.{Listed, done, twice, and_then, enter_all, visit, visit_all}
use Rattle.scopes.specs.Promises.{Declared, listed_of, vis, viss, over_list, whole_list, Entered, Visited, Visits, Fits, Visit, MayVisit, ListRun}
use Rattle.scopes.proofs.Adds.{done-same, twice-done, enter_all-in, visit-in, fits_next}
use Rattle.scopes.proofs.Entries.{DeclOf, decl-size, decl-vis, decl-visited, and-done, and-stop, entered-as, stopped-as, ctor-run, EnterLeft, enter-ended, names_of}

module _ (img : List ℕ) where
  -- a signature, and a rule: what is walked is dropped -----------------------------------------------------------------------
  pub sig-visit : {fs : List Field} {n : ℕ} (e : Walked) → Is img (kind_by (outer signature) fs) n → visit img (tree_at img n) e ≡ done (back img e.scope (inside img occurs n e))
  unfolding visit node_of
  sig-visit {fs} {n} e is = subst (λ (u : Tree). visit img u e ≡ done (back img e.scope (walk_seq img occurs (below u) e))) (sym (tree_of img is)) refl

  pub rule-visit : {n : ℕ} (e : Walked) → Is img (kind_of rule_decl_kind) n → visit img (tree_at img n) e ≡ done (back img e.scope (inside img occurs n e))
  unfolding visit node_of kind_of
  rule-visit {n} e is = subst (λ (u : Tree). visit img u e ≡ done (back img e.scope (walk_seq img occurs (below u) e))) (sym (tree_of img is)) refl

  below-small : (u : Tree) → Small (nodes img) u → Smalls (nodes img) (below u)
  unfolding Small
  below-small (node i k c sh ts) h = h.1
  below-small (block ts) h = h

  Sizes : ℕ → Type 0
  Sizes n = (size (tree_at img n) ≡ suc (sizes (below (tree_at img n)))) × (vis (tree_at img n) ≡ sizes (below (tree_at img n)))

  sig-sizes : {fs : List Field} {n : ℕ} → Is img (kind_by (outer signature) fs) n → Sizes n
  unfolding Sizes vis size node_of
  sig-sizes {fs} {n} is = subst (λ (u : Tree). (size u ≡ suc (sizes (below u))) × (vis u ≡ sizes (below u))) (sym (tree_of img is)) (refl, refl)

  rule-sizes : {n : ℕ} → Is img (kind_of rule_decl_kind) n → Sizes n
  unfolding Sizes vis size node_of kind_of
  rule-sizes {n} is = subst (λ (u : Tree). (size u ≡ suc (sizes (below u))) × (vis u ≡ sizes (below u))) (sym (tree_of img is)) (refl, refl)

  room_of : {a b : ℕ} {e f : Walked} → nodes img ≤ 2048 → Fits img a b e → f.table.scopes ≤ e.table.scopes + a → f.table.symbols ≤ e.table.symbols + b → Room img f
  room_of w p x y =
      let h = p.scopes in
      let k = p.symbols in
      record { scopes = omega arith; symbols = omega arith; few = record { scopes = omega arith; symbols = omega arith } }

  inside-room : {kd : Kind} {n : ℕ} {e : Walked} → Is img kd n → Sizes n → Fits img (size (tree_at img n)) (vis (tree_at img n)) e → Room img (inside img occurs n e)
  unfolding Sizes
  inside-room {kd} {n} {e} is s p =
      let w = seq-within img occurs (below (tree_at img n)) e in
      let x = w.scopes in
      let y = w.symbols in
      room_of (sized img is.accepted).few_nodes p (omega arith) (omega arith)

  -- the trees of a declaration walked to f: there is a way back to where it started, and what the declaration gives is dropped
  pub record Passed (n : ℕ) (e f : Walked) (env : List ℕ) : Type 0 where
    pub stands : Stands img f env
    pub path : Path img f.table e.scope f.scope
    pub whole : visit img (tree_at img n) e ≡ done (back img e.scope f)

  passed_inside : {n : ℕ} {e f : Walked} {env en : List ℕ} → Room img (inside img occurs n e) → visit img (tree_at img n) e ≡ done (back img e.scope (inside img occurs n e)) → Stands img e env
      → Ends img (inside img occurs n e) f en → Passed n e f en
  passed_inside {n} {e} {f} r v s h =
      record {
        stands = h.stands;
        path = subst (λ (k : Walked). Path img k.table e.scope k.scope) (sym h.same) (seq-path img occurs (below (tree_at img n)) e (below-small (tree_at img n) (tree-small img n)) r.few s);
        whole = v ∙ ap (λ (k : Walked). done (back img e.scope k)) (sym h.same);
      }

  -- a type has nothing inside
  pub type-visit : {n : ℕ} (e : Walked) → Is img (kind_of type_decl_kind) n → visit img (tree_at img n) e ≡ done e
  unfolding walk node_of kind_of
  type-visit {n} e is = sig-visit e is ∙ ap (λ (f : Walked). done (back img e.scope f)) (ap (λ (u : Tree). walk_seq img occurs (below u) e) (tree_of img is))

  -- a pred, a const and a constructor have one tree
  pub record SigOne (k n d : ℕ) (e : Walked) : Type 0 where
    pub first : Ready img (kind_of k) d e
    pub passed : {f : Walked} {env en : List ℕ} → Stands img e env → Ends img (over img d e) f en → Passed n e f en

  sig-one-in : {k n : ℕ} (e : Walked) → Is img (kind_by (outer signature) (name ∷ child k ∷ [])) n → inside img occurs n e ≡ over img (field img n 1) e
  unfolding walk node_of
  sig-one-in e is = ap (λ (u : Tree). walk_seq img occurs (below u) e) (tree_of img is)

  pub sig_one : {k n d : ℕ} {e : Walked} → Visit img (kind_by (outer signature) (name ∷ child k ∷ [])) n e → d ≡ field img n 1 → SigOne k n d e
  unfolding FormedFields next
  sig_one {k} {n} {d} {e} p q =
      let is = p.is in
      let h : Child img n k (field img n 1) = (row img is).1.0 in
      let w = sig-one-in e is in
      let r = inside-room is (sig-sizes is) p.fits in
      subst (λ (x : ℕ). SigOne k n x e) (sym q)
      (record { first = record { is = child-is img is h; room = subst (Room img) w r }; passed = λ s o. passed_inside r (sig-visit e is) s (ends_as img w o) })

  -- a func two
  pub record SigTwo (n c d : ℕ) (e : Walked) : Type 0 where
    pub first : Ready img (kind_of arg_decl_list_kind) c e
    pub second : {f : Walked} {en : List ℕ} → Ends img (over img c e) f en → Ready img (kind_of type_expr_kind) d f
    pub passed : {f g : Walked} {env en em : List ℕ} → Stands img e env → Ends img (over img c e) f en → Ends img (over img d f) g em → Passed n e g em

  sig-two-in : {n : ℕ} (e : Walked) → Is img (kind_of func_decl_kind) n → inside img occurs n e ≡ over img (field img n 2) (over img (field img n 1) e)
  unfolding walk node_of kind_of
  sig-two-in e is = ap (λ (u : Tree). walk_seq img occurs (below u) e) (tree_of img is)

  pub sig_two : {n c d : ℕ} {e : Walked} → Visit img (kind_of func_decl_kind) n e → c ≡ field img n 1 → d ≡ field img n 2 → SigTwo n c d e
  unfolding FormedFields next kind_of
  sig_two {n} {c} {d} {e} p q r =
      let is = p.is in
      let h : Child img n arg_decl_list_kind (field img n 1) = (row img is).1.0 in
      let h2 : Child img n type_expr_kind (field img n 2) = (row img is).1.1.0 in
      let w = sig-two-in e is in
      let m = inside-room is (sig-sizes is) p.fits in
      let rooms = subst (Room img) w m in
      subst (λ (x : ℕ). SigTwo n x d e) (sym q) (subst (λ (x : ℕ). SigTwo n (field img n 1) x e) (sym r)
      (record {
        first = record { is = child-is img is h; room = room-below (tree-grows img occurs _ _) rooms };
        second = λ o. subst (Ready img (kind_of type_expr_kind) (field img n 2)) (sym o.same) (record { is = child-is img is h2; room = rooms });
        passed = λ s o k. passed_inside m (sig-visit e is) s (ends_as img (w ∙ ap (over img (field img n 2)) (sym o.same)) k);
      }))

  -- a rule's body is the count items from place j of m's row on
  pub record RuleRun (n : ℕ) (e : Walked) (m j count : ℕ) : Type 0 where
    pub run : ReadyRun img stmt_kind m j count e
    pub passed : {f : Walked} {env en : List ℕ} → Stands img e env → Ends img (rest img occurs m j count 0 e) f en → Passed n e f en

  rule-in : {n : ℕ} (e : Walked) → Is img (kind_of rule_decl_kind) n → inside img occurs n e ≡ walk_seq img occurs (items img n (field img n 1) 2) e
  unfolding node_of kind_of
  rule-in {n} e is = ap (λ (u : Tree). walk_seq img occurs (below u) e) (tree_of img is) ∙ ap (λ (us : Trees). walk_seq img occurs us e) (append-none (items img n (field img n 1) 2))

  pub rule_run : {n : ℕ} {e : Walked} {l : NodeList} → Visit img (kind_of rule_decl_kind) n e → ListedAt img n 1 l → RuleRun n e l.node.0 l.first l.count
  unfolding next kind_of
  rule_run {n} {e} p a =
      let is = p.is in
      let w = rule-in e is ∙ rest-start img occurs n 2 (field img n 1) e in
      let r = inside-room is (rule-sizes is) p.fits in
      at-list img (RuleRun n e) a
      (record { run = record { run = run-tail img is refl refl; room = subst (Room img) w r }; passed = λ s o. passed_inside r (rule-visit e is) s (ends_as img w o) })

  pub passed-back : {n : ℕ} {e f : Walked} {env : List ℕ} → Passed n e f env → Stands img f env × Path img f.table e.scope f.scope
  passed-back p = (p.stands, p.path)

  -- where branches of a match meet: the builder and the scope are those of one of them
  pub passed_in : {n : ℕ} {e : Walked} {x y : ScopeBuilder} {s t : ScopeId} → x ≡ y → s ≡ t → Passed n e (walked_of y t) y.env.now → Passed n e (walked_of x s) x.env.now
  passed_in {n} {e} {y = y} {s} q r h = subst (λ (z : ScopeBuilder). Passed n e (walked_of z s) z.env.now) (sym q) (subst (λ (z : ScopeId). Passed n e (walked_of y z) y.env.now) (sym r) h)

  -- what stands at the end, told of a list that is done there
  pub stands-done : {e : Walked} {l : Listed} {env : List ℕ} → Stands img e env → done e ≡ l → (f : Walked) → l ≡ done f → Stands img f env
  stands-done {e} {l} {env} s q f d = subst (λ (k : Walked). Stands img k env) (done-same e f (q ∙ d)) s

  -- a walk that is done hands this back
  pub done-visits : (n : ℕ) {e f : Walked} {env : List ℕ} → Fits img (size (tree_at img n)) (vis (tree_at img n)) e → done f ≡ visit img (tree_at img n) e
      → Stands img f env → Visited img (visit img (tree_at img n) e) e.table.words (Ok tt) env f
  done-visits n {e} {f} {env} p q s =
      let t = (visit-in img (tree_at img n) (tree-small img n) e).went f (sym q) in
      let x = t.scopes in
      let y = t.symbols in
      let u = p.scopes in
      let v = p.symbols in
      record { same = q; stands = stands-done s q; passed = t.passed (record { scopes = omega arith; symbols = omega arith }) }

  -- what was walked is put back: the walk stands where it started
  pub passed-visits : (n : ℕ) {e f g : Walked} {env en : List ℕ} → Fits img (size (tree_at img n)) (vis (tree_at img n)) e → Passed n e f en → g ≡ back img e.scope f → Stands img g env
      → Visited img (visit img (tree_at img n) e) e.table.words (Ok tt) env (back img e.scope g)
  passed-visits n {e} {env = env} p o q s =
      let b = ap (back img e.scope) q in
      done-visits n p (ap done b ∙ sym o.whole) (subst (λ (k : Walked). Stands img k env) (q ∙ sym b) s)

  -- the same, told of another declaration, and from an earlier table
  pub visits-from : {l k : Listed} {us ws env : List ℕ} {g : Walked} {r : Declared} → l ≡ k → drop (table_length (nodes img)) us ≡ drop (table_length (nodes img)) ws
      → Visited img l us r env g → Visited img k ws r env g
  visits-from q p h = record { same = h.same ∙ q; stands = λ f d. h.stands f (q ∙ d); passed = h.passed ∙ p }

  pub visits-as : {l k : Listed} {ws env : List ℕ} {g : Walked} {r : Declared} → l ≡ k → Visited img l ws r env g → Visited img k ws r env g
  visits-as q h = visits-from q refl h

  -- where a list went on, and where it stopped
  pub visited-as : {l : Listed} {ws env : List ℕ} {g : Walked} {r : Declared} {a : Unit {0}} → r ≡ Ok a → Visited img l ws r env g → l ≡ done g
  visited-as {g = g} d h = sym h.same ∙ ap (λ (o : Declared). listed_of o g) d

  pub halted-as : {l : Listed} {ws env : List ℕ} {g : Walked} {r : Declared} (t : SymbolDeclaredTwice) → r ≡ Err t → Visited img l ws r env g → l ≡ twice t.name t.first.0 t.second.0
  halted-as {g = g} t d h = sym h.same ∙ ap (λ (o : Declared). listed_of o g) d

  -- a name declared twice: nothing stands
  pub visits-twice : {l : Listed} {ws env : List ℕ} {g : Walked} {o : Declared} (t : SymbolDeclaredTwice) → l ≡ twice t.name t.first.0 t.second.0 → o ≡ Err t
      → drop (table_length (nodes img)) g.table.words ≡ drop (table_length (nodes img)) ws → Visited img l ws o env g
  visits-twice {g = g} t q z p =
      record { same = ap (λ (o : Declared). listed_of o g) z ∙ sym q; stands = λ f d. absurd (twice-done t.name t.first.0 t.second.0 f (sym q ∙ d)); passed = p }

  -- a list: what is left of it ----------------------------------------------------------------------------------------------
  sizes-more : (u : Tree) (us : Trees) → (sizes (u ◂ us) ≡ size u + sizes us) × (viss (u ◂ us) ≡ vis u + viss us)
  unfolding size vis
  sizes-more u us = (refl, refl)

  visit-more : (u : Tree) (us : Trees) (e : Walked) → visit_all img (u ◂ us) e ≡ and_then img (visit img u e) (visit_all img us)
  unfolding visit
  visit-more u us e = refl

  visit-none : (e : Walked) → visit_all img none e ≡ done e
  unfolding visit
  visit-none e = refl

  -- the walk stands at f: what visiting the declarations that are left gives is the whole, l; ws are the words that it began with
  module _ {T : Type 0} where
    pub record VisitRest (env : List ℕ) (k n : ℕ) (l : Listed) (ws : List ℕ) (s : Items T) (f : Walked) : Type 0 where
      pub within : Within img k n s
      pub fits : Fits img (sizes (trees_of s)) (viss (trees_of s)) f
      pub passed : past img f.table ≡ drop (table_length (nodes img)) ws
      pub left : l ≡ visit_all img (trees_of s) f
      pub stands : Stands img f env

  -- the list of an enum -----------------------------------------------------------------------------------------------------
  abbrev pub list_trees : ℕ → Trees
  list_trees n = append (items img n (field img n 1) 2) none

  enum-visit : {n : ℕ} (e : Walked) → Is img (kind_of enum_decl_kind) n → (visit img (tree_at img n) e ≡ visit_all img (list_trees n) e) × (size (tree_at img n) ≡ suc (sizes (list_trees n))) × (vis (tree_at img n) ≡ viss (list_trees n))
  unfolding visit vis size node_of kind_of
  enum-visit {n} e is = subst (λ (u : Tree). (visit img u e ≡ visit_all img (list_trees n) e) × (size u ≡ suc (sizes (list_trees n))) × (vis u ≡ viss (list_trees n))) (sym (tree_of img is)) (refl, refl, refl)

  pub enum-short : {n : ℕ} {l : NodeList} → Is img (kind_of enum_decl_kind) n → ListedAt img n 1 l → l.first + l.count ≤ 8193
  enum-short is q = row-short img q (ctor-run img is)

  -- a name of a list is declared twice
  pub list-stop : (ts : Trees) (e : Walked) {us seen env : List ℕ} {g : Walked} {r : Declared} (t : SymbolDeclaredTwice) → r ≡ Err t → Entered img (enter_all img ts e) us r seen env g
      → {o : Declared} → o ≡ Err t → Visited img (over_list img ts e) us o env g
  list-stop ts e t d h z = visits-twice t (and-stop img t.name t.first.0 t.second.0 (visit_all img ts) _ (stopped-as img t d h)) z h.passed

  -- a Decl that is visited: what is asked of its declaration, and what it hands back
  pub record DeclVisit (k n d : ℕ) (e : Walked) : Type 0 where
    pub low : d < n
    pub ready : Visit img (kind_of k) d e
    pub whole : visit img (tree_at img n) e ≡ visit img (tree_at img d) e
    pub passed : {f : Walked} {env : List ℕ} → Passed d e f env → Passed n e f env

  pub decl_visit : {k n d : ℕ} {e : Walked} → DeclOf img k n d → Visit img (kind_of decl_kind) n e → DeclVisit k n d e
  decl_visit {e = e} o p =
      let f = p.fits in
      record {
        low = o.low;
        ready = record {
          is = o.is;
          fits = record { scopes = (let s = decl-size img o in let x = f.scopes in omega arith); symbols = (let s = decl-vis img o in let y = f.symbols in omega arith); kept = f.kept };
        };
        whole = decl-visited img o e;
        passed = λ h. record { stands = h.stands; path = h.path; whole = decl-visited img o e ∙ h.whole };
      }

-- a loop over the declarations of a list: it began with the builder b, and stands in the scope s of b'
module _ {T : Type 0} where
  pub record VisitLeft (k n : ℕ) (l : Listed) (it : Items T) (b : ScopeBuilder) (s : ScopeId) (b' : ScopeBuilder) : Type 0 where
    pub keeps : Keeps b b'
    pub rest : VisitRest b'.image.now b'.env.now k n l b.table.now it (walked_of b' s)

  -- the next of them, and what is left after it
  pub record VisitItem (k n x : ℕ) (l : Listed) (t : Items T) (b : ScopeBuilder) (s : ScopeId) (b' : ScopeBuilder) : Type 0 where
    pub low : x < n
    pub ready : Visit b'.image.now (kind_of k) x (walked_of b' s)
    pub stands : Stands b'.image.now (walked_of b' s) b'.env.now
    pub more : {c : ScopeBuilder} {r : Declared} {a : Unit {0}} → r ≡ Ok a → Keeps b' c → Visits (visit b'.image.now (tree_at b'.image.now x)) b' s r c → VisitLeft k n l t b s c
    pub stop : {en : List ℕ} {g : Walked} {r : Declared} (y : SymbolDeclaredTwice) → r ≡ Err y → Visited b'.image.now (visit b'.image.now (tree_at b'.image.now x) (walked_of b' s)) b'.table.now r en g
        → {o : Declared} → o ≡ Err y → Visited b.image.now l b.table.now o en g

  pub visit_item : {k n x : ℕ} {l : Listed} {it t : Items T} {b b' : ScopeBuilder} {s : ScopeId} → VisitLeft k n l it b s b'
      → Others it t × (x ≡ field it.image.now it.left.list.node.0 it.left.list.first) → VisitItem k n x l t b s b'
  visit_item {k} {n} {x} {l} {it} {t} {b} {b'} {s} w steps =
      record {
        low = o.low;
        ready = record {
          is = o.is;
          fits = record { scopes = (let r = more-fits.scopes in omega arith); symbols = (let r = more-fits.symbols in omega arith); kept = more-fits.kept };
        };
        stands = p.stands;
        more = λ {c} d v h.
            let g = walked_of c s in
            let q = visited-as img d h in
            record {
              keeps = keeps-then w.keeps v;
              rest =
                  subst (λ (i : List ℕ). VisitRest i c.env.now k n l b.table.now t g) (sym v.image)
                  (record {
                    within = o.rest;
                    fits = fits_next img more-fits ((visit-in img (tree_at img x) (tree-small img x) f).went g q);
                    passed = h.passed ∙ p.passed;
                    left = whole ∙ and-done img g (visit_all img (trees_of t)) _ q;
                    stands = h.stands g q;
                  });
            };
        stop = λ {en} {g} y d h {o} z.
            subst (λ (i : List ℕ). Visited i l b.table.now o en g) w.keeps.image
            (visits-twice img y (whole ∙ and-stop img y.name y.first.0 y.second.0 (visit_all img (trees_of t)) _ (halted-as img y d h)) z (h.passed ∙ p.passed));
      }
    where
      img : List ℕ
      img = b'.image.now

      f : Walked
      f = walked_of b' s

      p : VisitRest img b'.env.now k n l b.table.now it f
      p = w.rest

      o : Taken img k n x it t
      o = taken p.within steps.0 steps.1

      more-fits : Fits img (size (tree_at img x) + sizes (trees_of t)) (vis (tree_at img x) + viss (trees_of t)) f
      more-fits =
          let h = p.fits in
          let z = sizes-more img (tree_at img x) (trees_of t) in
          let u = ap sizes o.trees in
          let v = ap viss o.trees in
          record { scopes = (let r = h.scopes in omega arith); symbols = (let r = h.symbols in omega arith); kept = h.kept }

      whole : l ≡ and_then img (visit img (tree_at img x) f) (visit_all img (trees_of t))
      whole = p.left ∙ ap (λ (us : Trees). visit_all img us f) o.trees ∙ visit-more img (tree_at img x) (trees_of t) f

  pub visit-ended : {k n : ℕ} {l : Listed} {it : Items T} {b b' : ScopeBuilder} {s : ScopeId} → VisitLeft k n l it b s b' → it.left.list.count ≡ 0
      → Visited b.image.now l b.table.now (Ok tt) b'.env.now (walked_of b' s)
  visit-ended {l = l} {it} {b} {b'} {s} w z =
      let img = b'.image.now in
      let g = walked_of b' s in
      let p = w.rest in
      let h = sym (p.left ∙ ap (λ (us : Trees). visit_all img us g) (none-left it z) ∙ visit-none img g) in
      subst (λ (i : List ℕ). Visited i l b.table.now (Ok tt) b'.env.now g) w.keeps.image (record { same = h; stands = stands-done img p.stands h; passed = p.passed })

  -- the declarations of a list whose names are entered
  pub list-begin : {U : Type 0} {seen : List ℕ} {n : ℕ} {l : NodeList} {b b' : ScopeBuilder} {s : ScopeId} {it : Items U} {u start : Items T} → ListRun b.image.now l.node.0 l.first l.count (walked_of b s)
      → EnterLeft seen decl_kind n (names_of l b s) it b s b' → it.left.list.count ≡ 0 → start ≡ u → (u.image.now ≡ b'.image.now) × (u.left.list ≡ l)
      → VisitLeft decl_kind l.node.0 (whole_list b.image.now l (walked_of b s)) start b s b'
  list-begin {l = l} {b} {b'} {s} {start = start} p w z e m =
      let img = b.image.now in
      let f = walked_of b s in
      let g = walked_of b' s in
      let ts = items img l.node.0 l.count l.first in
      let h = enter-ended w z in
      let q = entered-as img refl h in
      let t = (enter_all-in img ts (items-small img l.node.0 l.count l.first) f).went g q in
      let x = t.scopes in
      let y = t.symbols in
      let u = p.fits.scopes in
      let v = p.fits.symbols in
      let a = begun e refl p.run (m.0 ∙ w.keeps.image, m.1) in
      record {
        keeps = w.keeps;
        rest =
            subst (λ (i : List ℕ). VisitRest i b'.env.now decl_kind l.node.0 (whole_list img l f) b.table.now start g) (sym w.keeps.image)
            (record {
              within = a.within;
              fits =
                  subst (λ (us : Trees). Fits img (sizes us) (viss us) g) a.trees
                  (record { scopes = omega arith; symbols = omega arith; kept = (t.keeps (record { scopes = omega arith; symbols = omega arith }) (record { kept = p.fits.kept; last = p.newest })).kept });
              passed = h.passed;
              left = and-done img g (visit_all img ts) _ q ∙ ap (λ (us : Trees). visit_all img us g) a.trees;
              stands = (h.opens g q).stands;
            });
      }

  -- the constructors of an enum
  pub enum-begin : {n : ℕ} {l : NodeList} {b : ScopeBuilder} {s : ScopeId} {u start : Items T} → MayVisit (kind_of enum_decl_kind) n b s → ListedAt b.image.now n 1 l → start ≡ u
      → (u.image.now ≡ b.image.now) × (u.left.list ≡ l) → VisitLeft ctor_decl_kind n (visit b.image.now (tree_at b.image.now n) (walked_of b s)) start b s b
  enum-begin {n} {b = b} {s} (p, stands) q e h =
      let img = b.image.now in
      let f = walked_of b s in
      let a = begun-row e q (ctor-run img p.is) h in
      let us = append-none (items img n (field img n 1) 2) ∙ a.trees in
      let v = enum-visit img f p.is in
      let x = ap sizes us in
      let y = ap viss us in
      record {
        keeps = keeps_same b;
        rest = record {
          within = a.within;
          fits = record { scopes = (let z = p.fits.scopes in omega arith); symbols = (let z = p.fits.symbols in omega arith); kept = p.fits.kept };
          passed = refl;
          left = v.0 ∙ ap (λ (vs : Trees). visit_all img vs f) us;
          stands = stands;
        };
      }
