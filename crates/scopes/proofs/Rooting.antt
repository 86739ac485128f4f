-- The module's list, and Resolve as the code goes: cleared words, the walk, the counts, or words cleared again.
use Rattle.rows.proofs.Words.{cleared-zero}
use mathlib.Core.Path.{◌≡◌, refl, sym, ap, subst, ◌∙◌}
use mathlib.Core.List.{List, ◌++◌}
use mathlib.Core.Option.{none as nothing}
use Prim.Native.Nat.{ℕ, suc, ◌<◌, ◌≤◌}
use native.Mathlib.Omega.{arith}
use lib.ListN.{length, get_or, drop, replicate}
use Rattle.std.specs.Prelude.{Result, Ok, Err}
use Rattle.error.specs.declared.SymbolDeclaredTwice.{SymbolDeclaredTwice}
use Rattle.ast.specs.Answer.{Answer, refused, twice as twice_answer, result}
use Rattle.ast.specs.Image.{nodes, last, field}
use Rattle.ast.specs.Is.{Is}
use Rattle.ast.specs.Items.{items}
use Rattle.ast.specs.Kinds.{kind_of}
use Rattle.ast.specs.Named.{module_kind}
use Rattle.ast.specs.Tests.{verdict}
use Rattle.ast.specs.Tree.{Tree, Trees, none, tree_at, size, sizes}
use Rattle.ast.proofs.Accepted.{sized, formed, last-below}
use Rattle.ast.proofs.Count.{tree-size}
use Rattle.ast.proofs.Row.{append, append-none, node_of}
use Rattle.ast.proofs.Shapes.{tree_of, run-list}
use Rattle.typed.specs.RowShapes.{Listed}
use Rattle.typed.specs.declared.nodes.NodeList.{NodeList}
use Rattle.typed.proofs.Lists.{at-list}
use Rattle.table.specs.Layout.{all_ones, table_length}
use Rattle.table.specs.State.{Walked, child_scope, marked}
use Rattle.table.specs.Table.{Table}
use Rattle.rows.specs.Rows.{cleared}
use Rattle.environment.specs.Asked.{asked}
use Rattle.environment.specs.Builder.{table_of as table_in}
use Rattle.environment.specs.Layout.{environment_length}
use Rattle.environment.specs.Stands.{Opens, Noted}
use Rattle.environment.specs.declared.ScopeBuilder.{ScopeBuilder}
use Rattle.environment.proofs.Asking.{loud_fields, quiet}
use Rattle.environment.proofs.Laws.{opens-left, opens-module, noted_of}
use Rattle.scopes.specs.Walk.{done, and_then, enter_all, visit_all, resolve_tree}
use Rattle.scopes.specs.Resolve.{test_table, zeroed, walked, headed, counted, fills, table_by, Outcome, resolve}
use Rattle.scopes.specs.Answers.{table_of, resolved_way, Resolves}
use Rattle.scopes.specs.Promises.{Declared, listed_of, over_list, Visited, ListRun, Lent}
use Rattle.scopes.specs.declared.Resolved.{Resolved}
use Rattle.scopes.proofs.Adds.{addss}
use Rattle.scopes.proofs.Calls.{way-stops, way_fills, call-refused, call-stopped, call-filled}
use Rattle.scopes.proofs.Resolving.{begun, begun-counts, begun-newest, begun-past, table-accepted, table-long, zeroed-past, walked-ended}
use Rattle.scopes.proofs.Headed.{headed-noted}
use Rattle.scopes.proofs.Visiting.{visits-from}

module _ (img : List ℕ) where
  pub root_is : verdict img ≡ 0 → Is img (kind_of module_kind) (last img)
  root_is e = record { accepted = e; below = last-below img e; kind = ap kind_of (formed img e).root }

  root-quiet : {n : ℕ} → Is img (kind_of module_kind) n → asked img n ≡ nothing
  unfolding kind_of loud_fields
  root-quiet is = quiet img refl is

  root_trees : ℕ → Trees
  root_trees n = append (items img n (field img n 0) 1) none

  root-tree : {n : ℕ} (ws : List ℕ) (below : n < nodes img) (long : table_length (nodes img) ≤ length ws) → Is img (kind_of module_kind) n
      → (resolve_tree img (tree_at img n) (record { words = ws; scopes = 0; symbols = 0 }) ≡ and_then img (enter_all img (root_trees n) (begun img ws n below long)) (visit_all img (root_trees n))) × (size (tree_at img n) ≡ suc (sizes (root_trees n)))
  unfolding resolve_tree size node_of kind_of root_trees
  root-tree {n} ws below long is =
      subst (λ (u : Tree). (resolve_tree img u (record { words = ws; scopes = 0; symbols = 0 }) ≡ and_then img (enter_all img (root_trees n) (begun img ws n below long)) (visit_all img (root_trees n))) × (size u ≡ suc (sizes (root_trees n))))
      (sym (tree_of img is)) (refl, refl)

  -- the first scope, with the module's node marked
  pub begun-is : (ws : List ℕ) (n : ℕ) (below : n < nodes img) (long : table_length (nodes img) ≤ length ws) {f g : Walked}
      → f ≡ child_scope img (record { scope = all_ones; table = record { words = ws; scopes = 0; symbols = 0 } }) → g ≡ marked img n f.scope f → g ≡ begun img ws n below long
  unfolding child_scope
  begun-is ws n below long p q = q ∙ ap (λ (k : Walked). marked img n k.scope k) p

  -- its list is the count items from place j of m's row on
  pub record RootVisit (b : ScopeBuilder) (env : List ℕ) (f g : Walked) (m j count : ℕ) : Type 0 where
    pub list : ListRun img m j count g
    pub opens : Opens img g env
    pub visits : {us en : List ℕ} {t : Table} {r : Declared} → Visited img (over_list img (items img m count j) g) us r en (record { scope = f.scope; table = t }) → us ≡ g.table.words
        → Visited img (resolve_tree img (tree_at img (last img)) (table_in b)) b.table.now r en (record { scope = 0; table = t })

  pub root_visit : {n : ℕ} {b : ScopeBuilder} {env : List ℕ} {f g : Walked} {l : NodeList} → Lent img b → n ≡ last img
      → f ≡ child_scope img (record { scope = all_ones; table = table_in b }) → g ≡ marked img n f.scope f → env ≡ b.env.now → Listed img n 0 l
      → RootVisit b env f g l.node.0 l.first l.count
  unfolding kind_of root_trees
  root_visit {n} {b} {env} {f} {g} p q h k o c =
      at-list img (RootVisit b env f g) c (subst (λ (d : Walked). RootVisit b env f d n 1 (field img n 0)) (sym (begun-is ws n low p.long begins k))
      (record {
        list = record {
          run = run-list img is refl;
          fits = record {
            scopes = (let z = counts in let y = fills in omega arith);
            symbols = (let z = counts in let y = fills in let d = addss ts in omega arith);
            kept = (begun-newest img ws n low p.long).kept;
          };
          newest = (begun-newest img ws n low p.long).last;
          fresh = λ j l. absurd (let z = counts in omega arith);
        };
        opens = opens-left img 0 low (root-quiet is) refl o (opens-module img ws b.env.now (sized img p.accepted).few_nodes (sized img p.accepted).some p.long p.zeros p.blank);
        visits = λ {us} {en} {t} {r} v u.
            subst (λ (z : ℕ). Visited img (resolve_tree img (tree_at img (last img)) (table_in b)) ws r en (record { scope = z; table = t })) first
            (visits-from img (sym (ap (resolve_tree img (tree_at img (last img))) p.starts ∙ whole)) (ap (drop (table_length (nodes img))) u ∙ begun-past img ws n low p.long) v);
      }))
    where
      ws : List ℕ
      ws = b.table.now

      begins : f ≡ child_scope img (record { scope = all_ones; table = record { words = ws; scopes = 0; symbols = 0 } })
      begins = h ∙ ap (λ (t : Table). child_scope img (record { scope = all_ones; table = t })) p.starts

      first : f.scope ≡ 0
      first = unfold child_scope in ap (λ (k : Walked). k.scope) begins

      is : Is img (kind_of module_kind) n
      is = subst (Is img (kind_of module_kind)) (sym q) (root_is p.accepted)

      low : n < nodes img
      low = is.below

      ts : Trees
      ts = items img n (field img n 0) 1

      m : Walked
      m = begun img ws n low p.long

      counts : (m.scope ≡ 0) × (m.table.scopes ≡ 1) × (m.table.symbols ≡ 0)
      counts = begun-counts img ws n low p.long

      a : root_trees n ≡ ts
      a = append-none ts

      fills : suc (sizes ts) ≡ nodes img
      fills = ap (λ (us : Trees). suc (sizes us)) (sym a) ∙ sym (root-tree ws low p.long is).1 ∙ ap (λ (x : ℕ). size (tree_at img x)) q ∙ tree-size img p.accepted

      whole : resolve_tree img (tree_at img (last img)) (record { words = ws; scopes = 0; symbols = 0 }) ≡ over_list img ts m
      whole = ap (λ (x : ℕ). resolve_tree img (tree_at img x) (record { words = ws; scopes = 0; symbols = 0 })) (sym q) ∙ (root-tree ws low p.long is).0
          ∙ ap (λ (us : Trees). and_then img (enter_all img us m) (visit_all img us)) a

-- Resolve, by the words that the code has at each step
module _ (img tab : List ℕ) (passes : test_table img tab ≡ 0) (us : List ℕ) (c : ℕ) (count-is : c ≡ table_length (nodes img)) (begins : us ≡ cleared c tab) where
  as-zeroed : us ≡ zeroed img tab
  unfolding zeroed
  as-zeroed = begins ∙ ap (λ (k : ℕ). cleared k tab) count-is

  pub lent : {b : ScopeBuilder} → b.table.now ≡ us → length us ≡ length tab → b.env.now ≡ replicate environment_length 0 → table_in b ≡ record { words = b.table.now; scopes = 0; symbols = 0 } → Lent img b
  lent w l z s =
      record {
        accepted = table-accepted img tab passes;
        long = (let y = table-long img tab passes in let x = ap length w in omega arith);
        zeros = λ i k. ap (λ (ws : List ℕ). get_or ws i 0) (w ∙ begins) ∙ cleared-zero c tab i (omega arith);
        blank = z;
        starts = s;
      }

  module _ {r : Declared} {env : List ℕ} {t : Table}
      (h : Visited img (resolve_tree img (tree_at img (last img)) (record { words = us; scopes = 0; symbols = 0 })) us r env (record { scope = 0; table = t })) where
    walked_as : walked img tab ≡ listed_of r (record { scope = 0; table = t })
    unfolding walked
    walked_as = ap (λ (ws : List ℕ). resolve_tree img (tree_at img (last img)) (record { words = ws; scopes = 0; symbols = 0 })) (sym as-zeroed) ∙ sym h.same

    module _ {a : Unit {0}} (d : r ≡ Ok a) {w : Resolved} {vs ws : List ℕ} (k : w.scopes ≡ t.scopes) (y : w.symbols ≡ t.symbols) (z : vs ≡ headed img t) (x : ws ≡ vs) where
      done-as : walked img tab ≡ done (record { scope = 0; table = t })
      done-as = walked_as ∙ ap (λ (o : Declared). listed_of o (record { scope = 0; table = t })) d

      q : ws ≡ headed img t
      q = x ∙ z

      counted_is : table_of w ws ≡ counted img t
      counted_is i = record { words = q i; scopes = k i; symbols = y i }

      -- K and Y, with the counts in front
      pub resolved-done : Resolves img tab (Ok w) ws
      unfolding table_by
      resolved-done =
          let e = way_fills img tab refl done-as in
          record { way_is = ap fills counted_is ∙ sym e; table_is = q ∙ ap (table_by img tab) (sym e) }

      -- what was noted
      pub noted-done : {en : List ℕ} → en ≡ env → Noted img (table_of w ws) en
      noted-done l =
          subst (Noted img (table_of w ws)) (sym l) (subst (λ (u : Table). Noted img u env) (sym counted_is)
          (headed-noted img t (noted_of img (walked-ended img tab passes (record { scope = 0; table = t }) done-as).outer (h.stands (record { scope = 0; table = t }) (sym h.same ∙ ap (λ (o : Declared). listed_of o (record { scope = 0; table = t })) d)))))

    -- "twice", with the words cleared again
    pub resolved-twice : {ws : List ℕ} {o : Result Resolved SymbolDeclaredTwice} {us : List ℕ} (x : SymbolDeclaredTwice) → r ≡ Err x → o ≡ Err x → us ≡ cleared c t.words → ws ≡ us → Resolves img tab o ws
    unfolding zeroed cleared table_by
    resolved-twice {ws} {o} x d m q n =
        let e = way-stops img tab refl (walked_as ∙ ap (λ (o : Declared). listed_of o (record { scope = 0; table = t })) d) in
        let z : drop (table_length (nodes img)) t.words ≡ drop (table_length (nodes img)) tab = h.passed ∙ ap (drop (table_length (nodes img))) as-zeroed ∙ zeroed-past img tab in
        record {
          way_is = ap (λ (o : Result Resolved SymbolDeclaredTwice). resolved_way o ws) m ∙ sym e;
          table_is =
              n ∙ q ∙ ap (λ (k : ℕ). cleared k t.words) count-is ∙ ap (λ (l : List ℕ). replicate (table_length (nodes img)) 0 ++ l) z
              ∙ ap (table_by img tab) (sym e);
        }

-- the call itself, by its refusal and by what resolving hands back
module _ (img tab : List ℕ) where
  parts : {a : Answer} {ws : List ℕ} → resolve img tab ≡ record { answer = a; table = ws } → (a ≡ (resolve img tab).answer) × (ws ≡ (resolve img tab).table)
  parts e = (sym (ap (λ (o : Outcome). o.answer) e), sym (ap (λ (o : Outcome). o.table) e))

  pub resolve-refused : (k : ℕ) → k ≡ test_table img tab → (k ≡ 0 → ⊥) → (refused k ≡ (resolve img tab).answer) × (tab ≡ (resolve img tab).table)
  resolve-refused k q h = parts (unfold resolve in call-refused img tab _ k q h)

  module _ (passes : test_table img tab ≡ 0) {d : Result Resolved SymbolDeclaredTwice} {ws : List ℕ} (h : Resolves img tab d ws) where
    pub resolve-twice : {t : SymbolDeclaredTwice} → d ≡ Err t → (twice_answer t.name t.first.0 t.second.0 ≡ (resolve img tab).answer) × (ws ≡ (resolve img tab).table)
    resolve-twice q = parts (unfold resolve in call-stopped img tab _ passes h q)

    pub resolve-done : {w : Resolved} → d ≡ Ok w → (result w.scopes w.symbols ≡ (resolve img tab).answer) × (ws ≡ (resolve img tab).table)
    resolve-done q = parts (unfold resolve in call-filled img tab _ passes h q)
