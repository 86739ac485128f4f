-- Every rule of a module is walked from a scope where names have their outer meaning, and the table that resolving leaves
-- keeps what that walk wrote.
use mathlib.Core.Path.{◌≡◌, refl, sym, ◌∙◌, ap, subst, fun_ext}
use mathlib.Core.Logic.{◌⊎◌, inl, inr, ◌↔◌}
use mathlib.Core.Bool.{Bool, true, false}
use mathlib.Core.List.{List, [], ◌∷◌, ◌++◌}
use mathlib.Core.Option.{Option, none as nothing, some}
use Prim.Native.Nat.{ℕ, ◌≤◌, ◌<◌}
use native.Mathlib.Omega.{arith}
use lib.ListN.{length}
use lib.Dec.{eqb}
use Rattle.ast.specs.Declarations.{declared_all, or_else, earliest}
use Rattle.ast.specs.Image.{nodes, name_of, kind_at}
use Rattle.ast.specs.Kinds.{Class}
use Rattle.ast.specs.Tree.{node, Trees}
use Rattle.table.specs.Layout.{all_ones, table_length}
use Rattle.table.specs.Rising.{parent_at}
use Rattle.table.specs.State.{Walked, child_scope, marked}
use Rattle.table.specs.Table.{Table, mark, new_scope, find, lookup, is_kind, entry_at, exit_at}
use Rattle.table.proofs.Frames.{held-mark, find-mark, held-scope}
use Rattle.ordered.specs.Walk.{occurs, walk_seq}
use Rattle.scopes.specs.Walk.{done, recorded_all, enter_all, visit_all, resolve_tree}
use Rattle.table.specs.Kept.{Kept}
use Rattle.table.proofs.Agreed.{Agree, lookup-agree}
use Rattle.table.proofs.Kept.{mark-kept, scope_kept}
use Rattle.ordered.proofs.Moves.{numbers_seq, rises}
use Rattle.scopes.proofs.Adds.{and-inv}
use Rattle.scopes.specs.Resolve.{counted}
use Rattle.scopes.proofs.Headed.{headed-lookup, headed-entry, headed-exit}
use Rattle.scopes.proofs.Resolving.{none_kept}
use Rattle.sight.specs.Listing.{Distinct}
use Rattle.sight.specs.Sight.{Place, In, rule_places, Naming, Occurrence, Same, outer_const}
use Rattle.ast.specs.Rules.{Rule, says_all, rules_all}
use Rattle.sight.proofs.Members.{in_left, in_right, in_split, distinct-left, distinct-right, distinct_apart}
use Rattle.sight.proofs.Frame.{Bounds, Later, later-next}
use Rattle.table.proofs.Frame.{lookup-child, lookup-root, mark-parent, mark-exit, mark-entry, child-parent, child-parent-other, child-empty, child-exit, child-entry}
use Rattle.sight.proofs.Steps.{Bodies}
use Rattle.sight.proofs.Moves.{walks_seq, framed}
use Rattle.sight.proofs.Lists.{visited_all, module_numbers, Decls, stays, Entered, entering, enters_all, Visits, idle, after, walks, ruled, nested, visits_all, kind-or_else}
use Rattle.sight.proofs.OneRule.{exit_live, RuleWalk, place-node, occurrences, bindings, introducing}

module _ (img : List ℕ) where
  -- visiting makes scopes and symbols, and comes back to its scope
  record Returns (e e' : Walked) : Type 0 where
    scope : e'.scope ≡ e.scope
    scopes : e.table.scopes ≤ e'.table.scopes
    symbols : e.table.symbols ≤ e'.table.symbols

  returns : {ns : List ℕ} {rs : List Rule} {m : ℕ → Option ℕ} {e e' : Walked} → Visits img ns rs m e e' → Returns e e'
  unfolding marked child_scope
  returns idle = record { scope = refl; scopes = omega arith; symbols = omega arith }
  returns (after v u) =
      let f = returns v in
      let g = returns u in
      record { scope = g.scope ∙ f.scope; scopes = omega arith; symbols = omega arith }
  returns (walks {e = e} ts) = let r = rises img _ _ (walks_seq img ts e) in record { scope = refl; scopes = r.0; symbols = r.1 }
  returns (ruled {e = e} ts b) = let r = rises img _ _ (walks_seq img ts e) in record { scope = refl; scopes = r.0; symbols = r.1 }
  returns (nested n v u) =
      let f = stays img v in
      let f₀ = f.scopes in
      let f₁ = f.symbols in
      let g = returns u in
      let g₀ = g.scopes in
      let g₁ = g.symbols in
      record { scope = refl; scopes = omega arith; symbols = omega arith }

  -- T has the scopes of t, and keeps its lookups, and the entries and exits of the nodes ns
  pub record Keeps (ns : List ℕ) (t T : Table) : Type 0 where
    pub scopes : t.scopes ≤ T.scopes
    pub lookups : (s x : ℕ) → s < t.scopes → lookup img T s x ≡ lookup img t s x
    pub entries : (m : ℕ) → m < nodes img → In m ns → entry_at img T.words m ≡ entry_at img t.words m
    pub exits : (m : ℕ) → m < nodes img → In m ns → exit_at img T.words m ≡ exit_at img t.words m

  -- the walk of a rule, from a scope where names have their outer meaning
  abbrev pub WalkOf : Rule → Table → Type 0
  WalkOf r T =
      (e : Walked)
      × RuleWalk img r.statements e T
      × ((x : ℕ) → lookup img e.table e.scope x ≡ r.meaning x)
      × Keeps (numbers_seq r.statements) (walk_seq img occurs r.statements e).table T

  pub record Held (ns : List ℕ) (rs : List Rule) (t t' : Table) : Type 0 where
    pub sane : Kept img t'
    pub later : Later img t t' ns
    pub entries : (m : ℕ) → m < nodes img → (In m ns → ⊥) → entry_at img t'.words m ≡ entry_at img t.words m
    pub walked : (T : Table) → Keeps ns t' T → (r : Rule) → In r rs → WalkOf r T

  held_after : (ns ms : List ℕ) (rs qs : List Rule) (t t' t'' : Table) → t.scopes ≤ t'.scopes → t'.scopes ≤ t''.scopes → Distinct (ns ++ ms)
      → Held ns rs t t' → Held ms qs t' t'' → Held (ns ++ ms) (rs ++ qs) t t''
  held_after ns ms rs qs t t' t'' a b d f g =
      record {
        sane = g.sane;
        later = later-next img t t' t'' ns ms a f.later g.later;
        entries = λ m l k. g.entries m l (λ j. k (in_right m ns ms j)) ∙ f.entries m l (λ j. k (in_left m ns ms j));
        walked = λ T k r i. go T k r (in_split r rs qs i);
      }
    where
      go : (T : Table) → Keeps (ns ++ ms) t'' T → (r : Rule) → In r rs ⊎ In r qs → WalkOf r T
      go T k r (inl i) =
          f.walked T
          (record {
            scopes = (let z = k.scopes in omega arith);
            lookups = λ s x l. k.lookups s x (omega arith) ∙ g.later.lookups s x l;
            entries = λ m l j. k.entries m l (in_left m ns ms j) ∙ g.entries m l (λ h. distinct_apart ns ms d m j h);
            exits = λ m l j. k.exits m l (in_left m ns ms j) ∙ g.later.exits m l (λ h. distinct_apart ns ms d m j h);
          })
          r i
      go T k r (inr i) = g.walked T (record { scopes = k.scopes; lookups = k.lookups; entries = λ m l j. k.entries m l (in_right m ns ms j); exits = λ m l j. k.exits m l (in_right m ns ms j) }) r i

  held-rule : (ts : Trees) (body : Bodies img ts) (m : ℕ → Option ℕ) (e : Walked) → Bounds img (walk_seq img occurs ts e).table
      → ((n : ℕ) → In n (numbers_seq ts) → n < nodes img) → Distinct (numbers_seq ts) → Kept img e.table → e.scope < e.table.scopes
      → ((x : ℕ) → lookup img e.table e.scope x ≡ m x) → ((x : ℕ) → is_kind img 13 (m x) ≡ false)
      → Held (numbers_seq ts) (record { statements = ts; meaning = m } ∷ []) e.table (walk_seq img occurs ts e).table
  held-rule ts body m e b sm di so i reads outs =
      let f = framed img (walks_seq img ts e) b sm so i in
      record { sane = f.sane; later = f.later; entries = f.entries; walked = go }
    where
      go : (T : Table) → Keeps (numbers_seq ts) (walk_seq img occurs ts e).table T → (r : Rule) → In r (record { statements = ts; meaning = m } ∷ []) → WalkOf r T
      go T k r (inr j) = absurd j
      go T k r (inl q) =
          subst (λ (z : Rule). WalkOf z T) (sym q) (
            e,
            record {
              body = body;
              small = sm;
              distinct = di;
              sane = so;
              inside = i;
              outside = λ x. ap (is_kind img 13) (reads x) ∙ outs x;
              scopes≤ = b.0;
              symbols≤ = b.1;
              lookups = k.lookups;
              exits = λ p j. k.exits p.node (sm p.node (place-node img ts body e p j)) (place-node img ts body e p j);
            },
            reads,
            k,
          )

  -- a new list, its scope below the one of e
  module _ (n : ℕ) (es ds : List ℕ) (m : ℕ → Option ℕ) (e : Walked) (t' : Table) (so : Kept img e.table) (inside : e.scope < e.table.scopes)
      (K<N : e.table.scopes < nodes img) (n<N : n < nodes img)
      (en : Entered img e.table.scopes es ds (mark img n e.table.scopes e.table.scopes (new_scope img e.scope e.table)) t')
      (reads : (x : ℕ) → lookup img e.table e.scope x ≡ m x) where
    abbrev D : ℕ → Option ℕ
    D = earliest (name_of img) ds

    abbrev t : Table
    t = e.table

    abbrev s : ℕ
    s = e.scope

    abbrev K : ℕ
    K = t.scopes

    abbrev t₀ : Table
    t₀ = new_scope img s t

    list-agree : Agree img K t t'
    unfolding new_scope
    list-agree r l = (
      (λ x. sym (en.others r x (omega arith) ∙ held-mark img n K K t₀ n<N r x ∙ held-scope img s t K<N r x)),
      sym (en.parents r (omega arith) ∙ mark-parent img n K K t₀ n<N r ∙ child-parent-other img s t so K<N r l),
    )

    list-old : (r x : ℕ) → r < K → lookup img t' r x ≡ lookup img t r x
    list-old r x l = sym (lookup-agree img K t t' r x l list-agree)

    list-find : (x : ℕ) → find img t' K x ≡ D x
    list-find x = en.here x ∙ ap (λ u. or_else u (D x)) (find-mark img n K K t₀ n<N K x ∙ child-empty img s t so K<N x)

    list-parent : parent_at (nodes img) t'.words K ≡ s
    list-parent = en.parents K K<N ∙ mark-parent img n K K t₀ n<N K ∙ child-parent img s t so K<N

    list-reads : (x : ℕ) → lookup img t' K x ≡ or_else (D x) (m x)
    list-reads x =
        lookup-child img t' K s x list-parent inside
        ∙ ap (λ u. or_else u (lookup img t' s x)) (list-find x)
        ∙ ap (or_else (D x)) (list-old s x inside ∙ reads x)

    list-later : Later img t t' (n ∷ es)
    list-later =
        record {
          lookups = list-old;
          exits = λ k l f. en.exits k l (λ j. f (inr j)) ∙ mark-exit img n K K t₀ n<N k l (λ q. f (inl q)) ∙ child-exit img s t so K<N k l;
        }

    list-entries : (k : ℕ) → k < nodes img → (In k (n ∷ es) → ⊥) → entry_at img t'.words k ≡ entry_at img t.words k
    list-entries k l f = en.entries k l (λ j. f (inr j)) ∙ mark-entry img n K K t₀ n<N k l (λ q. f (inl q)) ∙ child-entry img s t so K<N k l

  holds : {ns : List ℕ} {rs : List Rule} {m : ℕ → Option ℕ} {e e' : Walked} → Visits img ns rs m e e' → Bounds img e'.table → ((n : ℕ) → In n ns → n < nodes img)
      → Distinct ns → Kept img e.table → e.scope < e.table.scopes → ((x : ℕ) → lookup img e.table e.scope x ≡ m x)
      → ((x : ℕ) → is_kind img 13 (m x) ≡ false) → Held ns rs e.table e'.table
  unfolding marked child_scope
  holds idle b sm di so i reads outs =
      record { sane = so; later = record { lookups = λ s x l. refl; exits = λ m l f. refl }; entries = λ m l f. refl; walked = λ T k r j. absurd j }
  holds (after {ns = ns} {ms = ms} {rs = rs} {qs = qs} {m = m} {e = e} {e' = e'} {e'' = e''} v u) b sm di so i reads outs =
      let p = returns v in
      let p₀ = p.scope in
      let q = returns u in
      let f : Held ns rs e.table e'.table = holds v (omega arith, omega arith) (λ n j. sm n (in_left n ns ms j)) (distinct-left ns ms di) so i reads outs in
      let g : Held ms qs e'.table e''.table =
      holds u b (λ n j. sm n (in_right n ns ms j)) (distinct-right ns ms di) f.sane (omega arith)
      (λ x. ap (λ s. lookup img e'.table s x) p₀ ∙ f.later.lookups e.scope x i ∙ reads x) outs in
      held_after ns ms rs qs e.table e'.table e''.table p.scopes q.scopes di f g
  holds (walks {e = e} ts) b sm di so i reads outs =
      let f = framed img (walks_seq img ts e) b sm so i in
      record { sane = f.sane; later = f.later; entries = f.entries; walked = λ T k r j. absurd j }
  holds (ruled {m = m} {e = e} ts body) b sm di so i reads outs = held-rule ts body m e b sm di so i reads outs
  holds (nested {es = es} {ds = ds} {ns = ns} {rs = rs} {m = m} {e = e} {e' = e'} {e'' = e''} n v u) b sm di so i reads outs =
      let K = e.table.scopes in
      let p = stays img v in
      let p₀ = p.scope in
      let p₁ = p.scopes in
      let p₂ = p.symbols in
      let q = returns u in
      let q₀ = q.scopes in
      let q₁ = q.symbols in
      let K<N : K < nodes img = omega arith in
      let n<N = sm n (inl refl) in
      let en : Entered img K es ds (mark img n K K (new_scope img e.scope e.table)) e'.table =
      entering img v (omega arith) (λ k j. sm k (inr (in_left k es ns j)))
      (mark-kept img n K K (new_scope img e.scope e.table) n<N (scope_kept img e.scope e.table K<N so)) (omega arith) in
      let f : Held (n ∷ es) [] e.table e'.table =
      record { sane = en.sane; later = list-later n es ds m e e'.table so i K<N n<N en reads; entries = list-entries n es ds m e e'.table so i K<N n<N en reads; walked = λ T k r j. absurd j } in
      let g : Held ns rs e'.table e''.table =
      holds u b (λ k j. sm k (inr (in_right k es ns j))) (distinct-right es ns di.1) en.sane (omega arith)
      (λ x. ap (λ s. lookup img e'.table s x) p₀ ∙ list-reads n es ds m e e'.table so i K<N n<N en reads x)
      (λ x. kind-or_else img (earliest (name_of img) ds x) (m x) (en.novar x) (outs x)) in
      held_after (n ∷ es) ns [] rs e.table e'.table e''.table (omega arith) q₀ di f g

  -- what resolving leaves for the rules rs: their walks, told by the table with its counts in front
  pub record Resolved (rs : List Rule) (e : Walked) : Type 0 where
    pub bounds : Bounds img e.table
    pub sane : Kept img e.table
    pub walks : (r : Rule) → In r rs → WalkOf r (counted img e.table)

  pub resolves : (n k : ℕ) (c : Class) (sh : List ℕ) (ts : Trees) (ws : List ℕ) (e : Walked)
      → resolve_tree img (node n k c sh ts) (record { words = ws; scopes = 0; symbols = 0 }) ≡ done e → table_length (nodes img) ≤ length ws → Bounds img e.table
      → Decls img ts → ((m : ℕ) → In m (module_numbers n ts) → m < nodes img) → Distinct (module_numbers n ts)
      → Resolved (rules_all img (says_all img ts) ts) e
  unfolding resolve_tree new_scope marked
  resolves n k c sh ts ws e q size b d sm di =
      let t₀ : Table = record { words = ws; scopes = 0; symbols = 0 } in
      let t₁ : Table = new_scope img all_ones t₀ in
      let so : Kept img t₀ = none_kept img ws size in
      let es = recorded_all ts in
      let ns = visited_all ts in
      let D = says_all img ts in
      let n<N = sm n (inl refl) in
      let e₁ : Walked = marked img n 0 (record { scope = 0; table = t₁ }) in
      let h = and-inv img (enter_all img ts e₁) (λ f. visit_all img ts f) e q in
      let E = enters_all img ts d e₁ h.0 h.1 in
      let v = visits_all img ts d D h.0 e h.2 in
      let p = stays img E in
      let p₀ = p.scope in
      let p₁ = p.scopes in
      let z = returns v in
      let z₀ = z.symbols in
      let en : Entered img 0 es (declared_all ts) (mark img n 0 0 t₁) h.0.table =
      entering img E (omega arith) (λ m i. sm m (inr (in_left m es ns i))) (mark-kept img n 0 0 t₁ n<N (scope_kept img all_ones t₀ (omega arith) so)) (omega arith) in
      let reads : (x : ℕ) → lookup img h.0.table h.0.scope x ≡ D x = λ x.
      ap (λ s. lookup img h.0.table s x) p₀
      ∙ lookup-root img h.0.table 0 x (omega arith)
      ∙ en.here x
      ∙ ap (λ u. or_else u (D x)) (find-mark img n 0 0 t₁ n<N 0 x ∙ child-empty img all_ones t₀ so (omega arith) x) in
      let held : Held ns (rules_all img D ts) h.0.table e.table =
      holds v b (λ m i. sm m (inr (in_right m es ns i))) (distinct-right es ns di.1) en.sane (omega arith) reads en.novar in
      record {
        bounds = b;
        sane = held.sane;
        walks = held.walked (counted img e.table)
            (record {
              scopes = omega arith;
              lookups = λ s x l. sym (headed-lookup img e.table s x);
              entries = λ m l i. sym (headed-entry img e.table m);
              exits = λ m l i. sym (headed-exit img e.table m);
            });
      }

  -- the third demand for a rule that was walked
  module _ (T : Table) (r : Rule) (w : WalkOf r T) where
    -- what lookup of its name gives, in the table, at the exit of a place's node
    abbrev pub binding_in : Place → Option ℕ
    binding_in p = lookup img T (exit_at img T.words p.node) (name_of img p.ident)

    abbrev pub places_in : List Place
    places_in = rule_places r.statements

    const-kind : (o : Option ℕ) → is_kind img 5 o ≡ elim o [ nothing ↦ false | some n ↦ eqb (kind_at img n) 5 ]
    unfolding is_kind
    const-kind nothing = refl
    const-kind (some n) = refl

    constants : (λ x. is_kind img 5 (lookup img w.0.table w.0.scope x)) ≡ outer_const img r
    unfolding outer_const
    constants = fun_ext (λ x. ap (is_kind img 5) (w.2 x) ∙ const-kind (r.meaning x))

    pub var-is-occurrence : (p : Place) → In p places_in → (is_kind img 13 (binding_in p) ≡ true) ↔ Occurrence (name_of img) (outer_const img r) places_in p
    var-is-occurrence p i =
        subst (λ (c : ℕ → Bool). (is_kind img 13 (binding_in p) ≡ true) ↔ Occurrence (name_of img) c places_in p) constants
        (occurrences img r.statements w.0 T w.1 p i)

    -- the exit is a scope of the table
    pub exit_below : (p : Place) → In p places_in → exit_at img T.words p.node < T.scopes
    exit_below p i = let a = exit_live img r.statements w.0 T w.1 p i in let b = w.3.scopes in omega arith

    pub equal-is-same : (p q : Place) → In p places_in → In q places_in → Occurrence (name_of img) (outer_const img r) places_in p
        → (binding_in p ≡ binding_in q) ↔ Same (name_of img) (outer_const img r) places_in p q
    equal-is-same p q i j o =
        subst (λ (c : ℕ → Bool). Occurrence (name_of img) c places_in p → (binding_in p ≡ binding_in q) ↔ Same (name_of img) c places_in p q) constants
        (λ h. bindings img r.statements w.0 T w.1 p q i j h) o

    -- the binding is the IdentTerm of a naming place, which has itself for its binding
    pub from-naming : (p : Place) → In p places_in → Occurrence (name_of img) (outer_const img r) places_in p
        → (q : Place) × In q places_in × Naming (name_of img) (outer_const img r) q × (binding_in p ≡ some q.ident) × (binding_in q ≡ some q.ident)
    from-naming p i o =
        subst (λ (c : ℕ → Bool). Occurrence (name_of img) c places_in p
        → (q : Place) × In q places_in × Naming (name_of img) c q × (binding_in p ≡ some q.ident) × (binding_in q ≡ some q.ident)) constants
        (λ h. introducing img r.statements w.0 T w.1 p i h) o
