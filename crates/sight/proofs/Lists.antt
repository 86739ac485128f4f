-- Declaration lists: what entering and visiting them do to the table.
use mathlib.Core.Path.{◌≡◌, refl, sym, ◌∙◌, ap, subst}
use mathlib.Core.Logic.{inl, inr, ◌≢◌}
use mathlib.Core.Bool.{Bool, true, false}
use mathlib.Core.List.{List, [], ◌∷◌, ◌++◌}
use mathlib.Core.Option.{Option, none as nothing, some}
use Prim.Native.Nat.{ℕ, zero, suc, ◌≤◌, ◌<◌}
use native.Mathlib.Omega.{arith}
use lib.Dec.{eqb}
use Rattle.ast.specs.Declarations.{rule_node, declared, declared_all, or_else, earliest}
use Rattle.ast.specs.Image.{nodes, kind_at, name_of}
use Rattle.ast.specs.Kinds.{outer, inner, root, decl, signature, rule, enum, model}
use Rattle.ast.specs.Tree.{Tree, node, block, Trees, none, ◌◂◌}
use Rattle.ast.proofs.Declarations.{or_else-none, or_else-assoc, earliest-append}
use Rattle.ast.proofs.Unfold.{All, nil, cons, All-append}
use Rattle.table.specs.Rising.{parent_at}
use Rattle.table.specs.State.{Walked, child_scope, own_symbol, marked, back}
use Rattle.table.specs.Table.{Table, held, find, is_kind, entry_at, exit_at}
use Rattle.table.proofs.Frames.{held-mark, find-mark}
use Rattle.ordered.specs.Walk.{occurs, walk_seq}
use Rattle.scopes.specs.Walk.{done, recorded_all, enter_name, and_then, enter_names, mark_all, enter_all, visit, visit_all}
use Rattle.table.specs.Kept.{Kept}
use Rattle.table.proofs.Kept.{mark-kept, symbol-kept}
use Rattle.ordered.proofs.Moves.{numbers_seq}
use Rattle.scopes.proofs.Adds.{named, done-same, twice-done, and-inv}
use Rattle.sight.specs.Sight.{In}
use Rattle.ast.specs.Rules.{Rule, says_all, rules, rules_all}
use Rattle.table.proofs.Frame.{name-held-other, name-find, name-parent, name-exit, name-entry, mark-parent, mark-exit, mark-entry}
use Rattle.sight.proofs.Steps.{Bodies}

-- the nodes that visiting marks
unfoldable mutual
  unfolding numbers_seq

  pub visited : Tree → List ℕ
  visited (block ts) = []
  visited (node n k (inner i) sh ts) = []
  visited (node n k (outer root) sh ts) = []
  visited (node n k (outer decl) sh ts) = visited_all ts
  visited (node n k (outer signature) sh ts) = numbers_seq ts
  visited (node n k (outer rule) sh ts) = numbers_seq ts
  visited (node n k (outer enum) sh ts) = visited_all ts
  visited (node n k (outer model) sh ts) = n ∷ (recorded_all ts ++ visited_all ts)

  pub visited_all : Trees → List ℕ
  visited_all none = []
  visited_all (u ◂ us) = visited u ++ visited_all us

-- the nodes of a module that get a mark
abbrev pub module_numbers : ℕ → Trees → List ℕ
module_numbers n ts = n ∷ (recorded_all ts ++ visited_all ts)

module _ (img : List ℕ) where
  -- no declaration has the kind of an IdentTerm, and rules have bodies
  abbrev pub NoVar : ℕ → Type 0
  NoVar n = eqb (kind_at img n) 13 ≡ false

  unfoldable mutual
    unfolding Bodies

    pub Decl : Tree → Type 0
    Decl (block ts) = Unit {0}
    Decl (node n k (inner i) sh ts) = Unit {0}
    Decl (node n k (outer root) sh ts) = Unit {0}
    Decl (node n k (outer decl) sh ts) = Decls ts
    Decl (node n k (outer signature) sh ts) = NoVar n
    Decl (node n k (outer rule) sh ts) = NoVar n × Bodies img ts
    Decl (node n k (outer enum) sh ts) = NoVar n × Decls ts
    Decl (node n k (outer model) sh ts) = NoVar n × Decls ts

    pub Decls : Trees → Type 0
    Decls none = Unit {0}
    Decls (u ◂ us) = Decl u × Decls us

  -- entering a list, with the nodes marked and those declared
  pub data Enters : List ℕ → List ℕ → Walked → Walked → Type 0 where
    stay : {e : Walked} → Enters [] [] e e
    marks : {ns ds : List ℕ} {e e' : Walked} (n : ℕ) → Enters ns ds (marked img n e.scope e) e' → Enters (n ∷ ns) ds e e'
    names : {ns ds : List ℕ} {e e' : Walked} (n : ℕ) → NoVar n → Enters ns ds (own_symbol img n e) e' → Enters ns (n ∷ ds) e e'

  name_done : (n : ℕ) (e e' : Walked) → enter_name img n e ≡ done e' → own_symbol img n e ≡ e'
  unfolding enter_name named
  name_done n e e' q = go (find img e.table e.scope (name_of img n)) q
    where
      go : (o : Option ℕ) → named img n e o ≡ done e' → own_symbol img n e ≡ e'
      go nothing h = done-same (own_symbol img n e) e' h
      go (some first) h = absurd (twice-done (name_of img n) first n e' h)

  enters-names : {ds : List ℕ} → All NoVar ds → (e e' : Walked) → enter_names img ds e ≡ done e' → Enters [] ds e e'
  unfolding enter_names
  enters-names nil e e' q = subst (Enters [] [] e) (done-same e e' q) stay
  enters-names (cons {c = n} {cs = ds} v h) e e' q =
      let f = and-inv img (enter_name img n e) (λ g. enter_names img ds g) e' q in
      names n v (subst (λ (g : Walked). Enters [] ds g e') (sym (name_done n e f.0 f.1)) (enters-names h f.0 e' f.2))

  enters-marks : (ns : List ℕ) {ds : List ℕ} (e e' : Walked) → Enters [] ds (mark_all img ns e) e' → Enters ns ds e e'
  unfolding mark_all
  enters-marks [] e e' v = v
  enters-marks (n ∷ ns) e e' v = marks n (enters-marks ns (marked img n e.scope e) e' v)

  rule-novar : (sh : List ℕ) (n : ℕ) → NoVar n → All NoVar (rule_node sh n)
  unfolding rule_node
  rule-novar [] n v = nil
  rule-novar (zero ∷ sh) n v = nil
  rule-novar (suc c ∷ sh) n v = cons v nil

  mutual
    unfolding declared Decl

    decl-novar : (u : Tree) → Decl u → All NoVar (declared u)
    decl-novar (block ts) d = nil
    decl-novar (node n k (inner i) sh ts) d = nil
    decl-novar (node n k (outer root) sh ts) d = nil
    decl-novar (node n k (outer decl) sh ts) d = decls-novar ts d
    decl-novar (node n k (outer signature) sh ts) d = cons d nil
    decl-novar (node n k (outer rule) sh ts) d = rule-novar sh n d.0
    decl-novar (node n k (outer enum) sh ts) d = cons d.0 (decls-novar ts d.1)
    decl-novar (node n k (outer model) sh ts) d = cons d.0 nil

    decls-novar : (us : Trees) → Decls us → All NoVar (declared_all us)
    decls-novar none d = nil
    decls-novar (u ◂ us) d = All-append (decl-novar u d.0) (decls-novar us d.1)

  pub enters_all : (us : Trees) → Decls us → (e e' : Walked) → enter_all img us e ≡ done e' → Enters (recorded_all us) (declared_all us) e e'
  unfolding enter_all
  enters_all us d e e' q = enters-marks (recorded_all us) e e' (enters-names (decls-novar us d) (mark_all img (recorded_all us) e) e' q)

  -- entering keeps the scope, and makes none
  pub record Stays (e e' : Walked) : Type 0 where
    pub scope : e'.scope ≡ e.scope
    pub scopes : e'.table.scopes ≡ e.table.scopes
    pub symbols : e.table.symbols ≤ e'.table.symbols

  pub stays : {ns ds : List ℕ} {e e' : Walked} → Enters ns ds e e' → Stays e e'
  unfolding marked own_symbol
  stays stay = record { scope = refl; scopes = refl; symbols = omega arith }
  stays (marks n v) = let f = stays v in record { scope = f.scope; scopes = f.scopes; symbols = f.symbols }
  stays (names n h v) = let f = stays v in record { scope = f.scope; scopes = f.scopes; symbols = (let y = f.symbols in omega arith) }

  pub kind-or_else : (a b : Option ℕ) → is_kind img 13 a ≡ false → is_kind img 13 b ≡ false → is_kind img 13 (or_else a b) ≡ false
  kind-or_else nothing b f g = g
  kind-or_else (some n) b f g = f

  kind-own : (n x : ℕ) → NoVar n → is_kind img 13 (earliest (name_of img) (n ∷ []) x) ≡ false
  unfolding is_kind earliest
  kind-own n x v = go (eqb (name_of img n) x)
    where
      go : (c : Bool) → is_kind img 13 (elim c [ true ↦ some n | false ↦ nothing ]) ≡ false
      go true = v
      go false = refl

  pub record Entered (s : ℕ) (ns ds : List ℕ) (t t' : Table) : Type 0 where
    pub sane : Kept img t'
    pub others : (r x : ℕ) → r ≢ s → held img t' r x ≡ held img t r x
    pub here : (x : ℕ) → find img t' s x ≡ or_else (find img t s x) (earliest (name_of img) ds x)
    pub parents : (r : ℕ) → r < nodes img → parent_at (nodes img) t'.words r ≡ parent_at (nodes img) t.words r
    pub exits : (m : ℕ) → m < nodes img → (In m ns → ⊥) → exit_at img t'.words m ≡ exit_at img t.words m
    pub entries : (m : ℕ) → m < nodes img → (In m ns → ⊥) → entry_at img t'.words m ≡ entry_at img t.words m
    pub novar : (x : ℕ) → is_kind img 13 (earliest (name_of img) ds x) ≡ false

  pub entering : {ns ds : List ℕ} {e e' : Walked} → Enters ns ds e e' → e'.table.symbols ≤ nodes img → ((n : ℕ) → In n ns → n < nodes img)
      → Kept img e.table → suc e.scope ≡ e.table.scopes → Entered e.scope ns ds e.table e'.table
  unfolding marked own_symbol is_kind earliest
  entering (stay {e = e}) b sm so i =
      record {
        sane = so;
        others = λ r x f. refl;
        here = λ x. sym (or_else-none (find img e.table e.scope x));
        parents = λ r l. refl;
        exits = λ m l f. refl;
        entries = λ m l f. refl;
        novar = λ x. refl;
      }
  entering (marks {ns = ns} {ds = ds} {e = e} {e' = e'} n v) b sm so i =
      let l = sm n (inl refl) in
      let s = e.scope in
      let t = e.table in
      let f = entering v b (λ m j. sm m (inr j)) (mark-kept img n s s t l so) i in
      record {
        sane = f.sane;
        others = λ r x h. f.others r x h ∙ held-mark img n s s t l r x;
        here = λ x. f.here x ∙ ap (λ o. or_else o (earliest (name_of img) ds x)) (find-mark img n s s t l s x);
        parents = λ r k. f.parents r k ∙ mark-parent img n s s t l r;
        exits = λ m k h. f.exits m k (λ j. h (inr j)) ∙ mark-exit img n s s t l m k (λ q. h (inl q));
        entries = λ m k h. f.entries m k (λ j. h (inr j)) ∙ mark-entry img n s s t l m k (λ q. h (inl q));
        novar = f.novar;
      }
  entering (names {ns = ns} {ds = ds} {e = e} {e' = e'} n h v) b sm so i =
      let s = e.scope in
      let t = e.table in
      let y = (stays v).symbols in
      let f = entering v b sm (symbol-kept img s n t (omega arith) i so) i in
      record {
        sane = f.sane;
        others = λ r x k. f.others r x k ∙ name-held-other img s n t so (omega arith) r x k;
        here = λ x.
            f.here x ∙ ap (λ o. or_else o (earliest (name_of img) ds x)) (name-find img s n t so (omega arith) x)
            ∙ or_else-assoc (find img t s x) (earliest (name_of img) (n ∷ []) x) (earliest (name_of img) ds x)
            ∙ ap (or_else (find img t s x)) (sym (earliest-append (name_of img) (n ∷ []) ds x));
        parents = λ r k. f.parents r k ∙ name-parent img s n t so (omega arith) r k;
        exits = λ m k j. f.exits m k j ∙ name-exit img s n t so (omega arith) m k;
        entries = λ m k j. f.entries m k j ∙ name-entry img s n t so (omega arith) m k;
        novar = λ x. ap (is_kind img 13) (earliest-append (name_of img) (n ∷ []) ds x) ∙ kind-or_else (earliest (name_of img) (n ∷ []) x) (earliest (name_of img) ds x) (kind-own n x h) (f.novar x);
      }

  -- visiting a list where names mean m, with the nodes marked and the rules met
  pub data Visits : List ℕ → List Rule → (ℕ → Option ℕ) → Walked → Walked → Type 0 where
    idle : {m : ℕ → Option ℕ} {e : Walked} → Visits [] [] m e e
    after : {ns ms : List ℕ} {rs qs : List Rule} {m : ℕ → Option ℕ} {e e' e'' : Walked}
        → Visits ns rs m e e' → Visits ms qs m e' e'' → Visits (ns ++ ms) (rs ++ qs) m e e''
    walks : {m : ℕ → Option ℕ} {e : Walked} (ts : Trees) → Visits (numbers_seq ts) [] m e (back img e.scope (walk_seq img occurs ts e))
    ruled : {m : ℕ → Option ℕ} {e : Walked} (ts : Trees) → Bodies img ts
        → Visits (numbers_seq ts) (record { statements = ts; meaning = m } ∷ []) m e (back img e.scope (walk_seq img occurs ts e))
    nested : {es ds ns : List ℕ} {rs : List Rule} {m : ℕ → Option ℕ} {e e' e'' : Walked} (n : ℕ)
        → Enters es ds (marked img n e.table.scopes (child_scope img e)) e'
        → Visits ns rs (λ x. or_else (earliest (name_of img) ds x) (m x)) e' e'' → Visits (n ∷ (es ++ ns)) rs m e (back img e.scope e'')

  same_end : {ns : List ℕ} {rs : List Rule} {m : ℕ → Option ℕ} (e f g : Walked) → Visits ns rs m e f → done f ≡ done g → Visits ns rs m e g
  same_end {ns} {rs} {m} e f g h q = subst (Visits ns rs m e) (done-same f g q) h

  mutual
    unfolding visit visited rules Decl

    pub visits : (u : Tree) → Decl u → (m : ℕ → Option ℕ) (e e' : Walked) → visit img u e ≡ done e' → Visits (visited u) (rules img m u) m e e'
    visits (block ts) d m e e' q = same_end e e e' idle q
    visits (node n k (inner i) sh ts) d m e e' q = same_end e e e' idle q
    visits (node n k (outer root) sh ts) d m e e' q = same_end e e e' idle q
    visits (node n k (outer decl) sh ts) d m e e' q = visits_all ts d m e e' q
    visits (node n k (outer signature) sh ts) d m e e' q = same_end e (back img e.scope (walk_seq img occurs ts e)) e' (walks ts) q
    visits (node n k (outer rule) sh ts) d m e e' q = same_end e (back img e.scope (walk_seq img occurs ts e)) e' (ruled ts d.1) q
    visits (node n k (outer enum) sh ts) d m e e' q = visits_all ts d.1 m e e' q
    visits (node n k (outer model) sh ts) d m e e' q =
        let b = marked img n e.table.scopes (child_scope img e) in
        let g = and-inv img (and_then img (enter_all img ts b) (λ f. visit_all img ts f)) (λ f. done (back img e.scope f)) e' q in
        let h = and-inv img (enter_all img ts b) (λ f. visit_all img ts f) g.0 g.1 in
        same_end e (back img e.scope g.0) e'
        (nested n (enters_all ts d.1 b h.0 h.1) (visits_all ts d.1 (λ x. or_else (says_all img ts x) (m x)) h.0 g.0 h.2))
        g.2

    pub visits_all : (us : Trees) → Decls us → (m : ℕ → Option ℕ) (e e' : Walked) → visit_all img us e ≡ done e' → Visits (visited_all us) (rules_all img m us) m e e'
    visits_all none d m e e' q = same_end e e e' idle q
    visits_all (u ◂ us) d m e e' q =
        let h = and-inv img (visit img u e) (λ f. visit_all img us f) e' q in
        after (visits u d.0 m e h.0 h.1) (visits_all us d.1 m h.0 e' h.2)
