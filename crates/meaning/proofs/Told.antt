-- Along a rule, what lookup gives in the table at the entry and at the exit of each node is what the environment says there.
use mathlib.Core.Path.{◌≡◌, refl, sym, ◌∙◌, ap, subst}
use mathlib.Core.Logic.{inl, inr}
use mathlib.Core.Bool.{Bool, true, false, not}
use mathlib.Core.List.{List, [], ◌∷◌, ◌++◌}
use mathlib.Core.Option.{Option, none as nothing, some}
use Prim.Native.Nat.{ℕ, zero, suc, ◌≤◌, ◌<◌}
use native.Mathlib.Omega.{arith}
use lib.Dec.{eqb}
use Rattle.ast.specs.Declarations.{or_else, earliest}
use Rattle.ast.specs.Image.{nodes, kind_at, name_of}
use Rattle.ast.specs.Kinds.{Class, outer, inner, plain, term, ident, head, head_member, member, case, if_var, defined_then, arg}
use Rattle.ast.specs.Tree.{Tree, node, block, Trees, none, ◌◂◌}
use Rattle.table.specs.Layout.{all_ones}
use Rattle.table.specs.State.{Walked, introduce, back, marked}
use Rattle.table.specs.Table.{Table, mark, lookup, is_kind, is_value, entry_at, exit_at}
use Rattle.table.specs.Kept.{Kept}
use Rattle.ordered.specs.Walk.{Role, walk_ident, walk, walk_seq, walk_first}
use Rattle.ordered.specs.Walk as walking
use Rattle.table.proofs.Kept.{mark-kept}
use Rattle.ordered.proofs.Moves.{numbers, numbers_seq, marks, drops}
use Rattle.table.proofs.Frame.{mark-lookup, mark-entry-same, mark-exit-same, new-lookup, new-kept}
use Rattle.sight.proofs.Members.{in_right}
use Rattle.sight.proofs.Moves.{Walks, walks-over, walks-along, framed}
use Rattle.sight.proofs.Steps.{IdentOnly, VarTerm, VarTerms, Idents, Body, Bodies, Members, Defines}
use Rattle.meaning.specs.Meaning.{Env, Part, occurs, declares, names, defines, head_part, is_a, with, introduces, meet_ident, meet, meet_seq, meet_then}
use Rattle.meaning.specs.Meaning as meaning
use Rattle.meaning.specs.Recorded.{Reads, Around}
use Rattle.meaning.proofs.Keeps.{walks-first, walks-rise, Ends, ends-after, ends-between}

-- a defined-then's variable is a body, and what the walk meets below a defined-then are bodies
module _ (img : List ℕ) where
  var-body : (u : Tree) → VarTerm img u → Body img u
  unfolding Body
  var-body u v = subst (Body img) (sym v.is) (v.kind, elim v.only [ inl i ↦ inl i | inr e ↦ inr (subst (Bodies img) (sym e) tt) ])

  vars-bodies : (us : Trees) → VarTerms img us → Bodies img us
  unfolding Body VarTerms
  vars-bodies none v = tt
  vars-bodies (u ◂ none) v = (var-body u v, tt)
  vars-bodies (u ◂ (w ◂ us)) v = absurd v

  pub defines-bodies : (ts : Trees) → Defines img ts → Bodies img ts
  unfolding Body
  defines-bodies none d = tt
  defines-bodies (u ◂ us) d = (d.0, vars-bodies us d.1)

  -- the tests of kinds
  pub is-kind : (k : ℕ) (o : Option ℕ) → is_kind img k o ≡ is_a (kind_at img) k o
  unfolding is_kind is_a
  is-kind k nothing = refl
  is-kind k (some n) = refl

  pub is-value : (o : Option ℕ) → is_value img o ≡ meaning.is_value (kind_at img) o
  unfolding is_value meaning.is_value is_kind is_a
  is-value nothing = refl
  is-value (some n) = refl

module _ (img : List ℕ) (T : Table) where
  abbrev pub meets : Part → Tree → Env → Env
  meets p u env = meet (name_of img) (kind_at img) p u env

  abbrev pub meets_seq : Part → Trees → Env → Env
  meets_seq p us env = meet_seq (name_of img) (kind_at img) p us env

  abbrev meets_then : Part → Trees → Env → Env
  meets_then p us env = meet_then (name_of img) (kind_at img) p us env

  abbrev meets_ident : Part → ℕ → Env → Env
  meets_ident p i env = meet_ident (name_of img) (kind_at img) p i env

  -- the table tells of a tree what the environments say
  unfoldable mutual
    unfolding meet_seq head_part

    pub Told : Part → Tree → Env → Type 0
    Told p (block ts) env = ToldSeq occurs ts env
    Told p (node n k (outer c) sh ts) env = Unit {0}
    Told p (node n k (inner plain) sh ts) env = Around img T n env (meets_seq occurs ts env) × ToldSeq occurs ts env
    Told p (node n k (inner term) sh ts) env = Around img T n env (meets_seq p ts env) × ToldSeq p ts env
    Told p (node n k (inner ident) sh ts) env = Around img T n env (meets_ident p n env)
    Told p (node n k (inner head) sh ts) env = Around img T n env (meets_seq (head_part sh) ts env) × ToldSeq (head_part sh) ts env
    Told p (node n k (inner head_member) sh ts) env = ToldThen names ts env
    Told p (node n k (inner member) sh ts) env = Around img T n env (meets_then names ts env) × ToldThen names ts env
    Told p (node n k (inner case) sh ts) env = Around img T n env env × ToldSeq occurs ts env
    Told p (node n k (inner if_var) sh ts) env = Around img T n env (meets_then declares ts env) × ToldThen declares ts env
    Told p (node n k (inner defined_then) sh ts) env = Around img T n env (meets_then (defines env) ts env) × ToldThen (defines env) ts env
    Told p (node n k (inner arg) sh ts) env = Unit {0}

    pub ToldSeq : Part → Trees → Env → Type 0
    ToldSeq p none env = Unit {0}
    ToldSeq p (u ◂ us) env = Told p u env × ToldSeq p us (meets p u env)

    pub ToldThen : Part → Trees → Env → Type 0
    ToldThen p none env = Unit {0}
    ToldThen p (u ◂ us) env = Told occurs u env × ToldSeq p us (meets occurs u env)

  -- where the walk stands, with the environment there
  pub record At (env : Env) (e : Walked) : Type 0 where
    pub sane : Kept img e.table
    pub inside : e.scope < e.table.scopes
    pub reads : Reads img T e.scope env

  -- the walk's roles beside the parts; k scopes are there
  pub data Alike (k : ℕ) : Role → Part → Type 0 where
    as-occurs : Alike k walking.occurs occurs
    as-declares : Alike k walking.declares declares
    as-names : Alike k walking.names names
    as-defines : {b : ℕ} {before : Env} → b < k → Reads img T b before → Alike k (walking.defines b) (defines before)

  alike-more : {k l : ℕ} {r : Role} {p : Part} → k ≤ l → Alike k r p → Alike l r p
  alike-more m as-occurs = as-occurs
  alike-more m as-declares = as-declares
  alike-more m as-names = as-names
  alike-more m (as-defines {b = b} i f) = as-defines {b = b} (omega arith) f

  -- a mark more
  marked-at : (n c x : ℕ) {env : Env} (e : Walked) → n < nodes img → At env e → At env (record { scope = e.scope; table = mark img n c x e.table })
  unfolding mark
  marked-at n c x e l a = record { sane = mark-kept img n c x e.table l a.sane; inside = a.inside; reads = a.reads }

  -- what T has at the node n, which is entered at e and left at e'
  around : (n : ℕ) (env env' : Env) (e e' : Walked)
      → entry_at img T.words n ≡ entry_at img (mark img n e.scope e'.scope e'.table).words n
      → exit_at img T.words n ≡ exit_at img (mark img n e.scope e'.scope e'.table).words n
      → n < nodes img → At env e → At env' e' → Around img T n env env'
  around n env env' e e' p q l a a' =
      record {
        entry = subst (λ s. Reads img T s env) (sym (p ∙ mark-entry-same img n e.scope e'.scope e'.table l a'.sane)) a.reads;
        exit = subst (λ s. Reads img T s env') (sym (q ∙ mark-exit-same img n e.scope e'.scope e'.table l a'.sane)) a'.reads;
      }

  -- back in the scope where a block starts
  back_at : {env env' : Env} (e e' : Walked) → e.table.scopes ≤ e'.table.scopes → At env e → At env' e' → At env (back img e.scope e')
  back_at e e' l a a' = record { sane = a'.sane; inside = (let i = a.inside in omega arith); reads = a.reads }

  abbrev named : ℕ → Env → Env
  named i env = with (name_of img) i env

  own-with : (i : ℕ) (env : Env) (x : ℕ) → or_else (earliest (name_of img) (i ∷ []) x) (env x) ≡ named i env x
  unfolding earliest with
  own-with i env x = go (eqb (name_of img i) x)
    where
      go : (b : Bool) → or_else (elim b [ true ↦ some i | false ↦ nothing ]) (env x) ≡ elim b [ true ↦ some i | false ↦ env x ]
      go true = refl
      go false = refl

  -- entries and exits are told if Q, under which each node stands once; where the walk stands is told in any case
  module _ (Q : Type 0) where
    abbrev KeptBy : List ℕ → Table → Type 0
    KeptBy ns t = Ends img T Q ns t

    -- the node n around what stands below it
    wrapped : (n : ℕ) (ns : List ℕ) {env env' : Env} {X : Type 0} (e e' : Walked) → Walks img ns e e' → At env e → (KeptBy ns e'.table → (Q → X) × At env' e')
        → KeptBy (ns ++ (n ∷ [])) (mark img n e.scope e'.scope e'.table) → (Q → Around img T n env env' × X) × At env' (marked img n e.scope e')
    unfolding marked
    wrapped n ns {env} {env'} e e' w a below k =
        let i = in_right n ns (n ∷ []) (inl refl) in
        let l = k.small n i in
        let f = below (ends-between img T Q w (marks {e = e'} n e.scope e'.scope tt) a.sane a.inside k) in (
          (λ q. (around n env env' e e' (k.entries q n i) (k.exits q n i) l a f.1, f.0 q)),
          marked-at n e.scope e'.scope e' l f.1,
        )

    -- an ident ----------------------------------------------------------------------------------------------------------
    module _ (i : ℕ) (env : Env) (e : Walked) (a : At env e) where
      -- the walk goes on from a test that says whether the name is known
      abbrev stepped : Bool → Walked
      stepped b = elim b [ true ↦ e | false ↦ introduce img i e ]

      abbrev said : Bool → Env
      said b = elim (not b) [ true ↦ named i env | false ↦ env ]

      picked : (b : Bool) → ((s x : ℕ) → s < e.table.scopes → lookup img T s x ≡ lookup img e.table s x)
          → KeptBy (i ∷ []) (mark img i e.scope (stepped b).scope (stepped b).table) → At (said b) (stepped b)
      unfolding mark introduce
      picked true old k = a
      picked false old k =
          let b₀ = k.few.0 in
          let b₁ = k.few.1 in
          let K = e.table.scopes in
          let t = (introduce img i e).table in
          record {
            sane = new-kept img i e a.sane a.inside (omega arith) (omega arith);
            inside = omega arith;
            reads = λ x.
                k.lookups K x (omega arith)
                ∙ mark-lookup img i e.scope K t (k.small i (inl refl)) K x
                ∙ new-lookup img i e a.sane a.inside (omega arith) (omega arith) x
                ∙ ap (or_else (earliest (name_of img) (i ∷ []) x)) (sym (old e.scope x a.inside) ∙ a.reads x)
                ∙ own-with i env x;
          }

      ident-at : {r : Role} {p : Part} → Alike e.table.scopes r p → ((s x : ℕ) → s < e.table.scopes → lookup img T s x ≡ lookup img e.table s x)
          → KeptBy (i ∷ []) (mark img i e.scope (walk_ident img r i e).scope (walk_ident img r i e).table)
          → At (meets_ident p i env) (walk_ident img r i e)
      unfolding walk_ident meet_ident introduces
      ident-at as-names old k = a
      ident-at as-occurs old k =
          let o = lookup img e.table e.scope (name_of img i) in
          subst (λ (c : Bool). At (said c) (stepped (is_value img o)))
          (is-value img o ∙ ap (meaning.is_value (kind_at img)) (sym (old e.scope (name_of img i) a.inside) ∙ a.reads (name_of img i)))
          (picked (is_value img o) old k)
      ident-at as-declares old k =
          let o = lookup img e.table e.scope (name_of img i) in
          subst (λ (c : Bool). At (said c) (stepped (is_kind img 13 o)))
          (is-kind img 13 o ∙ ap (is_a (kind_at img) 13) (sym (old e.scope (name_of img i) a.inside) ∙ a.reads (name_of img i)))
          (picked (is_kind img 13 o) old k)
      ident-at (as-defines {b = b} l f) old k =
          let o = lookup img e.table b (name_of img i) in
          subst (λ (c : Bool). At (said c) (stepped (is_kind img 13 o)))
          (is-kind img 13 o ∙ ap (is_a (kind_at img) 13) (sym (old b (name_of img i) l) ∙ f (name_of img i)))
          (picked (is_kind img 13 o) old k)

    -- an IdentTerm, marked
    ident-told : {r : Role} {p : Part} (i k : ℕ) (sh : List ℕ) (us : Trees) {env : Env} (e : Walked) → Alike e.table.scopes r p → At env e
        → KeptBy (i ∷ []) (walk img r (node i k (inner ident) sh us) e).table
        → (Q → Around img T i env (meets_ident p i env)) × At (meets_ident p i env) (walk img r (node i k (inner ident) sh us) e)
    unfolding walk numbers marked
    ident-told {r} {p} i k sh us {env} e q a h =
        let v = walks-over img r (node i k (inner ident) sh us) e in
        let f = framed img v h.few h.small a.sane a.inside in
        let m = walks-rise img v in
        let w = walk_ident img r i e in
        let l = h.small i (inl refl) in
        let z : At (meets_ident p i env) w = ident-at i env e a q (λ s x l. h.lookups s x (omega arith) ∙ f.later.lookups s x l) h in (
          (λ c. around i env (meets_ident p i env) e w (h.entries c i (inl refl)) (h.exits c i (inl refl)) l a z),
          marked-at i e.scope w.scope w l z,
        )

    -- trees -------------------------------------------------------------------------------------------------------------
    -- the one child is an IdentTerm
    lone-told : {r : Role} {p : Part} (ts : Trees) → IdentOnly img ts → {env : Env} (e : Walked) → Alike e.table.scopes r p → At env e
        → KeptBy (numbers_seq ts) (walk_seq img r ts e).table → (Q → ToldSeq p ts env) × At (meets_seq p ts env) (walk_seq img r ts e)
    unfolding numbers walk meet Told
    lone-told {r} {p} ts h {env} e q a =
        subst (λ (us : Trees). KeptBy (numbers_seq us) (walk_seq img r us e).table → (Q → ToldSeq p us env) × At (meets_seq p us env) (walk_seq img r us e)) (sym h.only)
        (λ k. let f = ident-told h.i h.k h.sh h.us e q a k in ((λ c. (f.0 c, tt)), f.1))

    -- member names
    names-told : (us : Trees) → Idents img us → {env : Env} (e : Walked) → At env e → KeptBy (numbers_seq us) (walk_seq img walking.names us e).table
        → (Q → ToldSeq names us env) × At (meets_seq names us env) (walk_seq img walking.names us e)
    unfolding numbers walk meet meet_ident introduces Told Idents
    names-told none h e a k = ((λ c. tt), a)
    names-told (block ts ◂ us) h e a k = absurd h
    names-told (node n k c sh ts ◂ us) h {env} e a kept =
        subst
        (λ (d : Class). KeptBy (numbers_seq (node n k d sh ts ◂ us)) (walk_seq img walking.names (node n k d sh ts ◂ us) e).table
        → (Q → ToldSeq names (node n k d sh ts ◂ us) env) × At (meets_seq names (node n k d sh ts ◂ us) env) (walk_seq img walking.names (node n k d sh ts ◂ us) e))
        (sym h.0)
        (λ kp.
        let u = node n k (inner ident) sh ts in
        let e' = walk img walking.names u e in
        let f = ident-told {p = names} n k sh ts {env = env} e as-names a (ends-between img T Q (walks-over img walking.names u e) (walks-along img walking.names us e') a.sane a.inside kp) in
        let g = names-told us h.1 {env = env} e' f.1 (ends-after img T Q (n ∷ []) (numbers_seq us) (walk_seq img walking.names us e').table kp) in
        ((λ c. (f.0 c, g.0 c)), g.1)) kept

    mutual
      unfolding numbers walk meet Told Body

      told : (u : Tree) → Body img u → {r : Role} {p : Part} {env : Env} (e : Walked) → Alike e.table.scopes r p → At env e → KeptBy (numbers u) (walk img r u e).table
          → (Q → Told p u env) × At (meets p u env) (walk img r u e)
      told (block ts) h e q a k =
          let f = told_seq ts h e as-occurs a k in
          (f.0, back_at e (walk_seq img walking.occurs ts e) (walks-rise img (walks-along img walking.occurs ts e)) a f.1)
      told (node n k (outer c) sh ts) h e q a kp = absurd h
      told (node n k (inner plain) sh ts) h e q a kp =
          wrapped n (numbers_seq ts) e (walk_seq img walking.occurs ts e) (walks-along img walking.occurs ts e) a (λ kq. told_seq ts h e as-occurs a kq) kp
      told (node n k (inner term) sh ts) h {r} e q a kp =
          wrapped n (numbers_seq ts) e (walk_seq img r ts e) (walks-along img r ts e) a
          (λ kq. elim h.1 [ inl o ↦ lone-told ts o e q a kq | inr b ↦ told_seq ts b e q a kq ]) kp
      told (node n k (inner ident) sh ts) h e q a kp = absurd h
      told (node n k (inner head) [] ts) h e q a kp = absurd h
      told (node n k (inner head) (zero ∷ sh) ts) h e q a kp =
          wrapped n (numbers_seq ts) e (walk_seq img walking.names ts e) (walks-along img walking.names ts e) a (lone-told ts h.1 e as-names a) kp
      told (node n k (inner head) (suc c ∷ sh) ts) h e q a kp =
          wrapped n (numbers_seq ts) e (walk_seq img walking.occurs ts e) (walks-along img walking.occurs ts e) a (λ kq. told_seq ts h e as-occurs a kq) kp
      told (node n k (inner head_member) sh ts) h e q a kp =
          let e' = walk_first img walking.names ts e in
          let f = told_first ts h e a (ends-between img T Q (walks-first img walking.names ts e) (marks {e = e'} n all_ones all_ones tt) a.sane a.inside kp) in
          (f.0, marked-at n all_ones all_ones e' (kp.small n (in_right n (numbers_seq ts) (n ∷ []) (inl refl))) f.1)
      told (node n k (inner member) sh ts) h e q a kp =
          wrapped n (numbers_seq ts) e (walk_first img walking.names ts e) (walks-first img walking.names ts e) a (λ kq. told_first ts h e a kq) kp
      told (node n k (inner case) sh ts) h {env = env} e q a kp =
          let e' = walk_seq img walking.occurs ts e in
          let w = walks-along img walking.occurs ts e in
          wrapped n (numbers_seq ts) e (back img e.scope e') (drops w) a
          (λ kq. let g = told_seq ts h {env = env} e as-occurs a kq in (g.0, back_at e e' (walks-rise img w) a g.1)) kp
      told (node n k (inner if_var) sh ts) h e q a kp =
          wrapped n (numbers_seq ts) e (walk_first img walking.declares ts e) (walks-first img walking.declares ts e) a (λ kq. told_then ts h e as-declares a kq) kp
      told (node n k (inner defined_then) sh ts) h e q a kp =
          let r = walking.defines e.scope in
          wrapped n (numbers_seq ts) e (walk_first img r ts e) (walks-first img r ts e) a
          (λ kq. told_then ts (defines-bodies img ts h) e (as-defines a.inside a.reads) a kq) kp
      told (node n k (inner arg) sh ts) h e q a kp = absurd h

      told_seq : (us : Trees) → Bodies img us → {r : Role} {p : Part} {env : Env} (e : Walked) → Alike e.table.scopes r p → At env e
          → KeptBy (numbers_seq us) (walk_seq img r us e).table → (Q → ToldSeq p us env) × At (meets_seq p us env) (walk_seq img r us e)
      told_seq none h e q a k = ((λ c. tt), a)
      told_seq (u ◂ us) h {r} {p} {env} e q a k =
          let e' = walk img r u e in
          let v = walks-over img r u e in
          let f = told u h.0 {r = r} {p = p} {env = env} e q a (ends-between img T Q v (walks-along img r us e') a.sane a.inside k) in
          let g = told_seq us h.1 e' (alike-more (walks-rise img v) q) f.1 (ends-after img T Q (numbers u) (numbers_seq us) (walk_seq img r us e').table k) in
          ((λ c. (f.0 c, g.0 c)), g.1)

      told_then : (us : Trees) → Bodies img us → {r : Role} {p : Part} {env : Env} (e : Walked) → Alike e.table.scopes r p → At env e
          → KeptBy (numbers_seq us) (walk_first img r us e).table → (Q → ToldThen p us env) × At (meet_then (name_of img) (kind_at img) p us env) (walk_first img r us e)
      told_then none h e q a k = ((λ c. tt), a)
      told_then (u ◂ us) h {r} {p} {env} e q a k =
          let e' = walk img walking.occurs u e in
          let v = walks-over img walking.occurs u e in
          let f = told u h.0 {env = env} e as-occurs a (ends-between img T Q v (walks-along img r us e') a.sane a.inside k) in
          let g = told_seq us h.1 e' (alike-more (walks-rise img v) q) f.1 (ends-after img T Q (numbers u) (numbers_seq us) (walk_seq img r us e').table k) in
          ((λ c. (f.0 c, g.0 c)), g.1)

      told_first : (us : Trees) → Members img us → {env : Env} (e : Walked) → At env e → KeptBy (numbers_seq us) (walk_first img walking.names us e).table
          → (Q → ToldThen names us env) × At (meets_then names us env) (walk_first img walking.names us e)
      told_first none h e a k = ((λ c. tt), a)
      told_first (u ◂ us) h {env} e a k =
          let e' = walk img walking.occurs u e in
          let f = told u h.0 {env = env} e as-occurs a (ends-between img T Q (walks-over img walking.occurs u e) (walks-along img walking.names us e') a.sane a.inside k) in
          let g = names-told us h.1 e' f.1 (ends-after img T Q (numbers u) (numbers_seq us) (walk_seq img walking.names us e').table k) in
          ((λ c. (f.0 c, g.0 c)), g.1)

    -- trees of a rule, from where the environment says what lookup gives
    pub rule_told : (ts : Trees) → Bodies img ts → {env : Env} (e : Walked) → At env e → KeptBy (numbers_seq ts) (walk_seq img walking.occurs ts e).table → Q → ToldSeq occurs ts env
    rule_told ts h e a k = (told_seq ts h e as-occurs a k).0

    pub rule-met : (ts : Trees) → Bodies img ts → {r : Role} {p : Part} {env : Env} (e : Walked) → Alike e.table.scopes r p → At env e
        → KeptBy (numbers_seq ts) (walk_seq img r ts e).table → At (meets_seq p ts env) (walk_seq img r ts e)
    rule-met ts h e q a k = (told_seq ts h e q a k).1
