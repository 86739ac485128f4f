-- What entering and visiting declarations do to the counts and to the table: together they add at most one scope and one symbol
-- for each node.
use mathlib.Core.Path.{◌≡◌, refl, subst, ◌∙◌}
use mathlib.Core.List.{List, [], ◌∷◌}
use mathlib.Core.Option.{Option, none as nothing, some}
use Prim.Native.Nat.{ℕ, zero, suc, ◌+◌, ◌<◌, ◌≤◌}
use native.Mathlib.Omega.{arith}
use lib.ListN.{length, length-append}
use Rattle.ast.specs.Declarations.{rule_node, declared, declared_all}
use Rattle.ast.specs.Image.{nodes, name_of}
use Rattle.ast.specs.Kinds.{outer, inner, root, decl, signature, rule, enum, model}
use Rattle.ast.specs.Tree.{Tree, node, block, Trees, none, ◌◂◌, size, sizes}
use Rattle.ast.proofs.Small.{Small, Smalls}
use Rattle.ast.proofs.Unfold.{All, nil, cons, All-append}
use Rattle.table.specs.Rising.{scope_of}
use Rattle.table.specs.State.{Walked, child_scope, own_symbol, marked, back}
use Rattle.table.specs.Table.{find, mark, new_scope, new_symbol}
use Rattle.ordered.specs.Walk.{occurs, walk_seq}
use Rattle.ordered.specs.Promises.{Few}
use Rattle.ordered.proofs.Grows.{seq-grows}
use Rattle.table.specs.Kept.{Kept}
use Rattle.table.proofs.Kept.{past, mark-kept, scope_kept, symbol-kept, mark-past, scope-past, symbol-past, mark-length, scope-length, symbol-length, mark-rows, scope-rows}
use Rattle.ordered.proofs.Size.{seq-within}
use Rattle.scopes.specs.Walk.{Listed, done, twice, recorded, recorded_all, enter_name, and_then, enter_names, mark_all, enter_all, visit, visit_all}
use Rattle.scopes.specs.Promises.{enter, ent, ents, vis, viss, Fits}

-- the nodes that record are nodes of the tree
module _ (m : ℕ) where
  mutual
    unfolding recorded Small

    pub recorded-small : (u : Tree) → Small m u → All (λ n. n < m) (recorded u)
    recorded-small (block ts) q = nil
    recorded-small (node n k (inner i) sh ts) q = nil
    recorded-small (node n k (outer root) sh ts) q = nil
    recorded-small (node n k (outer decl) sh ts) q = cons q.0 (recorded_all-small ts q.1)
    recorded-small (node n k (outer signature) sh ts) q = cons q.0 nil
    recorded-small (node n k (outer rule) sh ts) q = cons q.0 nil
    recorded-small (node n k (outer enum) sh ts) q = cons q.0 (recorded_all-small ts q.1)
    recorded-small (node n k (outer model) sh ts) q = nil

    pub recorded_all-small : (us : Trees) → Smalls m us → All (λ n. n < m) (recorded_all us)
    recorded_all-small none q = nil
    recorded_all-small (u ◂ us) q = All-append (recorded-small u q.0) (recorded_all-small us q.1)

rule-one : (sh : List ℕ) (n : ℕ) → length (rule_node sh n) ≤ 1
unfolding rule_node
rule-one [] n = omega arith
rule-one (zero ∷ sh) n = omega arith
rule-one (suc c ∷ sh) n = omega arith

mutual
  unfolding vis declared size

  pub adds : (u : Tree) → ent u + vis u ≤ size u
  adds (block ts) = omega arith
  adds (node n k (inner i) sh ts) = omega arith
  adds (node n k (outer root) sh ts) = omega arith
  adds (node n k (outer decl) sh ts) = let h = addss ts in omega arith
  adds (node n k (outer signature) sh ts) = omega arith
  adds (node n k (outer rule) sh ts) = let h = rule-one sh n in omega arith
  adds (node n k (outer enum) sh ts) = let h = addss ts in omega arith
  adds (node n k (outer model) sh ts) = let h = addss ts in omega arith

  pub addss : (us : Trees) → ents us + viss us ≤ sizes us
  addss none = omega arith
  addss (u ◂ us) = let h = adds u in let k = addss us in let q = length-append (declared u) (declared_all us) in omega arith

-- what a walk keeps of its table
abbrev pub KeptAt : List ℕ → Walked → Type 0
KeptAt img e = Kept img e.table

-- the same, in the newest scope, where names may be entered
pub record Newest (img : List ℕ) (e : Walked) : Type 0 where
  pub kept : Kept img e.table
  pub last : suc e.scope ≡ e.table.scopes

-- from e to f: the same scope, at most a scopes and b symbols more; and where the counts are within the arrays, Q is kept and
-- the words past the table stay
pub record Went (img : List ℕ) (Q : Walked → Type 0) (a b : ℕ) (e f : Walked) : Type 0 where
  pub same : f.scope ≡ e.scope
  pub scopes : f.table.scopes ≤ e.table.scopes + a
  pub symbols : f.table.symbols ≤ e.table.symbols + b
  pub more : e.table.scopes ≤ f.table.scopes
  pub grown : e.table.symbols ≤ f.table.symbols
  pub long : length f.table.words ≡ length e.table.words
  pub passed : Few img f.table → past img f.table ≡ past img e.table
  pub keeps : Few img f.table → Q e → Q f

-- if it is done, it went so
pub record In (img : List ℕ) (Q : Walked → Type 0) (a b : ℕ) (e : Walked) (l : Listed) : Type 0 where
  pub went : (f : Walked) → l ≡ done f → Went img Q a b e f

pub done-same : (f g : Walked) → done f ≡ done g → f ≡ g
done-same f g q = cc

pub twice-done : (x y z : ℕ) (g : Walked) → twice x y z ≡ done g → ⊥
twice-done x y z g q = let h : ◌≡◌ {A = ℕ} 0 1 = cc in omega arith

-- fewer scopes and symbols are within the arrays too
pub few-back : {img : List ℕ} {Q : Walked → Type 0} {a b : ℕ} {e f : Walked} → Went img Q a b e f → Few img f.table → Few img e.table
few-back w h = let p = w.more in let q = w.grown in let i = h.scopes in let j = h.symbols in record { scopes = omega arith; symbols = omega arith }

-- what follows is done only where all before it is
pub and-inv : (img : List ℕ) (l : Listed) (g : Walked → Listed) (f : Walked) → and_then img l g ≡ done f → (e : Walked) × (l ≡ done e) × (g e ≡ done f)
unfolding and_then
and-inv img (done e) g f q = (e, refl, q)
and-inv img (twice x a b) g f q = absurd (twice-done x a b f q)

module _ {img : List ℕ} {Q : Walked → Type 0} where
  in-done : {a b : ℕ} {e f : Walked} → Went img Q a b e f → In img Q a b e (done f)
  in-done {a} {b} {e} {f} w = record { went = λ g q. subst (Went img Q a b e) (done-same f g q) w }

  in_twice : {a b : ℕ} {e : Walked} (x y z : ℕ) → In img Q a b e (twice x y z)
  in_twice x y z = record { went = λ g q. absurd (twice-done x y z g q) }

  stay : (e : Walked) → In img Q 0 0 e (done e)
  stay e = in-done (record { same = refl; scopes = omega arith; symbols = omega arith; more = omega arith; grown = omega arith; long = refl; passed = λ h. refl; keeps = λ h s. s })

  wide : {a b c d : ℕ} {e : Walked} {l : Listed} → a ≤ c → b ≤ d → In img Q a b e l → In img Q c d e l
  wide p q w =
      record {
        went = λ f r.
            let v = w.went f r in
            let x = v.scopes in
            let y = v.symbols in
            record { same = v.same; scopes = omega arith; symbols = omega arith; more = v.more; grown = v.grown; long = v.long; passed = v.passed; keeps = v.keeps };
      }

  then-went : {a b c d : ℕ} {e f g : Walked} → Went img Q a b e f → Went img Q c d f g → Went img Q (a + c) (b + d) e g
  then-went v w =
      let p = v.more in
      let q = v.grown in
      let r = w.more in
      let s = w.grown in
      let x = v.scopes in
      let y = v.symbols in
      let x2 = w.scopes in
      let y2 = w.symbols in
      record {
        same = w.same ∙ v.same;
        scopes = omega arith;
        symbols = omega arith;
        more = omega arith;
        grown = omega arith;
        long = w.long ∙ v.long;
        passed = λ h. w.passed h ∙ v.passed (few-back w h);
        keeps = λ h z. w.keeps h (v.keeps (few-back w h) z);
      }

  and_in : {a b c d : ℕ} {e : Walked} (l : Listed) (g : Walked → Listed) → In img Q a b e l → ((f : Walked) → In img Q c d f (g f)) → In img Q (a + c) (b + d) e (and_then img l g)
  unfolding and_then
  and_in (done f) g w h = record { went = λ k q. then-went (w.went f refl) ((h f).went k q) }
  and_in (twice x y z) g w h = in_twice x y z

module _ (img : List ℕ) where
  -- a name's entry, by what its scope has of the name
  unfoldable pub named : ℕ → Walked → Option ℕ → Listed
  unfolding own_symbol
  named n e o = elim o [ nothing ↦ done (own_symbol img n e) | some first ↦ twice (name_of img n) first n ]

  named_in : (n : ℕ) (e : Walked) (o : Option ℕ) → In img (Newest img) 0 1 e (named n e o)
  unfolding named new_symbol
  named_in n e nothing =
      in-done
      (record {
        same = refl;
        scopes = omega arith;
        symbols = omega arith;
        more = omega arith;
        grown = omega arith;
        long = symbol-length img e.scope n e.table;
        passed = λ h. symbol-past img e.scope n e.table (let y = h.symbols in omega arith);
        keeps = λ h s. record { kept = symbol-kept img e.scope n e.table (let y = h.symbols in omega arith) s.last s.kept; last = s.last };
      })
  named_in n e (some a) = in_twice (name_of img n) a n

  pub name_in : (n : ℕ) (e : Walked) → In img (Newest img) 0 1 e (enter_name img n e)
  unfolding enter_name named
  name_in n e = named_in n e (find img e.table e.scope (name_of img n))

  names_in : (ns : List ℕ) (e : Walked) → In img (Newest img) 0 (length ns) e (enter_names img ns e)
  unfolding enter_names
  names_in [] e = stay e
  names_in (n ∷ ns) e = wide (omega arith) (omega arith) (and_in (enter_name img n e) (enter_names img ns) (name_in n e) (λ f. names_in ns f))

  -- marks change no count and no row
  from-marked : {n : ℕ} → n < nodes img → (cur : ℕ) {a b : ℕ} (e : Walked) {l : Listed} → In img (Newest img) a b (marked img n cur e) l → In img (Newest img) a b e l
  unfolding marked mark
  from-marked {n} i cur e w =
      record {
        went = λ f q.
            let v = w.went f q in
            record {
              same = v.same;
              scopes = v.scopes;
              symbols = v.symbols;
              more = v.more;
              grown = v.grown;
              long = v.long ∙ mark-length img n cur e.scope e.table;
              passed = λ h. v.passed h ∙ mark-past img n cur e.scope e.table i;
              keeps = λ h s. v.keeps h (record { kept = mark-kept img n cur e.scope e.table i s.kept; last = s.last });
            };
      }

  from-marks : {ns : List ℕ} → All (λ n. n < nodes img) ns → {a b : ℕ} (e : Walked) {l : Listed} → In img (Newest img) a b (mark_all img ns e) l → In img (Newest img) a b e l
  unfolding mark_all
  from-marks nil e w = w
  from-marks (cons {c = n} l h) e w = from-marked l e.scope e (from-marks h (marked img n e.scope e) w)

  pub enter-in : (u : Tree) → Small (nodes img) u → (e : Walked) → In img (Newest img) 0 (ent u) e (enter img u e)
  unfolding enter
  enter-in u q e = from-marks (recorded-small (nodes img) u q) e (names_in (declared u) (mark_all img (recorded u) e))

  pub enter_all-in : (us : Trees) → Smalls (nodes img) us → (e : Walked) → In img (Newest img) 0 (ents us) e (enter_all img us e)
  unfolding enter_all
  enter_all-in us q e = from-marks (recorded_all-small (nodes img) us q) e (names_in (declared_all us) (mark_all img (recorded_all us) e))

  walked-in : (ts : Trees) → Smalls (nodes img) ts → (e : Walked) → Went img (KeptAt img) (sizes ts) (sizes ts) e (back img e.scope (walk_seq img occurs ts e))
  walked-in ts q e =
      let w = seq-within img occurs ts e in
      let g = seq-grows img occurs ts q e in
      record { same = refl; scopes = w.scopes; symbols = w.symbols; more = g.scopes; grown = g.symbols; long = g.long; passed = g.passed; keeps = g.kept }

  -- a model's own scope
  abbrev pub opened : ℕ → Walked → Walked
  opened n e = marked img n e.table.scopes (child_scope img e)

  pub child-newest : {n : ℕ} (e : Walked) → n < nodes img → e.table.scopes < nodes img → Kept img e.table → Newest img (opened n e)
  unfolding marked child_scope new_scope mark
  child-newest {n} e i l s =
      record {
        kept = mark-kept img n e.table.scopes e.table.scopes (new_scope img e.scope e.table) i (scope_kept img e.scope e.table l s);
        last = (let z : suc e.table.scopes ≡ e.table.scopes + 1 = omega arith in z);
      }

  pub child-past : {n : ℕ} (e : Walked) → n < nodes img → e.table.scopes < nodes img → past img (opened n e).table ≡ past img e.table
  unfolding marked child_scope
  child-past {n} e i l = mark-past img n e.table.scopes e.table.scopes (new_scope img e.scope e.table) i ∙ scope-past img e.scope e.table l

  -- no row of it yet
  pub child-empty : {n : ℕ} (e : Walked) → n < nodes img → e.table.scopes < nodes img → Kept img e.table
      → (j : ℕ) → j < (opened n e).table.symbols → scope_of (nodes img) (opened n e).table.words j < (opened n e).scope
  unfolding marked mark child_scope new_scope
  child-empty {n} e i l s j k =
      let a = mark-rows img n e.table.scopes e.table.scopes (new_scope img e.scope e.table) i j in
      let b = scope-rows img e.scope e.table l j in
      let c = s.under j k in
      omega arith

  pub opened-counts : (n : ℕ) (e : Walked) → ((opened n e).table.scopes ≡ e.table.scopes + 1) × ((opened n e).table.symbols ≡ e.table.symbols)
  unfolding marked mark child_scope new_scope
  opened-counts n e = (refl, refl)

  child-length : (n : ℕ) (e : Walked) → length (opened n e).table.words ≡ length e.table.words
  unfolding marked child_scope
  child-length n e = mark-length img n e.table.scopes e.table.scopes (new_scope img e.scope e.table) ∙ scope-length img e.scope e.table

  from-child : {n : ℕ} → n < nodes img → {a b c d : ℕ} (e : Walked) (l : Listed) (g : Walked → Listed) → In img (Newest img) a b (opened n e) l → ((f : Walked) → In img (KeptAt img) c d f (g f))
      → In img (KeptAt img) (suc (a + c)) (b + d) e (and_then img (and_then img l g) (λ f. done (back img e.scope f)))
  unfolding and_then marked mark child_scope new_scope
  from-child {n} i {a} {b} {c} {d} e (done f) g w h = go (g f) (h f)
    where
      v : Went img (Newest img) a b (opened n e) f
      v = w.went f refl

      go : (l : Listed) → In img (KeptAt img) c d f l → In img (KeptAt img) (suc (a + c)) (b + d) e (and_then img l (λ f. done (back img e.scope f)))
      go (done k) x =
          let y = x.went k refl in
          let p = v.more in
          let q = v.grown in
          let r = y.more in
          let s = y.grown in
          let p2 = v.scopes in
          let q2 = v.symbols in
          let r2 = y.scopes in
          let s2 = y.symbols in
          in-done
          (record {
            same = refl;
            scopes = omega arith;
            symbols = omega arith;
            more = omega arith;
            grown = omega arith;
            long = y.long ∙ v.long ∙ child-length n e;
            passed = λ t. let t1 = t.scopes in y.passed t ∙ v.passed (few-back y t) ∙ child-past e i (omega arith);
            keeps = λ t z. let t1 = t.scopes in y.keeps t (v.keeps (few-back y t) (child-newest e i (omega arith) z)).kept;
          })
      go (twice x y z) u = in_twice x y z
  from-child i e (twice x y z) g w h = in_twice x y z

  mutual
    unfolding visit vis size Small

    pub visit-in : (u : Tree) → Small (nodes img) u → (e : Walked) → In img (KeptAt img) (size u) (vis u) e (visit img u e)
    visit-in (block ts) q e = wide (omega arith) (omega arith) (stay e)
    visit-in (node n k (inner i) sh ts) q e = wide (omega arith) (omega arith) (stay e)
    visit-in (node n k (outer root) sh ts) q e = wide (omega arith) (omega arith) (stay e)
    visit-in (node n k (outer decl) sh ts) q e = wide (omega arith) (omega arith) (visit_all-in ts q.1 e)
    visit-in (node n k (outer signature) sh ts) q e = wide (omega arith) (omega arith) (in-done (walked-in ts q.1 e))
    visit-in (node n k (outer rule) sh ts) q e = wide (omega arith) (omega arith) (in-done (walked-in ts q.1 e))
    visit-in (node n k (outer enum) sh ts) q e = wide (omega arith) (omega arith) (visit_all-in ts q.1 e)
    visit-in (node n k (outer model) sh ts) q e =
        wide (omega arith) (omega arith)
        (from-child q.0 e (enter_all img ts (opened n e)) (visit_all img ts) (enter_all-in ts q.1 (opened n e)) (λ f. visit_all-in ts q.1 f))

    pub visit_all-in : (us : Trees) → Smalls (nodes img) us → (e : Walked) → In img (KeptAt img) (sizes us) (viss us) e (visit_all img us e)
    visit_all-in none q e = stay e
    visit_all-in (u ◂ us) q e = and_in (visit img u e) (visit_all img us) (visit-in u q.0 e) (λ f. visit_all-in us q.1 f)

  -- a whole list, from the newest scope on
  kept_in : {a b : ℕ} {e : Walked} {l : Listed} → Newest img e → In img (Newest img) a b e l → In img (KeptAt img) a b e l
  kept_in new w =
      record {
        went = λ f q.
            let v = w.went f q in
            record { same = v.same; scopes = v.scopes; symbols = v.symbols; more = v.more; grown = v.grown; long = v.long; passed = v.passed; keeps = λ h z. (v.keeps h new).kept };
      }

  pub list-in : (ts : Trees) (e : Walked) → Smalls (nodes img) ts → Newest img e → In img (KeptAt img) (0 + sizes ts) (ents ts + viss ts) e (and_then img (enter_all img ts e) (visit_all img ts))
  list-in ts e q new = and_in (enter_all img ts e) (visit_all img ts) (kept_in new (enter_all-in ts q e)) (λ f. visit_all-in ts q f)

  -- what fits before fits after
  pub fits_next : {a b c d : ℕ} {e f : Walked} → Fits img (a + c) (b + d) e → Went img (KeptAt img) a b e f → Fits img c d f
  fits_next h w =
      let x = h.scopes in
      let y = h.symbols in
      let u = w.scopes in
      let v = w.symbols in
      record { scopes = omega arith; symbols = omega arith; kept = w.keeps (record { scopes = omega arith; symbols = omega arith }) h.kept }
