-- The walk stops at the first clash and nowhere else: what entering a list finds in its scope is what the list declared before.
use mathlib.Core.Path.{◌≡◌, refl, sym, ap, ◌∙◌}
use mathlib.Core.List.{List, [], ◌∷◌, ◌++◌}
use mathlib.Core.Option.{Option, none as nothing, some}
use Prim.Native.Nat.{ℕ, suc, ◌+◌, ◌<◌, ◌≤◌}
use native.Mathlib.Omega.{arith}
use lib.ListN.{length}
use Rattle.ast.specs.Declarations.{declared_all, model_lists, model_lists_all, or_else, earliest}
use Rattle.ast.specs.Image.{nodes, name_of}
use Rattle.ast.specs.Kinds.{outer, inner, root, decl, signature, rule, enum, model}
use Rattle.ast.specs.Tree.{Tree, node, block, Trees, none, ◌◂◌, size, sizes}
use Rattle.ast.proofs.Declarations.{or_else-assoc, earliest-append}
use Rattle.ast.proofs.Small.{Small, Smalls}
use Rattle.ast.proofs.Unfold.{All, nil, cons}
use Rattle.table.specs.Layout.{table_length}
use Rattle.table.specs.Rising.{scope_of}
use Rattle.table.specs.State.{Walked, own_symbol, marked, back}
use Rattle.table.specs.Table.{find, mark, new_symbol}
use Rattle.table.proofs.Frames.{find_none, find-mark, find-symbol}
use Rattle.table.proofs.Kept.{mark-length, symbol-length}
use Rattle.scopes.specs.Walk.{Listed, done, twice, recorded_all, enter_name, and_then, enter_names, mark_all, enter_all, visit, visit_all}
use Rattle.scopes.specs.Promises.{ents, vis, viss, Fits}
use Rattle.scopes.specs.Clash.{Clash, clash_from, clash_in}
use Rattle.scopes.proofs.Adds.{recorded_all-small, named, Newest, enter_all-in, opened, opened-counts, child-newest, child-empty, visit-in, fits_next}

-- the clash that a walk stopped at
unfoldable pub shows : Listed → Option Clash
shows (done e) = nothing
shows (twice x a b) = some (record { name = x; first = a; second = b })

module _ (img : List ℕ) where
  -- the scope that the walk stands in has the symbols ds, in this order
  abbrev pub Finds : List ℕ → Walked → Type 0
  Finds ds e = (x : ℕ) → find img e.table e.scope x ≡ earliest (name_of img) ds x

  -- m symbols more fit
  pub record Space (m : ℕ) (e : Walked) : Type 0 where
    pub room : e.table.symbols + m ≤ nodes img
    pub long : table_length (nodes img) ≤ length e.table.words

  space-less : {a b : ℕ} {e : Walked} → a ≤ b → Space b e → Space a e
  space-less h s = record { room = (let z = s.room in omega arith); long = s.long }

  finds-marks : (ds : List ℕ) {ns : List ℕ} → All (λ n. n < nodes img) ns → (e : Walked) → Finds ds e → Finds ds (mark_all img ns e)
  unfolding mark_all marked
  finds-marks ds nil e h = h
  finds-marks ds (cons {c = n} l q) e h = finds-marks ds q (marked img n e.scope e) (λ x. find-mark img n e.scope e.scope e.table l e.scope x ∙ h x)

  space-marks : {m : ℕ} (ns : List ℕ) (e : Walked) → Space m e → Space m (mark_all img ns e)
  unfolding mark_all marked mark
  space-marks [] e s = s
  space-marks (n ∷ ns) e s =
      space-marks ns (marked img n e.scope e) (record { room = s.room; long = (let y = mark-length img n e.scope e.scope e.table in let z = s.long in omega arith) })

  finds-symbol : (ds : List ℕ) (n : ℕ) (e : Walked) → Finds ds e → Space 1 e → Finds (ds ++ (n ∷ [])) (own_symbol img n e)
  unfolding own_symbol
  finds-symbol ds n e h s x =
      find-symbol img e.scope n e.table (let y = s.room in omega arith) s.long x
      ∙ ap (λ (o : Option ℕ). or_else o (earliest (name_of img) (n ∷ []) x)) (h x) ∙ sym (earliest-append (name_of img) ds (n ∷ []) x)

  space-symbol : {m : ℕ} (n : ℕ) (e : Walked) → Space (suc m) e → Space m (own_symbol img n e)
  unfolding own_symbol new_symbol
  space-symbol n e s = record { room = (let z = s.room in omega arith); long = (let y = symbol-length img e.scope n e.table in let z = s.long in omega arith) }

  -- the names ns are entered after ds: the walk stops at the first clash
  names-shown : (ns ds : List ℕ) (e : Walked) → Finds ds e → Space (length ns) e → shows (enter_names img ns e) ≡ clash_from (name_of img) ds ns
  unfolding enter_names enter_name named clash_from shows and_then
  names-shown [] ds e h s = refl
  names-shown (n ∷ ns) ds e h s =
      ap (λ (o : Option ℕ). shows (and_then img (named img n e o) (enter_names img ns))) (h (name_of img n))
      ∙ go (earliest (name_of img) ds (name_of img n))
      (names-shown ns (ds ++ (n ∷ [])) (own_symbol img n e) (finds-symbol ds n e h (space-less (omega arith) s)) (space-symbol n e s))
    where
      go : (o : Option ℕ) → shows (enter_names img ns (own_symbol img n e)) ≡ clash_from (name_of img) (ds ++ (n ∷ [])) ns
          → shows (and_then img (named img n e o) (enter_names img ns))
          ≡ elim o [ some m ↦ some (record { name = name_of img n; first = m; second = n }) | nothing ↦ clash_from (name_of img) (ds ++ (n ∷ [])) ns ]
      go nothing q = q
      go (some m) q = refl

  enter_all-shown : (us : Trees) → Smalls (nodes img) us → (e : Walked) → Finds [] e → Space (ents us) e → shows (enter_all img us e) ≡ clash_from (name_of img) [] (declared_all us)
  unfolding enter_all
  enter_all-shown us q e h s =
      names-shown (declared_all us) [] (mark_all img (recorded_all us) e) (finds-marks [] (recorded_all-small (nodes img) us q) e h) (space-marks (recorded_all us) e s)

  -- a new scope has no symbol
  finds-none : (e : Walked) → ((j : ℕ) → j < e.table.symbols → scope_of (nodes img) e.table.words j < e.scope) → Finds [] e
  unfolding earliest
  finds-none e h x = find_none img e.table e.scope x (λ j l q. let z = h j l in omega arith)

  fits-less : {a b c d : ℕ} {e : Walked} → a ≤ c → b ≤ d → Fits img c d e → Fits img a b e
  fits-less h k f = record { scopes = (let x = f.scopes in omega arith); symbols = (let y = f.symbols in omega arith); kept = f.kept }

  shows-back : (l : Listed) (s : ℕ) → shows (and_then img l (λ f. done (back img s f))) ≡ shows l
  unfolding and_then shows
  shows-back (done e) s = refl
  shows-back (twice x a b) s = refl

  shows-and : (l : Listed) (g : Walked → Listed) (o p : Option Clash) → shows l ≡ o → ((f : Walked) → l ≡ done f → shows (g f) ≡ p) → shows (and_then img l g) ≡ or_else o p
  unfolding and_then shows
  shows-and (done e) g o p q h = h e refl ∙ ap (λ (c : Option Clash). or_else c p) q
  shows-and (twice x a b) g o p q h = ap (λ (c : Option Clash). or_else c p) q

  clash-lists : (nss mss : List (List ℕ)) → clash_in (name_of img) (nss ++ mss) ≡ or_else (clash_in (name_of img) nss) (clash_in (name_of img) mss)
  unfolding clash_in
  clash-lists [] mss = refl
  clash-lists (ns ∷ nss) mss =
      ap (or_else (clash_from (name_of img) [] ns)) (clash-lists nss mss) ∙ sym (or_else-assoc (clash_from (name_of img) [] ns) (clash_in (name_of img) nss) (clash_in (name_of img) mss))

  -- a list from a new scope on: its names, then what its declarations show
  pub list-shown : (ts : Trees) (e : Walked) → Smalls (nodes img) ts → ((f : Walked) → Fits img (sizes ts) (viss ts) f → shows (visit_all img ts f) ≡ clash_in (name_of img) (model_lists_all ts))
      → Newest img e → ((j : ℕ) → j < e.table.symbols → scope_of (nodes img) e.table.words j < e.scope)
      → e.table.scopes + sizes ts ≤ nodes img → e.table.symbols + (ents ts + viss ts) ≤ nodes img
      → shows (and_then img (enter_all img ts e) (visit_all img ts)) ≡ clash_in (name_of img) (declared_all ts ∷ model_lists_all ts)
  unfolding clash_in
  list-shown ts e q h new empty k y =
      shows-and (enter_all img ts e) (visit_all img ts) _ _
      (enter_all-shown ts q e (finds-none e empty) (record { room = omega arith; long = new.kept.rising.long }))
      (λ f r.
      let w = (enter_all-in img ts q e).went f r in
      let a = w.scopes in
      let b = w.symbols in
      h f (record { scopes = omega arith; symbols = omega arith; kept = (w.keeps (record { scopes = omega arith; symbols = omega arith }) new).kept }))

  mutual
    unfolding visit vis size model_lists clash_in Small shows

    pub visit-shown : (u : Tree) → Small (nodes img) u → (e : Walked) → Fits img (size u) (vis u) e → shows (visit img u e) ≡ clash_in (name_of img) (model_lists u)
    visit-shown (block ts) q e f = refl
    visit-shown (node n k (inner i) sh ts) q e f = refl
    visit-shown (node n k (outer root) sh ts) q e f = refl
    visit-shown (node n k (outer decl) sh ts) q e f = visit_all-shown ts q.1 e (fits-less (omega arith) (omega arith) f)
    visit-shown (node n k (outer signature) sh ts) q e f = refl
    visit-shown (node n k (outer rule) sh ts) q e f = refl
    visit-shown (node n k (outer enum) sh ts) q e f = visit_all-shown ts q.1 e (fits-less (omega arith) (omega arith) f)
    visit-shown (node n k (outer model) sh ts) q e f =
        let x = f.scopes in
        let y = f.symbols in
        let z = opened-counts img n e in
        shows-back (and_then img (enter_all img ts (opened img n e)) (visit_all img ts)) e.scope
        ∙ list-shown ts (opened img n e) q.1 (λ g h. visit_all-shown ts q.1 g h) (child-newest img e q.0 (omega arith) f.kept)
        (child-empty img e q.0 (omega arith) f.kept) (omega arith) (omega arith)

    pub visit_all-shown : (us : Trees) → Smalls (nodes img) us → (e : Walked) → Fits img (sizes us) (viss us) e → shows (visit_all img us e) ≡ clash_in (name_of img) (model_lists_all us)
    visit_all-shown none q e f = refl
    visit_all-shown (u ◂ us) q e f =
        shows-and (visit img u e) (visit_all img us) _ _ (visit-shown u q.0 e (fits-less (omega arith) (omega arith) f))
        (λ g r. visit_all-shown us q.1 g (fits_next img f ((visit-in img u q.0 e).went g r)))
        ∙ sym (clash-lists (model_lists u) (model_lists_all us))
