-- Entering a declaration list goes one declaration after another: marks and names are stored at different places, so which go first does
-- not matter.
use mathlib.Core.Path.{◌≡◌, refl, sym, ap, ◌∙◌}
use mathlib.Core.Logic.{◌≢◌}
use mathlib.Core.List.{List, [], ◌∷◌, ◌++◌}
use mathlib.Core.Option.{Option, none as nothing, some}
use Prim.Native.Nat.{ℕ, ◌+◌, ◌<◌}
use native.Mathlib.Omega.{arith}
use lib.ListN.{set}
use lib.Seq.{set_comm}
use Rattle.ast.specs.Declarations.{declared, declared_all}
use Rattle.ast.specs.Image.{nodes, name_of}
use Rattle.ast.specs.Tree.{Tree, Trees, ◌◂◌}
use Rattle.ast.proofs.Small.{Smalls}
use Rattle.ast.proofs.Unfold.{All, nil, cons}
use Rattle.table.specs.Layout.{entry_place, exit_place, scope_place, node_place}
use Rattle.table.specs.State.{Walked, own_symbol, marked}
use Rattle.table.specs.Table.{Table, find, mark_words, mark, new_symbol}
use Rattle.table.proofs.Frames.{find-mark}
use Rattle.scopes.specs.Walk.{Listed, done, twice, recorded, recorded_all, enter_name, and_then, enter_names, mark_all, enter_all}
use Rattle.scopes.specs.Promises.{enter}
use Rattle.scopes.proofs.Adds.{recorded_all-small, named}

-- two stores before two others, at other places
stores_apart : (ws : List ℕ) (i j k l a b c d : ℕ) → i ≢ k → i ≢ l → j ≢ k → j ≢ l
    → set (set (set (set ws i a) j b) k c) l d ≡ set (set (set (set ws k c) l d) i a) j b
stores_apart ws i j k l a b c d p q r s =
    ap (λ (v : List ℕ). set v l d) (set_comm (set ws i a) j k b c r)
    ∙ set_comm (set (set ws i a) k c) j l b d s
    ∙ ap (λ (v : List ℕ). set (set v l d) j b) (set_comm ws i k a c p)
    ∙ ap (λ (v : List ℕ). set v j b) (set_comm (set ws k c) i l a d q)

module _ (img : List ℕ) where
  abbrev N : ℕ
  N = nodes img

  -- what follows what follows
  pub and-nothing : (l : Listed) → and_then img l (λ f. done f) ≡ l
  unfolding and_then
  and-nothing (done e) = refl
  and-nothing (twice x a b) = refl

  and_assoc : (l : Listed) (g h : Walked → Listed) → and_then img (and_then img l g) h ≡ and_then img l (λ f. and_then img (g f) h)
  unfolding and_then
  and_assoc (done e) g h = refl
  and_assoc (twice x a b) g h = refl

  and_same : (l : Listed) {g h : Walked → Listed} → ((f : Walked) → g f ≡ h f) → and_then img l g ≡ and_then img l h
  unfolding and_then
  and_same (done e) q = q e
  and_same (twice x a b) q = refl

  symbol-mark : (n a b s m : ℕ) (t : Table) → n < N → new_symbol img s m (mark img n a b t) ≡ mark img n a b (new_symbol img s m t)
  unfolding new_symbol mark mark_words
  symbol-mark n a b s m t l =
      ap (λ (ws : List ℕ). record { words = ws; scopes = t.scopes; symbols = t.symbols + 1 })
      (stores_apart t.words (entry_place N n) (exit_place N n) (scope_place N t.symbols) (node_place N t.symbols) a b s m (λ q. omega arith) (λ q. omega arith) (λ q. omega arith) (λ q. omega arith))

  -- a mark after a name, or before it
  name-marked : (m n : ℕ) (e : Walked) → n < N → enter_name img m (marked img n e.scope e) ≡ and_then img (enter_name img m e) (λ f. done (marked img n f.scope f))
  unfolding enter_name named and_then marked own_symbol
  name-marked m n e l = ap (named img m (marked img n e.scope e)) (find-mark img n e.scope e.scope e.table l e.scope (name_of img m)) ∙ go (find img e.table e.scope (name_of img m))
    where
      go : (o : Option ℕ) → named img m (marked img n e.scope e) o ≡ and_then img (named img m e o) (λ f. done (marked img n f.scope f))
      go nothing = ap (λ (t : Table). done (record { scope = e.scope; table = t })) (symbol-mark n e.scope e.scope e.scope m e.table l)
      go (some first) = refl

  names_marked : (ns : List ℕ) (n : ℕ) (e : Walked) → n < N → enter_names img ns (marked img n e.scope e) ≡ and_then img (enter_names img ns e) (λ f. done (marked img n f.scope f))
  unfolding enter_names and_then
  names_marked [] n e l = refl
  names_marked (m ∷ ns) n e l =
      ap (λ (o : Listed). and_then img o (enter_names img ns)) (name-marked m n e l)
      ∙ and_assoc (enter_name img m e) (λ f. done (marked img n f.scope f)) (enter_names img ns)
      ∙ and_same (enter_name img m e) (λ f. names_marked ns n f l)
      ∙ sym (and_assoc (enter_name img m e) (enter_names img ns) (λ f. done (marked img n f.scope f)))

  names-marks : {ms : List ℕ} → All (λ n. n < N) ms → (ns : List ℕ) (e : Walked) → enter_names img ns (mark_all img ms e) ≡ and_then img (enter_names img ns e) (λ f. done (mark_all img ms f))
  unfolding mark_all and_then
  names-marks nil ns e = sym (and-nothing (enter_names img ns e))
  names-marks (cons {c = m} {cs = ms} l h) ns e =
      names-marks h ns (marked img m e.scope e)
      ∙ ap (λ (o : Listed). and_then img o (λ f. done (mark_all img ms f))) (names_marked ns m e l)
      ∙ and_assoc (enter_names img ns e) (λ f. done (marked img m f.scope f)) (λ f. done (mark_all img ms f))

  names-append : (ns ms : List ℕ) (e : Walked) → enter_names img (ns ++ ms) e ≡ and_then img (enter_names img ns e) (enter_names img ms)
  unfolding enter_names and_then
  names-append [] ms e = refl
  names-append (n ∷ ns) ms e = and_same (enter_name img n e) (λ f. names-append ns ms f) ∙ sym (and_assoc (enter_name img n e) (enter_names img ns) (enter_names img ms))

  marks-append : (ns ms : List ℕ) (e : Walked) → mark_all img (ns ++ ms) e ≡ mark_all img ms (mark_all img ns e)
  unfolding mark_all
  marks-append [] ms e = refl
  marks-append (n ∷ ns) ms e = marks-append ns ms (marked img n e.scope e)

  -- a part of a list, then the rest
  pub enter-parts : (ns ds : List ℕ) {ms : List ℕ} (fs : List ℕ) → All (λ n. n < N) ms → (e : Walked)
      → enter_names img (ds ++ fs) (mark_all img (ns ++ ms) e) ≡ and_then img (enter_names img ds (mark_all img ns e)) (λ f. enter_names img fs (mark_all img ms f))
  unfolding and_then
  enter-parts ns ds {ms} fs h e =
      ap (enter_names img (ds ++ fs)) (marks-append ns ms e)
      ∙ names-append ds fs (mark_all img ms (mark_all img ns e))
      ∙ ap (λ (o : Listed). and_then img o (enter_names img fs)) (names-marks h ds (mark_all img ns e))
      ∙ and_assoc (enter_names img ds (mark_all img ns e)) (λ f. done (mark_all img ms f)) (enter_names img fs)

  -- a declaration, then the others of its list
  pub enter-first : (u : Tree) (us : Trees) → Smalls N us → (e : Walked) → enter_all img (u ◂ us) e ≡ and_then img (enter img u e) (enter_all img us)
  unfolding enter enter_all declared recorded
  enter-first u us h e = enter-parts (recorded u) (declared u) (declared_all us) (recorded_all-small N us h) e

  -- an enum's own name, then its constructors'
  pub enter-own : (n : ℕ) (us : Trees) → Smalls N us → (e : Walked)
      → enter_names img (n ∷ declared_all us) (mark_all img (n ∷ recorded_all us) e) ≡ and_then img (enter_name img n (marked img n e.scope e)) (enter_all img us)
  unfolding enter_all enter_names mark_all
  enter-own n us h e =
      enter-parts (n ∷ []) (n ∷ []) (declared_all us) (recorded_all-small N us h) e
      ∙ ap (λ (o : Listed). and_then img o (enter_all img us)) (and-nothing (enter_name img n (marked img n e.scope e)))
