-- What the steps of a walk do to what the environment says.
use mathlib.Core.Path.{◌≡◌, refl, sym, ap, ap₂, subst, ◌∙◌}
use mathlib.Core.Logic.{◌≢◌, ⊎_elim}
use mathlib.Core.List.{List}
use mathlib.Core.Option.{Option, none, some}
use Prim.Native.Nat.{ℕ, zero, suc, ◌+◌, ◌<◌, ◌≤◌}
use native.Mathlib.Decide.{ℕ_discrete}
use native.Mathlib.Nat.{eq-or-lt_of_le}
use native.Mathlib.Numerals.{add-one}
use native.Mathlib.Omega.{arith}
use lib.ListN.{length, get_or, set, replicate, length-set, length-replicate, get_or-replicate}
use lib.Seq.{get_or-set_same, get_or-set_other}
use borrow.Author.Tests.{eq-eqb, ne_eqb}
use Rattle.ast.specs.Declarations.{or_else}
use Rattle.ast.specs.Image.{nodes, name_of}
use Rattle.ast.proofs.Declarations.{or_else-none}
use Rattle.table.specs.Kept.{Kept}
use Rattle.table.specs.Layout.{all_ones, table_length, entry_place, exit_place, node_place}
use Rattle.table.specs.Rising.{scope_of, node_at, parent_at}
use Rattle.table.specs.State.{Walked, child_scope, own_symbol, introduce, marked, unmarked}
use Rattle.table.specs.Table.{Table, Found, held, found, find, mark, new_scope, new_symbol, entry_at, exit_at}
use Rattle.table.proofs.Finds.{climb-hit, node-none}
use Rattle.table.proofs.Frame.{found-child, found-root, mark-parent, mark-found, mark-entry, mark-exit, mark-entry-same, mark-exit-same, child-parent, child-parent-other, child-held, child-entry, child-exit, name-held, name-held-other, name-parent, name-entry, name-exit}
use Rattle.table.proofs.Frames.{SameRows, mark-same, symbol-same, scope-word, symbol-scope, symbol-node, symbol-new, own, held-scope}
use Rattle.table.proofs.Agreed.{found-agree}
use Rattle.table.proofs.Kept.{mark-kept, scope_kept, symbol-kept, scope-rows}
use Rattle.environment.specs.Asked.{asked}
use Rattle.environment.specs.Layout.{names_most, nodes_most, hidden_place, entry_note, exit_note, environment_length, standing, hidden, noted_entry, noted_exit, bound, noted}
use Rattle.environment.specs.Stands.{told, Tells, Notes, Hides, Says, Stands, Opens, Noted, Named, Asking}

-- one place of two: the given one, or another
at-or : (P : ℕ → Type 0) (n m : ℕ) → P n → (m ≢ n → P m) → P m
at-or P n m here other = go (ℕ_discrete m n)
  where
    go : Dec (m ≡ n) → P m
    go (yes q) = subst P (sym q) here
    go (no f) = other f

-- the words of an environment in which a name was bound, or a node noted
module _ (env : List ℕ) (x j : ℕ) where
  bound-length : length (bound env x j) ≡ length env
  unfolding bound
  bound-length = length-set (set env (hidden_place j) (standing env x)) x (j + 1) ∙ length-set env (hidden_place j) (standing env x)

  bound-other : (i : ℕ) → i ≢ x → i ≢ hidden_place j → get_or (bound env x j) i 0 ≡ get_or env i 0
  unfolding bound
  bound-other i f g = get_or-set_other (set env (hidden_place j) (standing env x)) x i (j + 1) 0 f ∙ get_or-set_other env (hidden_place j) i (standing env x) 0 g

  bound-name : length env ≡ environment_length → x < names_most → standing (bound env x j) x ≡ j + 1
  unfolding bound
  bound-name l b = get_or-set_same (set env (hidden_place j) (standing env x)) x (j + 1) 0 (rw length-set (omega arith))

  bound-hidden : length env ≡ environment_length → x < names_most → j < nodes_most → hidden (bound env x j) j ≡ standing env x
  unfolding bound
  bound-hidden l b c =
      get_or-set_other (set env (hidden_place j) (standing env x)) x (hidden_place j) (j + 1) 0 (λ q. omega arith)
      ∙ get_or-set_same env (hidden_place j) (standing env x) 0 (omega arith)

module _ (env : List ℕ) (n v w : ℕ) where
  noted-length : length (noted env n v w) ≡ length env
  unfolding noted
  noted-length = length-set (set env (entry_note n) v) (exit_note n) w ∙ length-set env (entry_note n) v

  noted_other : (i : ℕ) → i ≢ entry_note n → i ≢ exit_note n → get_or (noted env n v w) i 0 ≡ get_or env i 0
  unfolding noted
  noted_other i f g = get_or-set_other (set env (entry_note n) v) (exit_note n) i w 0 g ∙ get_or-set_other env (entry_note n) i v 0 f

  noted-entry : length env ≡ environment_length → n < nodes_most → noted_entry (noted env n v w) n ≡ v
  unfolding noted
  noted-entry l b =
      get_or-set_other (set env (entry_note n) v) (exit_note n) (entry_note n) w 0 (λ q. omega arith) ∙ get_or-set_same env (entry_note n) v 0 (omega arith)

  noted-exit : length env ≡ environment_length → n < nodes_most → noted_exit (noted env n v w) n ≡ w
  unfolding noted
  noted-exit l b = get_or-set_same (set env (entry_note n) v) (exit_note n) w 0 (rw length-set (omega arith))

-- two environments that differ at most in what they note for the node n
record Beside (n : ℕ) (env new : List ℕ) : Type 0 where
  long : length new ≡ length env
  names : (x : ℕ) → x < names_most → standing new x ≡ standing env x
  rows : (j : ℕ) → j < nodes_most → hidden new j ≡ hidden env j
  entries : (m : ℕ) → m < nodes_most → m ≢ n → noted_entry new m ≡ noted_entry env m
  exits : (m : ℕ) → m < nodes_most → m ≢ n → noted_exit new m ≡ noted_exit env m

beside_same : (n : ℕ) (env : List ℕ) → Beside n env env
beside_same n env = record { long = refl; names = λ x l. refl; rows = λ j l. refl; entries = λ m l f. refl; exits = λ m l f. refl }

beside-noted : (n v w : ℕ) (env : List ℕ) → n < nodes_most → Beside n env (noted env n v w)
beside-noted n v w env b =
    record {
      long = noted-length env n v w;
      names = λ x l. noted_other env n v w x (λ q. omega arith) (λ q. omega arith);
      rows = λ j l. noted_other env n v w (hidden_place j) (λ q. omega arith) (λ q. omega arith);
      entries = λ m l f. noted_other env n v w (entry_note m) (λ q. f (omega arith)) (λ q. omega arith);
      exits = λ m l f. noted_other env n v w (exit_note m) (λ q. omega arith) (λ q. f (omega arith));
    }

module _ (img : List ℕ) where
  abbrev N : ℕ
  N = nodes img

  -- u is a later table than t: what was there is there still, and lookup gives the same at the scopes below k, all of t's but the newest
  record Later (k : ℕ) (t u : Table) : Type 0 where
    scopes : t.scopes ≤ u.scopes
    symbols : t.symbols ≤ u.symbols
    most : t.scopes ≤ suc k
    rows : SameRows N t.symbols u.words t.words
    parents : (s : ℕ) → s < t.scopes → parent_at N u.words s ≡ parent_at N t.words s
    lookups : (s x : ℕ) → s < k → found img u s x ≡ found img t s x

  mark-later : (n a b : ℕ) (t : Table) → n < N → Later t.scopes t (mark img n a b t)
  unfolding mark
  mark-later n a b t l =
      record {
        scopes = omega arith;
        symbols = omega arith;
        most = omega arith;
        rows = mark-same img n a b t l;
        parents = λ s h. mark-parent img n a b t l s;
        lookups = λ s x h. mark-found img n a b t l s x;
      }

  scope-later : (p : ℕ) (t : Table) → Kept img t → t.scopes < N → Later t.scopes t (new_scope img p t)
  unfolding new_scope
  scope-later p t d l =
      record {
        scopes = omega arith;
        symbols = omega arith;
        most = omega arith;
        rows = record { scopes = λ j h. scope-rows img p t l j; nodes = λ j h. scope-word img p t (node_place N j) (omega arith) };
        parents = child-parent-other img p t d l;
        lookups = λ s x h. found-agree img t.scopes (new_scope img p t) t s x h (λ r b. (held-scope img p t l r, child-parent-other img p t d l r b));
      }

  symbol-later : (s n : ℕ) (t : Table) → Kept img t → t.symbols < N → t.scopes ≤ N → suc s ≡ t.scopes → Later s t (new_symbol img s n t)
  unfolding new_symbol
  symbol-later s n t d l m q =
      record {
        scopes = omega arith;
        symbols = omega arith;
        most = omega arith;
        rows = symbol-same img s n t l;
        parents = λ r h. name-parent img s n t d l r (omega arith);
        lookups = λ r x h. found-agree img s (new_symbol img s n t) t r x h (λ i b. ((λ y. name-held-other img s n t d l i y (λ e. omega arith)), name-parent img s n t d l i (omega arith)));
      }

  -- what words tell moves along
  told_same : {y : ℕ} {ws vs : List ℕ} → SameRows N y ws vs → (w : ℕ) → w ≤ y → told img ws w ≡ told img vs w
  unfolding told
  told_same r zero l = refl
  told_same r (suc j) l = ap₂ (λ (n a : ℕ). some (record { node = n; scope = a })) (r.nodes j l) (r.scopes j l)

  tells-on : {k w v : ℕ} {t u : Table} {o p : Option Found} → Later k t u → v ≡ w → p ≡ o → Tells img t w o → Tells img u v p
  tells-on {w = w} {u = u} l e q h =
      record {
        row = (let a = l.symbols in let b = h.row in omega arith);
        is = ap (told img u.words) e ∙ told_same l.rows w h.row ∙ h.is ∙ sym q;
      }

  notes-on : {k s r w v x : ℕ} {t u : Table} → Later k t u → r ≡ s → v ≡ w → (0 < s → s < k) → Notes img t s w x → Notes img u r v x
  notes-on {s = s} {r} {x = x} {u = u} l p q b h =
      record {
        live = λ z. (let a = h.live (omega arith) in let c = l.scopes in omega arith);
        tells = λ z. let c : 0 < s = omega arith in tells-on l q (ap (λ i. found img u i x) p ∙ l.lookups s x (b c)) (h.tells c);
      }

  hides-on : {k j : ℕ} {t u : Table} {env new : List ℕ} → Later k t u → Kept img t → j < t.symbols → hidden new j ≡ hidden env j → Hides img t env j → Hides img u new j
  hides-on {k} {j} {t} {u} {env} {new} l d b q h =
      let s = scope_of N t.words j in
      let z = d.under j b in
      let y = h.lower in
      let m = l.most in
      let p = parent_at N t.words s in
      let c = l.rows.scopes j b in
      let f = ap (parent_at N u.words) c ∙ l.parents s z in
      let g = ap (name_of img) (l.rows.nodes j b) in
      record {
        lower = omega arith;
        name = (let a = h.name in omega arith);
        tells = tells-on l q (ap (λ i. found img u i (name_of img (node_at N u.words j))) f ∙ ap (found img u p) g ∙ l.lookups p (name_of img (node_at N t.words j)) (omega arith)) h.tells;
      }

  -- a node's mark, with what is noted for it
  module _ (n a b : ℕ) {t : Table} {env new : List ℕ} (l : n < N) (beside : Beside n env new)
      (first : (x : ℕ) → asked img n ≡ some x → Notes img t a (noted_entry new n) x) (last : (x : ℕ) → asked img n ≡ some x → Notes img t b (noted_exit new n) x) where
    mark-says : Says img t env → Says img (mark img n a b t) new
    unfolding mark
    mark-says s =
        let z = s.sized in
        let later = mark-later n a b t l in
        record {
          long = beside.long ∙ s.long;
          sized = s.sized;
          kept = mark-kept img n a b t l s.kept;
          scopes = s.scopes;
          symbols = s.symbols;
          hides = λ j h p.
              let y = s.symbols in
              hides-on later s.kept h (beside.rows j (omega arith)) (s.hides j h (let q = later.rows.scopes j h in omega arith));
          entries = λ m x h.
              at-or (λ i. asked img i ≡ some x → Notes img (mark img n a b t) (entry_at img (mark img n a b t).words i) (noted_entry new i) x) n m
              (λ q. let i = first x q in notes-on later (mark-entry-same img n a b t l s.kept) refl i.live i)
              (λ f q. let i = s.entries m x h q in notes-on later (mark-entry img n a b t l m h f) (beside.entries m (omega arith) f) i.live i);
          exits = λ m x h.
              at-or (λ i. asked img i ≡ some x → Notes img (mark img n a b t) (exit_at img (mark img n a b t).words i) (noted_exit new i) x) n m
              (λ q. let i = last x q in notes-on later (mark-exit-same img n a b t l s.kept) refl i.live i)
              (λ f q. let i = s.exits m x h q in notes-on later (mark-exit img n a b t l m h f) (beside.exits m (omega arith) f) i.live i);
        }

    mark-stands : {s : ℕ} → Stands img (record { scope = s; table = t }) env → Stands img (record { scope = s; table = mark img n a b t }) new
    unfolding mark
    mark-stands {s} h =
        record {
          says = mark-says h.says;
          live = h.live;
          here = λ x z. tells-on (mark-later n a b t l) (beside.names x z) (mark-found img n a b t l s x) (h.here x z);
        }

  -- what stands, by other words for the walk and the environment
  moved : {g h : Walked} {new env : List ℕ} → g ≡ h → new ≡ env → Stands img h env → Stands img g new
  moved {g} {env = env} p q s = subst (λ i. Stands img g i) (sym q) (subst (λ i. Stands img i env) (sym p) s)

  -- a name asked for is asked for at another node than one where none is
  not-quiet : {n m x : ℕ} → asked img n ≡ none → asked img m ≡ some x → m ≢ n
  not-quiet {n} {m} {x} q e p = let f = ap (asked img) p in let z : ◌≡◌ {A = ℕ} 0 1 = cc in omega arith

  quiet-stands : {n s : ℕ} (a b : ℕ) {t : Table} {env : List ℕ} → n < N → asked img n ≡ none → Stands img (record { scope = s; table = t }) env → Stands img (record { scope = s; table = mark img n a b t }) env
  quiet-stands {n} a b {env = env} l q h =
      mark-stands n a b l (beside_same n env) (λ x e. absurd (not-quiet q e refl)) (λ x e. absurd (not-quiet q e refl)) h

  -- a node left, at which no name is asked for
  pub left : {n : ℕ} (cur : ℕ) {e g : Walked} {env new : List ℕ} → n < nodes img → asked img n ≡ none → g ≡ marked img n cur e → new ≡ env → Stands img e env → Stands img g new
  unfolding marked
  left cur {e} l q w v s = moved w v (quiet-stands cur e.scope l q s)

  pub left-bare : {n : ℕ} {e g : Walked} {env new : List ℕ} → n < nodes img → asked img n ≡ none → g ≡ unmarked img n e → new ≡ env → Stands img e env → Stands img g new
  unfolding unmarked
  left-bare l q w v s = moved w v (quiet-stands all_ones all_ones l q s)

  pub opens-left : {n : ℕ} (cur : ℕ) {e g : Walked} {env new : List ℕ} → n < nodes img → asked img n ≡ none → g ≡ marked img n cur e → new ≡ env → Opens img e env → Opens img g new
  unfolding marked mark
  opens-left {n} cur {e} {g} {env} l q w v o =
      let t = e.table in
      let b = e.scope in
      subst (λ i. Opens img g i) (sym v)
      (subst (λ i. Opens img i env) (sym w)
      (record {
        stands = quiet-stands cur b l q o.stands;
        newest = o.newest;
        lower = λ z. let p = mark-parent img n cur b t l b in let y = o.lower z in omega arith;
        entries = λ m x h f z. let p = mark-entry img n cur b t l m h (not-quiet q f) in let y = o.entries m x h f (omega arith) in omega arith;
        exits = λ m x h f z. let p = mark-exit img n cur b t l m h (not-quiet q f) in let y = o.exits m x h f (omega arith) in omega arith;
      }))

  -- a node left, at which the name x is asked for
  pub left-asked : {n x v entry : ℕ} {e g : Walked} {env new : List ℕ} → g ≡ marked img n entry e → new ≡ noted env n v (standing env x) → Asking img n x v entry e env → Stands img g new
  unfolding marked
  left-asked {n} {x} {v} {entry} {e} {g} {env} {new} p r a =
      let z = a.stands.says.sized in
      let y = a.node in
      let w = standing env x in
      let size = a.stands.says.long in
      moved p r
      (mark-stands n entry e.scope a.node (beside-noted n v w env (omega arith))
      (λ i q. own entry v i (noted-entry env n v w size (omega arith)) a.live a.tells q)
      (λ i q. own e.scope w i (noted-exit env n v w size (omega arith)) a.stands.live (a.stands.here x a.below) q)
      a.stands)
    where
      own : (s w i : ℕ) {r : ℕ} → r ≡ w → s < e.table.scopes → Tells img e.table w (found img e.table s x) → asked img n ≡ some i → Notes img e.table s r i
      own s w i {r} p l h q =
          let f : x ≡ i = (let g = a.is in cc) in
          record { live = λ z. l; tells = λ z. subst (λ o. Tells img e.table o (found img e.table s i)) (sym p) (subst (λ o. Tells img e.table w (found img e.table s o)) f h) }

  -- a new scope
  pub opens-child : {e : Walked} {env : List ℕ} → e.table.scopes < nodes img → Stands img e env → Opens img (child_scope img e) env
  unfolding child_scope new_scope
  opens-child {e} {env} l h =
      let t = e.table in
      let p = e.scope in
      let s = h.says in
      let d = s.kept in
      let later = scope-later p t d l in
      let parent = child-parent img p t d l in
      record {
        stands =
            record {
              says =
                  record {
                    long = s.long;
                    sized = s.sized;
                    kept = scope_kept img p t l d;
                    scopes = omega arith;
                    symbols = s.symbols;
                    hides = λ j b z. hides-on later d b refl (s.hides j b (let q = later.rows.scopes j b in omega arith));
                    entries = λ m x b q. let i = s.entries m x b q in notes-on later (child-entry img p t d l m b) refl i.live i;
                    exits = λ m x b q. let i = s.exits m x b q in notes-on later (child-exit img p t d l m b) refl i.live i;
                  };
              live = omega arith;
              here = λ x b.
                  tells-on later refl
                  (found-child img (new_scope img p t) t.scopes p x parent h.live ∙ ap (λ o. or_else o (found img (new_scope img p t) p x)) (child-held img p t d l x) ∙ later.lookups p x h.live)
                  (h.here x b);
            };
        newest = omega arith;
        lower = λ z. let y = h.live in omega arith;
        entries = λ m x b q z. let f = child-entry img p t d l m b in let y = (s.entries m x b q).live (omega arith) in omega arith;
        exits = λ m x b q z. let f = child-exit img p t d l m b in let y = (s.exits m x b q).live (omega arith) in omega arith;
      }

  -- one symbol more in the newest scope, which has none of that name
  module _ (n x : ℕ) (e : Walked) (env : List ℕ) (o : Opens img e env) (name : Named img n x) (free : held img e.table e.scope x ≡ none) (room : e.table.symbols < N) where
    abbrev s : ℕ
    s = e.scope

    abbrev t : Table
    t = e.table

    abbrev u : Table
    u = new_symbol img s n t

    abbrev row : ℕ
    row = t.symbols

    abbrev new : List ℕ
    new = bound env x row

    says : Says img t env
    says = o.stands.says

    long : table_length N ≤ length t.words
    long = says.kept.rising.long

    later : Later s t u
    later = symbol-later s n t says.kept room says.scopes o.newest

    row-few : row < nodes_most
    row-few = let z = says.sized in let y = room in omega arith

    parent-same : parent_at N u.words s ≡ parent_at N t.words s
    parent-same = later.parents s o.stands.live

    -- the name finds the new row, each other name what it found
    held-own : held img u s x ≡ some (record { node = n; scope = s })
    unfolding own
    held-own = name-held img s n t says.kept room x ∙ rw (free, eq-eqb _ _ (sym name.is), own)

    held-other : (y : ℕ) → y ≢ x → held img u s y ≡ held img t s y
    unfolding own
    held-other y f = name-held img s n t says.kept room y ∙ rw (ne_eqb _ _ (λ q. f (sym q ∙ sym name.is)), own) (or_else-none (held img t s y))

    own-here : Tells img u (row + 1) (found img u s x)
    unfolding new_symbol found held told
    own-here =
        record {
          row = omega arith;
          is = ap (told img u.words) (add-one row) ∙ ap some (symbol-new img s n t room long) ∙ sym (climb-hit img u.words u.symbols s x (record { node = n; scope = s }) held-own);
        }

    other-here : (y : ℕ) → y ≢ x → found img u s y ≡ found img t s y
    other-here y f = ⊎_elim (λ z. at-root z) (λ z. at-child z) (eq-or-lt_of_le (let z : 0 ≤ s = omega arith in z))
      where
        at-root : 0 ≡ s → found img u s y ≡ found img t s y
        at-root z = found-root img u s y (omega arith) ∙ held-other y f ∙ sym (found-root img t s y (omega arith))

        at-child : 0 < s → found img u s y ≡ found img t s y
        at-child z =
            let p = parent_at N t.words s in
            found-child img u s p y parent-same (o.lower z)
            ∙ ap (λ i. or_else i (found img u p y)) (held-other y f)
            ∙ ap (or_else (held img t s y)) (later.lookups p y (o.lower z))
            ∙ sym (found-child img t s p y refl (o.lower z))

    -- what the new row hides: the name's word before, which tells what lookup gives above the scope
    own-hides : 0 < s → Hides img u new row
    own-hides z =
        let p = parent_at N t.words s in
        let at = symbol-scope img s n t room long in
        let above = ap (parent_at N u.words) at ∙ parent-same in
        let named = ap (name_of img) (symbol-node img s n t room long) ∙ sym name.is in
        let lower = o.lower z in
        record {
          lower = omega arith;
          name = (let b = name.below in omega arith);
          tells =
              tells-on later (bound-hidden env x row says.long name.below row-few)
              (ap (λ i. found img u i (name_of img (node_at N u.words row))) above
              ∙ ap (found img u p) named
              ∙ later.lookups p x lower
              ∙ sym (found-child img t s p x refl lower ∙ ap (λ i. or_else i (found img t p x)) free))
              (o.stands.here x name.below);
        }

    -- the notes stay: none is of the newest scope
    notes-stay : (i : ℕ) → 3072 ≤ i → get_or new i 0 ≡ get_or env i 0
    notes-stay i l = let b = name.below in let c = row-few in bound-other env x row i (λ q. omega arith) (λ q. omega arith)

    old-hides : (j : ℕ) → j ≢ row → j < u.symbols → 0 < scope_of N u.words j → Hides img u new j
    unfolding new_symbol
    old-hides j f l z =
        let b : j < row = omega (arith, f) in
        let c = row-few in
        let d = name.below in
        hides-on later says.kept b (bound-other env x row (hidden_place j) (λ q. omega arith) (λ q. omega arith)) (says.hides j b (let q = later.rows.scopes j b in omega arith))

    symbol-says : Says img u new
    unfolding new_symbol
    symbol-says =
        record {
          long = bound-length env x row ∙ says.long;
          sized = says.sized;
          kept = symbol-kept img s n t room o.newest says.kept;
          scopes = says.scopes;
          symbols = omega arith;
          hides = λ j. at-or (λ i. i < u.symbols → 0 < scope_of N u.words i → Hides img u new i) row j (λ b z. own-hides (let q = symbol-scope img s n t room long in omega arith)) (old-hides j);
          entries = λ m y l q. notes-on later (name-entry img s n t says.kept room m l) (notes-stay (entry_note m) (omega arith)) (o.entries m y l q) (says.entries m y l q);
          exits = λ m y l q. notes-on later (name-exit img s n t says.kept room m l) (notes-stay (exit_note m) (omega arith)) (o.exits m y l q) (says.exits m y l q);
        }

    pub opens-symbol : Opens img (own_symbol img n e) (bound env x e.table.symbols)
    unfolding own_symbol new_symbol
    opens-symbol =
        let same = parent-same in
        record {
          stands =
              record {
                says = symbol-says;
                live = o.stands.live;
                here = λ y l.
                    at-or (λ i. Tells img u (standing new i) (found img u s i)) x y
                    (subst (λ w. Tells img u w (found img u s x)) (sym (bound-name env x row says.long name.below)) own-here)
                    (λ f. tells-on later (bound-other env x row y f (λ q. omega arith)) (other-here y f) (o.stands.here y l));
              };
          newest = o.newest;
          lower = λ z. let a = o.lower z in omega arith;
          entries = λ m y l q z. let f = name-entry img s n t says.kept room m l in let a = o.entries m y l q (omega arith) in omega arith;
          exits = λ m y l q z. let f = name-exit img s n t says.kept room m l in let a = o.exits m y l q (omega arith) in omega arith;
        }

  pub entered : {n x : ℕ} {e g : Walked} {env new : List ℕ} → g ≡ own_symbol img n e → new ≡ bound env x e.table.symbols → Opens img e env → Named img n x → find img e.table e.scope x ≡ none → e.table.symbols < nodes img → Opens img g new
  unfolding find
  entered {n} {x} {e} {g} {env} p q o name free room =
      subst (λ i. Opens img g i) (sym q) (subst (λ i. Opens img i (bound env x e.table.symbols)) (sym p) (opens-symbol n x e env o name (node-none _ free) room))

  -- a new scope with one symbol
  pub introduced : {n x : ℕ} {e g : Walked} {env new : List ℕ} → g ≡ introduce img n e → new ≡ bound env x e.table.symbols → Stands img e env → Named img n x → e.table.scopes < nodes img → e.table.symbols < nodes img → Stands img g new
  unfolding introduce child_scope new_scope
  introduced {n} {x} {e} {env = env} p q h name l room =
      moved p q (opens-symbol n x (child_scope img e) env (opens-child l h) name (child-held img e.scope e.table h.says.kept l x) room).stands

  -- the start of the module: its scope, and no symbol
  pub opens-module : (ws env : List ℕ) → nodes img ≤ nodes_most → 0 < nodes img → table_length (nodes img) ≤ length ws → ((i : ℕ) → i < table_length (nodes img) → get_or ws i 0 ≡ 0) → env ≡ replicate environment_length 0
      → Opens img (record { scope = 0; table = new_scope img all_ones (record { words = ws; scopes = 0; symbols = 0 }) }) env
  unfolding new_scope told
  opens-module ws env sized some-node long blank fresh =
      record {
        stands =
            record {
              says =
                  record {
                    long = ap length fresh ∙ length-replicate {A = ℕ} environment_length 0;
                    sized = sized;
                    kept = kept;
                    scopes = omega arith;
                    symbols = omega arith;
                    hides = λ j l z. absurd (omega arith);
                    entries = λ m x l q. let f = entry m l in record { live = λ z. absurd (omega arith); tells = λ z. absurd (omega arith) };
                    exits = λ m x l q. let f = exit m l in record { live = λ z. absurd (omega arith); tells = λ z. absurd (omega arith) };
                  };
              live = omega arith;
              here = λ x l. subst (λ w. Tells img start w (found img start 0 x)) (sym (ap (λ i. get_or i x 0) fresh ∙ get_or-replicate environment_length x 0 0 (omega arith))) (nothing x);
            };
        newest = omega arith;
        lower = λ z. absurd (omega arith);
        entries = λ m x l q z. let f = entry m l in omega arith;
        exits = λ m x l q z. let f = exit m l in omega arith;
      }
    where
      bare : Table
      bare = record { words = ws; scopes = 0; symbols = 0 }

      start : Table
      start = new_scope img all_ones bare

      empty : Kept img bare
      empty = record { rising = record { within = omega arith; long = long; rises = λ i j a b. absurd (omega arith) }; under = λ j b. absurd (omega arith) }

      kept : Kept img start
      kept = scope_kept img all_ones bare some-node empty

      entry : (m : ℕ) → m < N → entry_at img start.words m ≡ 0
      entry m l = child-entry img all_ones bare empty some-node m l ∙ blank (entry_place N m) (omega arith)

      exit : (m : ℕ) → m < N → exit_at img start.words m ≡ 0
      exit m l = child-exit img all_ones bare empty some-node m l ∙ blank (exit_place N m) (omega arith)

      nothing : (x : ℕ) → Tells img start 0 (found img start 0 x)
      nothing x = record { row = omega arith; is = sym (found-root img start 0 x (omega arith) ∙ child-held img all_ones bare empty some-node x) }

  -- after the module, back in its scope
  pub noted_of : {e : Walked} {env : List ℕ} → e.scope ≡ 0 → Stands img e env → Noted img e.table env
  noted_of {e} {env} q s =
      record {
        sized = s.says.sized;
        outer = λ x l. subst (λ i. Tells img e.table (standing env x) (found img e.table i x)) q (s.here x l);
        entries = λ n x l f. (s.says.entries n x l f).tells;
        exits = λ n x l f. (s.says.exits n x l f).tells;
      }

  -- what a later table keeps of an earlier one
  pub record Older (t u : Table) : Type 0 where
    pub scopes : t.scopes ≤ u.scopes
    pub symbols : t.symbols ≤ u.symbols
    pub rows : (w : ℕ) → w ≤ t.symbols → told img u.words w ≡ told img t.words w
    pub lookups : (s x : ℕ) → s < t.scopes → found img u s x ≡ found img t s x

  pub tells-later : {t u : Table} {w s : ℕ} (x : ℕ) → Older t u → s < t.scopes → Tells img t w (found img t s x) → Tells img u w (found img u s x)
  tells-later {w = w} {s} x o l h = record { row = (let a = o.symbols in let b = h.row in omega arith); is = o.rows w h.row ∙ h.is ∙ sym (o.lookups s x l) }
