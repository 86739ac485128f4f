-- What the steps of a walk do to lookups, and to the entries and exits of nodes.
use mathlib.Core.Path.{◌≡◌, refl, sym, ◌∙◌, ap, ap₂}
use mathlib.Core.Logic.{◌≢◌}
use mathlib.Core.Bool.{Bool}
use mathlib.Core.List.{List, [], ◌∷◌}
use mathlib.Core.Option.{Option, none, some}
use Prim.Native.Nat.{ℕ, suc, ◌+◌, ◌≤◌, ◌<◌}
use native.Mathlib.Nat.{zero-add}
use native.Mathlib.Numerals.{add-one}
use native.Mathlib.Omega.{arith}
use lib.ListN.{set, length-set}
use lib.Seq.{get_or-set_same, get_or-set_other}
use borrow.Author.Tests.{lt-ltb, le-ltb}
use Rattle.ast.specs.Declarations.{or_else, earliest}
use Rattle.ast.specs.Image.{nodes, name_of}
use Rattle.ast.proofs.Declarations.{or_else-none}
use Rattle.table.specs.Layout.{entry_place, exit_place, parent_place}
use Rattle.table.specs.Rising.{parent_at}
use Rattle.table.specs.State.{Walked, introduce}
use Rattle.table.specs.Table.{Table, Found, found_node, mark, new_scope, new_symbol, row_is, find_from, held, found, find, climb, lookup, entry_at, exit_at}
use Rattle.table.proofs.Finds.{row_out, hit, find-snoc, climb-fuel, node-or_else}
use Rattle.table.proofs.Frames.{mark-word, scope-word, symbol-word, find-same, held_none, held-mark, held-scope, symbol-same, symbol-scope, own, own-node, held-symbol, find-symbol}
use Rattle.table.specs.Kept.{Kept}
use Rattle.table.proofs.Kept.{scope_kept, symbol-kept}
use Rattle.table.proofs.Agreed.{through, above, Agree, found-agree}

above_lower : (o : Option Found) (p s : ℕ) (u : Option Found) → p < s → above o p s u ≡ or_else o u
above_lower (some f) p s u l = refl
above_lower none p s u l = ap (λ (b : Bool). through b u) (lt-ltb p s l)

above_root : (o : Option Found) (p s : ℕ) (u : Option Found) → s ≤ p → above o p s u ≡ o
above_root (some f) p s u l = refl
above_root none p s u l = ap (λ (b : Bool). through b u) (le-ltb p s l)

module _ (img : List ℕ) where
  abbrev N : ℕ
  N = nodes img

  -- at a scope: its own symbols, then its parent's meaning
  pub found-child : (t : Table) (k s x : ℕ) → parent_at N t.words k ≡ s → s < k → found img t k x ≡ or_else (held img t k x) (found img t s x)
  unfolding found climb held
  found-child t k s x e l =
      ap (λ p. above (held img t k x) p k (climb img k t.words t.symbols p x)) e
      ∙ above_lower (held img t k x) s k (climb img k t.words t.symbols s x) l
      ∙ ap (or_else (held img t k x)) (climb-fuel img t.words k (suc s) t.symbols s x l (omega arith))

  pub lookup-child : (t : Table) (k s x : ℕ) → parent_at N t.words k ≡ s → s < k → lookup img t k x ≡ or_else (find img t k x) (lookup img t s x)
  unfolding lookup find
  lookup-child t k s x e l = ap found_node (found-child t k s x e l) ∙ node-or_else (held img t k x) (found img t s x)

  -- at a scope without a parent
  pub found-root : (t : Table) (k x : ℕ) → k ≤ parent_at N t.words k → found img t k x ≡ held img t k x
  unfolding found climb held
  found-root t k x l =
      above_root (held img t k x) (parent_at N t.words k) k (climb img k t.words t.symbols (parent_at N t.words k) x) l

  pub lookup-root : (t : Table) (k x : ℕ) → k ≤ parent_at N t.words k → lookup img t k x ≡ find img t k x
  unfolding lookup find
  lookup-root t k x l = ap found_node (found-root t k x l)

  -- a node's mark
  module _ (n e x : ℕ) (t : Table) (l : n < N) where
    pub mark-parent : (r : ℕ) → parent_at N (mark img n e x t).words r ≡ parent_at N t.words r
    mark-parent r = mark-word img n e x t (parent_place N r) (omega arith) (omega arith)

    pub mark-found : (s y : ℕ) → found img (mark img n e x t) s y ≡ found img t s y
    mark-found s y = found-agree img (suc s) (mark img n e x t) t s y (omega arith) (λ r h. (held-mark img n e x t l r, mark-parent r))

    pub mark-lookup : (s y : ℕ) → lookup img (mark img n e x t) s y ≡ lookup img t s y
    unfolding lookup
    mark-lookup s y = ap found_node (mark-found s y)

    pub mark-exit : (m : ℕ) → m < N → m ≢ n → exit_at img (mark img n e x t).words m ≡ exit_at img t.words m
    mark-exit m h f = mark-word img n e x t (exit_place N m) (omega arith) (λ q. f (omega arith))

    pub mark-entry : (m : ℕ) → m < N → m ≢ n → entry_at img (mark img n e x t).words m ≡ entry_at img t.words m
    mark-entry m h f = mark-word img n e x t (entry_place N m) (λ q. f (omega arith)) (omega arith)

    pub mark-entry-same : Kept img t → entry_at img (mark img n e x t).words n ≡ e
    unfolding mark
    mark-entry-same s =
        let z = s.rising.long in
        get_or-set_other (set t.words (entry_place N n) e) (exit_place N n) (entry_place N n) x 0 (omega arith)
        ∙ get_or-set_same t.words (entry_place N n) e 0 (omega arith)

    pub mark-exit-same : Kept img t → exit_at img (mark img n e x t).words n ≡ x
    unfolding mark
    mark-exit-same s =
        let z = s.rising.long in
        get_or-set_same (set t.words (entry_place N n) e) (exit_place N n) x 0 (rw length-set (omega arith))

  -- a scope more
  module _ (p : ℕ) (t : Table) (sane : Kept img t) (K<N : t.scopes < N) where
    pub child-parent : parent_at N (new_scope img p t).words t.scopes ≡ p
    unfolding new_scope
    child-parent = let z = sane.rising.long in get_or-set_same t.words (parent_place N t.scopes) p 0 (omega arith)

    pub child-parent-other : (r : ℕ) → r < t.scopes → parent_at N (new_scope img p t).words r ≡ parent_at N t.words r
    child-parent-other r h = scope-word img p t (parent_place N r) (omega arith)

    pub child-held : (x : ℕ) → held img (new_scope img p t) t.scopes x ≡ none
    child-held x =
        held-scope img p t K<N t.scopes x ∙ held_none img t t.scopes x (λ i h q. let w = sane.under i h in omega arith)

    pub child-empty : (x : ℕ) → find img (new_scope img p t) t.scopes x ≡ none
    unfolding find
    child-empty x = ap found_node (child-held x)

    pub child-exit : (m : ℕ) → m < N → exit_at img (new_scope img p t).words m ≡ exit_at img t.words m
    child-exit m h = scope-word img p t (exit_place N m) (omega arith)

    pub child-entry : (m : ℕ) → m < N → entry_at img (new_scope img p t).words m ≡ entry_at img t.words m
    child-entry m h = scope-word img p t (entry_place N m) (omega arith)

  -- a symbol more
  module _ (s n : ℕ) (t : Table) (sane : Kept img t) (Y<N : t.symbols < N) where
    abbrev named : List ℕ
    named = (new_symbol img s n t).words

    -- the new row counts in no other scope
    pub name-held-other : (r x : ℕ) → r ≢ s → held img (new_symbol img s n t) r x ≡ held img t r x
    unfolding new_symbol held hit
    name-held-other r x f =
        let y = t.symbols in
        ap (λ c. find_from img c named 0 r x) (add-one y)
        ∙ find-snoc img named y 0 r x
        ∙ ap (λ i. or_else (find_from img y named 0 r x) (hit img named (row_is img named i r x) i)) (zero-add y)
        ∙ ap (λ b. or_else (find_from img y named 0 r x) (hit img named b y)) (row_out img named y r x (λ q. f (sym q ∙ symbol-scope img s n t Y<N sane.rising.long)))
        ∙ or_else-none (find_from img y named 0 r x)
        ∙ find-same img (symbol-same img s n t Y<N) r x

    pub name-held : (x : ℕ) → held img (new_symbol img s n t) s x ≡ or_else (held img t s x) (own img s n x)
    name-held x = held-symbol img s n t Y<N sane.rising.long x

    pub name-find : (x : ℕ) → find img (new_symbol img s n t) s x ≡ or_else (find img t s x) (earliest (name_of img) (n ∷ []) x)
    name-find x = find-symbol img s n t Y<N sane.rising.long x

    pub name-parent : (r : ℕ) → r < N → parent_at N named r ≡ parent_at N t.words r
    name-parent r h = symbol-word img s n t (parent_place N r) (omega arith) (omega arith)

    pub name-exit : (m : ℕ) → m < N → exit_at img named m ≡ exit_at img t.words m
    name-exit m h = symbol-word img s n t (exit_place N m) (omega arith) (omega arith)

    pub name-entry : (m : ℕ) → m < N → entry_at img named m ≡ entry_at img t.words m
    name-entry m h = symbol-word img s n t (entry_place N m) (omega arith) (omega arith)

  -- a new scope, below the one that the walk stands in, with one symbol
  module _ (n : ℕ) (e : Walked) (sane : Kept img e.table) (inside : e.scope < e.table.scopes) (K<N : e.table.scopes < N) (Y<N : e.table.symbols < N) where
    abbrev K : ℕ
    K = e.table.scopes

    -- with the scope, and with the symbol too
    abbrev t₁ : Table
    t₁ = new_scope img e.scope e.table

    abbrev t₂ : Table
    t₂ = new_symbol img K n t₁

    sane₁ : Kept img t₁
    sane₁ = scope_kept img e.scope e.table K<N sane

    old-agree : Agree img K t₂ e.table
    unfolding new_scope
    old-agree s h = (
      (λ x. name-held-other K n t₁ sane₁ Y<N s x (omega arith) ∙ held-scope img e.scope e.table K<N s x),
      name-parent K n t₁ sane₁ Y<N s (omega arith) ∙ child-parent-other e.scope e.table sane K<N s h,
    )

    pub new-found-old : (s x : ℕ) → s < K → found img (introduce img n e).table s x ≡ found img e.table s x
    unfolding introduce
    new-found-old s x h = found-agree img K t₂ e.table s x h old-agree

    pub new-lookup-old : (s x : ℕ) → s < K → lookup img (introduce img n e).table s x ≡ lookup img e.table s x
    unfolding lookup
    new-lookup-old s x h = ap found_node (new-found-old s x h)

    new-held : (x : ℕ) → held img t₂ K x ≡ own img K n x
    unfolding new_scope
    new-held x =
        name-held K n t₁ sane₁ Y<N x ∙ ap (λ o. or_else o (own img K n x)) (child-held e.scope e.table sane K<N x)

    new-parent : parent_at N t₂.words K ≡ e.scope
    unfolding new_scope
    new-parent = name-parent K n t₁ sane₁ Y<N K K<N ∙ child-parent e.scope e.table sane K<N

    pub new-lookup : (x : ℕ) → lookup img (introduce img n e).table K x ≡ or_else (earliest (name_of img) (n ∷ []) x) (lookup img e.table e.scope x)
    unfolding introduce lookup
    new-lookup x =
        ap found_node
        (found-child t₂ K e.scope x new-parent inside
        ∙ ap₂ or_else (new-held x) (found-agree img K t₂ e.table e.scope x inside old-agree))
        ∙ node-or_else (own img K n x) (found img e.table e.scope x)
        ∙ ap (λ o. or_else o (lookup img e.table e.scope x)) (own-node img K n x)

    pub new-exit : (m : ℕ) → m < N → exit_at img (introduce img n e).table.words m ≡ exit_at img e.table.words m
    unfolding introduce
    new-exit m h = name-exit K n t₁ sane₁ Y<N m h ∙ child-exit e.scope e.table sane K<N m h

    pub new-entry : (m : ℕ) → m < N → entry_at img (introduce img n e).table.words m ≡ entry_at img e.table.words m
    unfolding introduce
    new-entry m h = name-entry K n t₁ sane₁ Y<N m h ∙ child-entry e.scope e.table sane K<N m h

    pub new-kept : Kept img (introduce img n e).table
    unfolding introduce
    new-kept = symbol-kept img K n t₁ Y<N (let z : suc K ≡ K + 1 = omega arith in z) sane₁
