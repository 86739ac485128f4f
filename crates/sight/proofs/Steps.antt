-- The walk of a rule body and its list of places take the same steps.
use mathlib.Core.Path.{◌≡◌, sym, subst}
use mathlib.Core.Logic.{◌⊎◌, inl, inr}
use mathlib.Core.List.{List, [], ◌∷◌, ◌++◌, append-nil}
use Prim.Native.Nat.{ℕ, zero, suc}
use Rattle.ast.specs.Image.{kind_at}
use Rattle.ast.specs.Kinds.{Class, outer, inner, plain, term, ident, head, head_member, member, case, if_var, defined_then, arg}
use Rattle.ast.specs.Tree.{Tree, node, block, Trees, none, ◌◂◌}
use Rattle.table.specs.Layout.{all_ones}
use Rattle.table.specs.State.{Walked, back}
use Rattle.table.specs.Table.{mark}
use Rattle.ordered.specs.Walk.{Role, occurs, declares, names, defines, walk_ident, walk, walk_seq, walk_first}
use Rattle.ordered.proofs.Moves.{numbers, numbers_seq}
use Rattle.sight.specs.Sight.{Sort, ordinary, declared, applied, defined, Met, add, opened, place, place_seq, place_then, place_first}

-- where the walk stands, and the places met so far
pub record State : Type 0 where
  pub now : Walked
  pub met : Met

-- the roles of the walk beside the sorts of places, but for the defined-then variable
pub data Simple : Type 0 where
  occur declare apply : Simple

abbrev pub role : Simple → Role
role occur = occurs
role declare = declares
role apply = names

abbrev pub sort : Simple → Sort
sort occur = ordinary
sort declare = declared
sort apply = applied

abbrev pub opening : State → State
opening st = record { now = st.now; met = opened st.met }

module _ (img : List ℕ) where
  -- the one child is an IdentTerm
  pub record IdentOnly (ts : Trees) : Type 0 where
    pub i : ℕ
    pub k : ℕ
    pub sh : List ℕ
    pub us : Trees
    pub only : ts ≡ node i k (inner ident) sh us ◂ none
    pub kind : kind_at img i ≡ 13

  -- a defined-then's variable: a Term of case Ident or Wildcard
  pub record VarTerm (u : Tree) : Type 0 where
    pub n : ℕ
    pub k : ℕ
    pub sh : List ℕ
    pub vs : Trees
    pub is : u ≡ node n k (inner term) sh vs
    pub kind : kind_at img n ≡ 12
    pub only : IdentOnly vs ⊎ (vs ≡ none)

  -- at most one
  unfoldable pub VarTerms : Trees → Type 0
  VarTerms none = Unit {0}
  VarTerms (u ◂ none) = VarTerm u
  VarTerms (u ◂ (v ◂ us)) = ⊥

  unfoldable pub Idents : Trees → Type 0
  Idents none = Unit {0}
  Idents (block ts ◂ us) = ⊥
  Idents (node n k c sh ts ◂ us) = (c ≡ inner ident) × Idents us

  -- the trees of rule bodies, as the kinds' fields and refusal 12 have them: IdentTerms stand under Terms, AppHeads and
  -- members, arguments nowhere
  unfoldable mutual
    unfolding Idents VarTerms

    pub Body : Tree → Type 0
    Body (block ts) = Bodies ts
    Body (node n k (outer c) sh ts) = ⊥
    Body (node n k (inner plain) sh ts) = Bodies ts
    Body (node n k (inner term) sh ts) = (kind_at img n ≡ 12) × (IdentOnly ts ⊎ Bodies ts)
    Body (node n k (inner ident) sh ts) = ⊥
    Body (node n k (inner head) [] ts) = ⊥
    Body (node n k (inner head) (zero ∷ sh) ts) = (kind_at img n ≡ 15) × IdentOnly ts
    Body (node n k (inner head) (suc c ∷ sh) ts) = Bodies ts
    Body (node n k (inner head_member) sh ts) = Members ts
    Body (node n k (inner member) sh ts) = Members ts
    Body (node n k (inner case) sh ts) = Bodies ts
    Body (node n k (inner if_var) sh ts) = Bodies ts
    Body (node n k (inner defined_then) sh ts) = Defines ts
    Body (node n k (inner arg) sh ts) = ⊥

    pub Bodies : Trees → Type 0
    Bodies none = Unit {0}
    Bodies (u ◂ us) = Body u × Bodies us

    -- a receiver, then member names
    pub Members : Trees → Type 0
    Members none = Unit {0}
    Members (u ◂ us) = Body u × Idents us

    -- a term, then at most one variable
    pub Defines : Trees → Type 0
    Defines none = Unit {0}
    Defines (u ◂ us) = Body u × VarTerms us

  abbrev pub marking : ℕ → ℕ → ℕ → State → State
  marking n e x st = record { now = record { scope = st.now.scope; table = mark img n e x st.now.table }; met = st.met }

  -- the IdentTerm i in its Term or AppHead n
  abbrev pub placing : List ℕ → Sort → Role → ℕ → ℕ → State → State
  placing b σ r n i st =
      let e = walk_ident img r i st.now in
      record {
        now = record { scope = e.scope; table = mark img n st.now.scope e.scope (mark img i st.now.scope e.scope e.table) };
        met = add σ n b i st.met;
      }

  abbrev pub closing : State → State → State
  closing st st' = record { now = back img st.now.scope st'.now; met = st'.met }

  -- steps below the blocks and cases b, with the nodes marked
  pub data Steps : List ℕ → List ℕ → State → State → Type 0 where
    stay : {b : List ℕ} {st : State} → Steps b [] st st
    next : {b ns ms : List ℕ} {st st' st'' : State} → Steps b ns st st' → Steps b ms st' st'' → Steps b (ns ++ ms) st st''
    marks : {b : List ℕ} {st : State} (n e x : ℕ) → Steps b (n ∷ []) st (marking n e x st)
    places : {b : List ℕ} {st : State} (c : Simple) (n i : ℕ) → kind_at img i ≡ 13 → Steps b (i ∷ n ∷ []) st (placing b (sort c) (role c) n i st)
    fixes : {b ns : List ℕ} {st st' : State} → Steps b ns st st' → (n i : ℕ) → kind_at img i ≡ 13
        → Steps b (ns ++ (i ∷ n ∷ [])) st (placing b (defined st.met.next) (defines st.now.scope) n i st')
    drops : {b ns : List ℕ} {st st' : State} → Steps (st.met.next ∷ b) ns (opening st) st' → Steps b ns st (closing st st')

  abbrev pub seq_state : Role → Sort → ℕ → List ℕ → Trees → State → State
  seq_state r σ o b ts st = record { now = walk_seq img r ts st.now; met = place_seq σ o b ts st.met }

  abbrev tree_state : Role → Sort → ℕ → List ℕ → Tree → State → State
  tree_state r σ o b u st = record { now = walk img r u st.now; met = place σ o b u st.met }

  abbrev then_state : Role → Sort → ℕ → List ℕ → Trees → State → State
  then_state r σ o b ts st = record { now = walk_first img r ts st.now; met = place_then σ o b ts st.met }

  abbrev member_state : ℕ → List ℕ → Trees → State → State
  member_state o b ts st = record { now = walk_first img names ts st.now; met = place_first o b ts st.met }

  abbrev name_state : Trees → State → State
  name_state us st = record { now = walk_seq img names us st.now; met = st.met }

  -- the steps of a node below its children's
  abbrev Owned : (c : Simple) (n : ℕ) (b : List ℕ) (st : State) → Trees → Type 0
  Owned c n b st ts =
      Steps b (numbers_seq ts ++ (n ∷ [])) st
      (marking n st.now.scope (walk_seq img (role c) ts st.now).scope (seq_state (role c) (sort c) n b ts st))

  -- a Term or AppHead with its IdentTerm
  ident_steps : (c : Simple) (n : ℕ) (b : List ℕ) (ts : Trees) (st : State) → IdentOnly ts → Owned c n b st ts
  unfolding numbers walk place
  ident_steps c n b ts st h = subst (Owned c n b st) (sym h.only) (places c n h.i h.kind)

  -- a Term: its IdentTerm, or what stands below it
  owner : (c : Simple) (n : ℕ) (b : List ℕ) (ts : Trees) (st : State) → IdentOnly ts ⊎ Bodies ts
      → (Bodies ts → Steps b (numbers_seq ts) st (seq_state (role c) (sort c) n b ts st)) → Owned c n b st ts
  owner c n b ts st (inl h) f = ident_steps c n b ts st h
  owner c n b ts st (inr h) f = next (f h) (marks n st.now.scope (walk_seq img (role c) ts st.now).scope)

  -- member names: marks alone
  member_names : (b : List ℕ) (us : Trees) → Idents us → (st : State) → Steps b (numbers_seq us) st (name_state us st)
  unfolding numbers walk Idents
  member_names b none h st = stay
  member_names b (block ts ◂ us) h st = absurd h
  member_names b (node n k c sh ts ◂ us) h st =
      subst (λ (d : Class). Steps b (numbers_seq (node n k d sh ts ◂ us)) st (name_state (node n k d sh ts ◂ us) st))
      (sym h.0) (next (marks n st.now.scope st.now.scope) (member_names b us h.1 (marking n st.now.scope st.now.scope st)))

  -- a defined-then's variable after its term
  abbrev var_state : ℕ → List ℕ → State → State → Trees → State
  var_state o b st st' us =
      record { now = walk_seq img (defines st.now.scope) us st'.now; met = place_seq (defined st.met.next) o b us st'.met }

  abbrev one_var : ℕ → List ℕ → State → State → Tree → State
  one_var o b st st' u =
      record { now = walk img (defines st.now.scope) u st'.now; met = place (defined st.met.next) o b u st'.met }

  define_var : (o : ℕ) (b : List ℕ) (u : Tree) → VarTerm u → (ns : List ℕ) (st st' : State) → Steps b ns st st' → Steps b (ns ++ numbers u) st (one_var o b st st' u)
  unfolding numbers walk place
  define_var o b u v ns st st' s = subst (λ (w : Tree). Steps b (ns ++ numbers w) st (one_var o b st st' w)) (sym v.is) (go v.only)
    where
      is : Trees → Tree
      is ws = node v.n v.k (inner term) v.sh ws

      go : IdentOnly v.vs ⊎ (v.vs ≡ none) → Steps b (ns ++ numbers (is v.vs)) st (one_var o b st st' (is v.vs))
      go (inl h) =
          subst (λ (ws : Trees). Steps b (ns ++ numbers (is ws)) st (one_var o b st st' (is ws))) (sym h.only) (fixes s v.n h.i h.kind)
      go (inr e) =
          subst (λ (ws : Trees). Steps b (ns ++ numbers (is ws)) st (one_var o b st st' (is ws))) (sym e)
          (next s (marks v.n st'.now.scope st'.now.scope))

  define_vars : (o : ℕ) (b : List ℕ) (us : Trees) → VarTerms us → (ns : List ℕ) (st st' : State) → Steps b ns st st'
      → Steps b (ns ++ numbers_seq us) st (var_state o b st st' us)
  unfolding numbers walk place VarTerms
  define_vars o b none v ns st st' s = next s stay
  define_vars o b (u ◂ none) v ns st st' s =
      subst (λ (ms : List ℕ). Steps b (ns ++ ms) st (one_var o b st st' u)) (sym (append-nil (numbers u))) (define_var o b u v ns st st' s)
  define_vars o b (u ◂ (w ◂ us)) v ns st st' s = absurd v

  mutual
    unfolding numbers walk place Body

    pub steps : (c : Simple) (o : ℕ) (b : List ℕ) (u : Tree) → Body u → (st : State) → Steps b (numbers u) st (tree_state (role c) (sort c) o b u st)
    steps c o b (block ts) h st = drops (steps_seq occur o (st.met.next ∷ b) ts h (opening st))
    steps c o b (node n k (outer d) sh ts) h st = absurd h
    steps c o b (node n k (inner plain) sh ts) h st =
        next (steps_seq occur n b ts h st) (marks n st.now.scope (walk_seq img occurs ts st.now).scope)
    steps c o b (node n k (inner term) sh ts) h st = owner c n b ts st h.1 (λ g. steps_seq c n b ts g st)
    steps c o b (node n k (inner ident) sh ts) h st = absurd h
    steps c o b (node n k (inner head) [] ts) h st = absurd h
    steps c o b (node n k (inner head) (zero ∷ sh) ts) h st = ident_steps apply n b ts st h.1
    steps c o b (node n k (inner head) (suc m ∷ sh) ts) h st =
        next (steps_seq occur n b ts h st) (marks n st.now.scope (walk_seq img occurs ts st.now).scope)
    steps c o b (node n k (inner head_member) sh ts) h st = next (steps_member n b ts h st) (marks n all_ones all_ones)
    steps c o b (node n k (inner member) sh ts) h st =
        next (steps_member n b ts h st) (marks n st.now.scope (walk_first img names ts st.now).scope)
    steps c o b (node n k (inner case) sh ts) h st =
        next (drops (steps_seq occur n (st.met.next ∷ b) ts h (opening st))) (marks n st.now.scope st.now.scope)
    steps c o b (node n k (inner if_var) sh ts) h st =
        next (steps_then declare n b ts h st) (marks n st.now.scope (walk_first img declares ts st.now).scope)
    steps c o b (node n k (inner defined_then) sh ts) h st =
        next (steps_define n b ts h st) (marks n st.now.scope (walk_first img (defines st.now.scope) ts st.now).scope)
    steps c o b (node n k (inner arg) sh ts) h st = absurd h

    pub steps_seq : (c : Simple) (o : ℕ) (b : List ℕ) (us : Trees) → Bodies us → (st : State) → Steps b (numbers_seq us) st (seq_state (role c) (sort c) o b us st)
    steps_seq c o b none h st = stay
    steps_seq c o b (u ◂ us) h st = next (steps c o b u h.0 st) (steps_seq c o b us h.1 (tree_state (role c) (sort c) o b u st))

    steps_then : (c : Simple) (o : ℕ) (b : List ℕ) (us : Trees) → Bodies us → (st : State) → Steps b (numbers_seq us) st (then_state (role c) (sort c) o b us st)
    steps_then c o b none h st = stay
    steps_then c o b (u ◂ us) h st = next (steps occur o b u h.0 st) (steps_seq c o b us h.1 (tree_state occurs ordinary o b u st))

    steps_member : (o : ℕ) (b : List ℕ) (us : Trees) → Members us → (st : State) → Steps b (numbers_seq us) st (member_state o b us st)
    steps_member o b none h st = stay
    steps_member o b (u ◂ us) h st = next (steps occur o b u h.0 st) (member_names b us h.1 (tree_state occurs ordinary o b u st))

    steps_define : (o : ℕ) (b : List ℕ) (us : Trees) → Defines us → (st : State)
        → Steps b (numbers_seq us) st (then_state (defines st.now.scope) (defined st.met.next) o b us st)
    steps_define o b none h st = stay
    steps_define o b (u ◂ us) h st = define_vars o b us h.1 (numbers u) st (tree_state occurs ordinary o b u st) (steps occur o b u h.0 st)
