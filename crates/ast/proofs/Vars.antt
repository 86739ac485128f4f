-- What refusal 12 leaves: an if-var's term and a defined-then's variable are of case Ident or Wildcard.
use mathlib.Core.Bool.{Bool, true, false, not, ◌&&◌, ◌||◌}
use mathlib.Core.Path.{◌≡◌, refl, sym, ap, ◌∙◌, subst}
use mathlib.Core.List.{List, [], ◌∷◌, ◌++◌}
use Prim.Native.Nat.{ℕ, zero, suc, ◌+◌, ◌<◌, ◌≤◌}
use native.Mathlib.Nat.{zero-add}
use native.Mathlib.Omega.{arith}
use lib.Dec.{T, eqb, eqb→eq, leb→le}
use lib.ListN.{length, get_or}
use Rattle.ast.specs.Image.{nodes, kind_at, start_at, op_at, last}
use Rattle.ast.specs.Kinds.{Class, inner, term, ident, no_child, Kind, kinds, kind_of}
use Rattle.ast.specs.Rows.{Kid, one, many, numbers, kids, field_kids, fields_kids, field_shape, fields_shape, after}
use Rattle.ast.specs.Tests.{first, is_var, test_var, test_tree, verdict}
use Rattle.ast.specs.Tree.{Tree, node, block, Trees, none, ◌◂◌, swap, swaps, ordered, grow_all, grow, class_at, tree_at}
use Rattle.ast.proofs.Accepted.{both, needed, ran, passed, formed, last-below}
use Rattle.ast.proofs.Formed.{Child, Formed, FormedField, FormedFields}
use Rattle.ast.proofs.Shapes.{term_kinds}
use Rattle.ast.proofs.Unfold.{All, nil, cons, All-split, All-map, kids-below, tree_at-is, tree_of, row_of}

-- a term of case Ident, with its IdentTerm, or of case Wildcard
pub data PlainVar : Tree → Type 0 where
  named : (n i : ℕ) → PlainVar (node n 12 (inner term) (0 ∷ []) (node i 13 (inner ident) [] none ◂ none))
  wildcard : (n : ℕ) → PlainVar (node n 12 (inner term) (1 ∷ []) none)

module _ (img : List ℕ) (f : Formed img) where
  ident_tree : (i : ℕ) → i < nodes img → kind_at img i ≡ 13 → tree_at img i ≡ node i 13 (inner ident) [] none
  unfolding kind_of fields_shape field_shape fields_kids field_kids ordered grow
  ident_tree i h e = tree_of img f i h 13 e

  module _ (c : ℕ) (h : c < nodes img) (e : kind_at img c ≡ 12) where
    term_tree : (w : ℕ) → first img c ≡ w → tree_at img c ≡ node c 12 (inner term) (w ∷ [])
        (grow (tree_at img) (elim (eqb (get_or term_kinds w no_child) no_child) [ true ↦ [] | false ↦ one (op_at img (start_at img c + 2 + 1)) ∷ [] ] ++ []))
    unfolding kind_of fields_shape field_shape fields_kids field_kids ordered first
    term_tree w q = subst (λ x. tree_at img c ≡ node c 12 (inner term) (x ∷ [])
        (grow (tree_at img) (elim (eqb (get_or term_kinds x no_child) no_child) [ true ↦ [] | false ↦ one (op_at img (start_at img c + 2 + 1)) ∷ [] ] ++ [])))
        q (tree_of img f c h 12 e)

    term_child : (w : ℕ) → first img c ≡ w → elim (eqb (get_or term_kinds w no_child) no_child) as (λ b. Type 0) [
      | true ↦ Unit {0}
      | false ↦ Child img c (get_or term_kinds w no_child) (op_at img (start_at img c + 2 + 1))
    ]
    unfolding kind_of FormedFields FormedField first
    term_child w q = subst (λ x. elim (eqb (get_or term_kinds x no_child) no_child) as (λ b. Type 0) [
      | true ↦ Unit {0}
      | false ↦ Child img c (get_or term_kinds x no_child) (op_at img (start_at img c + 2 + 1))
    ])
        q (row_of img f c h 12 e).1.1

    plain_var : first img c ≤ 1 → PlainVar (tree_at img c)
    unfolding grow
    plain_var l = go (first img c) refl l
      where
        go : (w : ℕ) → first img c ≡ w → w ≤ 1 → PlainVar (tree_at img c)
        go zero q k =
            let i = term_child 0 q in
            rw (term_tree 0 q ∙ ap (λ t. node c 12 (inner term) (0 ∷ []) (t ◂ none)) (ident_tree _ (omega arith) i.1)) (named c _)
        go (suc zero) q k = rw (term_tree 1 q) (wildcard c)
        go (suc (suc w)) q k = absurd (omega arith)

-- a Boolean fact of every kind, computed over the 41
abbrev pub check_all : (ℕ → Kind → Bool) → List Kind → Bool
check_all g [] = true
check_all g (kd ∷ kds) = g 0 kd && check_all (λ i. g (suc i)) kds

pub and_both : (a b : Bool) → T (a && b) → T a × T b
and_both true b t = (tt, t)
and_both false b t = absurd t

check-at : (g : ℕ → Kind → Bool) (kds : List Kind) (j : ℕ) (d : Kind) → T (check_all g kds) → j < length kds → T (g j (get_or kds j d))
check-at g [] j d t l = absurd (omega arith)
check-at g (kd ∷ kds) zero d t l = (and_both (g 0 kd) _ t).0
check-at g (kd ∷ kds) (suc j) d t l = check-at (λ i. g (suc i)) kds j d (and_both (g 0 kd) _ t).1 (omega arith)

pub every-kind : (g : ℕ → Kind → Bool) → T (check_all g kinds) → (k : ℕ) → k ≤ 40 → T (g k (kind_of k))
unfolding kind_of
every-kind g t k l = check-at g kinds k _ t (omega arith)

module _ (P : Tree → Type 0) where
  -- every tree of a list
  unfoldable pub Each : Trees → Type 0
  Each none = Unit {0}
  Each (t ◂ ts) = P t × Each ts

  unfoldable pub AfterFirst : Trees → Type 0
  AfterFirst none = Unit {0}
  AfterFirst (t ◂ ts) = Each ts

  -- every node of a tree
  unfoldable mutual
    pub Everywhere : Tree → Type 0
    Everywhere (node n k c sh ts) = P (node n k c sh ts) × EverywhereAll ts
    Everywhere (block ts) = EverywhereAll ts

    pub EverywhereAll : Trees → Type 0
    EverywhereAll none = Unit {0}
    EverywhereAll (t ◂ ts) = Everywhere t × EverywhereAll ts

  EverywhereAll-swap : (ts : Trees) → EverywhereAll ts → EverywhereAll (swap ts)
  unfolding EverywhereAll swap
  EverywhereAll-swap none h = tt
  EverywhereAll-swap (t ◂ none) h = h
  EverywhereAll-swap (t ◂ (u ◂ us)) h = (h.1.0, (h.0, h.1.1))

  EverywhereAll-ordered : (c : Class) (ts : Trees) → EverywhereAll ts → EverywhereAll (ordered c ts)
  unfolding ordered
  EverywhereAll-ordered c ts h = go (swaps c)
    where
      go : (b : Bool) → EverywhereAll (elim b [ true ↦ swap ts | false ↦ ts ])
      go true = EverywhereAll-swap ts h
      go false = h

  EverywhereAll-grow_all : (f : ℕ → Tree) {cs : List ℕ} → All (λ c. Everywhere (f c)) cs → EverywhereAll (grow_all f cs)
  unfolding grow_all EverywhereAll
  EverywhereAll-grow_all f nil = tt
  EverywhereAll-grow_all f (cons h r) = (h, EverywhereAll-grow_all f r)

  EverywhereAll-grow : (f : ℕ → Tree) (ks : List Kid) → All (λ c. Everywhere (f c)) (numbers ks) → EverywhereAll (grow f ks)
  unfolding grow numbers EverywhereAll
  EverywhereAll-grow f [] h = tt
  EverywhereAll-grow f (one c ∷ ks) (cons h r) = (h, EverywhereAll-grow f ks r)
  EverywhereAll-grow f (many cs ∷ ks) h = let r = All-split cs h in (EverywhereAll-grow_all f r.0, EverywhereAll-grow f ks r.1)

  -- what holds at the tree of each node holds everywhere in each tree
  pub everywhere : (img : List ℕ) → Formed img → ((n : ℕ) → n < nodes img → P (tree_at img n)) → (n : ℕ) → n < nodes img → Everywhere (tree_at img n)
  unfolding Everywhere
  everywhere img f at n h = go (suc n) n (omega arith) h
    where
      go : (m n : ℕ) → n < m → n < nodes img → Everywhere (tree_at img n)
      go zero n l h = absurd (omega arith)
      go (suc m) n l h =
          subst Everywhere (sym (tree_at-is img f n h)) (
            subst P (tree_at-is img f n h) (at n h),
            EverywhereAll-ordered _ _ (EverywhereAll-grow (tree_at img) (kids img n)
                (All-map (λ c b. go m c (omega arith) (omega arith)) (kids-below img n (f.each n h)))),
          )

-- what stands after the first child of an if-var or a defined-then is a plain variable
unfoldable pub PlainAt : Tree → Type 0
PlainAt (node n k c sh ts) = elim (swaps c) [ true ↦ AfterFirst PlainVar ts | false ↦ Unit {0} ]
PlainAt (block ts) = Unit {0}

free-plain : (b : Bool) (ts : Trees) → T (not b) → elim b as (λ x. Type 0) [ true ↦ AfterFirst PlainVar ts | false ↦ Unit {0} ]
free-plain true ts t = absurd t
free-plain false ts t = tt

only : ℕ → Kind → Bool
only k kd = eqb k 33 || eqb k 34 || not (swaps kd.class)

only_two : (k : ℕ) → k ≤ 40 → T (only k (kind_of k))
unfolding only swaps kinds
only_two k l = every-kind only tt k l

module _ (img : List ℕ) (f : Formed img) where
  module _ (n : ℕ) (h : n < nodes img) where
    var-ok : (c : ℕ) → Child img n 12 c → is_var img c ≡ 0 → PlainVar (tree_at img c)
    unfolding is_var
    var-ok c i e = plain_var img f c (omega arith) i.1 (leb→le _ _ (needed 11 _ e))

    if_var-plain : kind_at img n ≡ 33 → is_var img (first img n) ≡ 0 → PlainAt (tree_at img n)
    unfolding kind_of fields_kids field_kids after ordered swap grow FormedFields FormedField first PlainAt swaps AfterFirst Each
    if_var-plain k e = subst PlainAt (sym (tree_of img f n h 33 k)) (var-ok _ (row_of img f n h 33 k).1 e, tt)

    option_plain : (w q : ℕ) → elim w as (λ x. Type 0) [ zero ↦ Unit {0} | suc c ↦ Child img n 12 c ]
        → ◌≡◌ {A = ℕ} (elim w [ zero ↦ 0 | suc c ↦ is_var img c ]) 0
        → AfterFirst PlainVar (swap (grow (tree_at img) (elim w [ zero ↦ [] | suc c ↦ one c ∷ [] ] ++ (one q ∷ []))))
    unfolding swap grow AfterFirst Each
    option_plain zero q i e = tt
    option_plain (suc c) q i e = (var-ok c i e, tt)

    defined_then-plain : kind_at img n ≡ 34 → ◌≡◌ {A = ℕ} (elim (first img n) [ zero ↦ 0 | suc c ↦ is_var img c ]) 0 → PlainAt (tree_at img n)
    unfolding kind_of fields_kids field_kids after ordered FormedFields FormedField first PlainAt swaps
    defined_then-plain k e =
        subst PlainAt (sym (tree_of img f n h 34 k)) (option_plain (op_at img (start_at img n + 2)) _ (row_of img f n h 34 k).1 e)

    plain_at : test_var img n ≡ 0 → PlainAt (tree_at img n)
    unfolding test_var only PlainAt class_at
    plain_at e = go (eqb (kind_at img n) 33) (eqb (kind_at img n) 34) (eqb→eq _ _) (eqb→eq _ _) e (only_two (kind_at img n) (f.each n h).kind)
      where
        go : (b c : Bool) → (T b → kind_at img n ≡ 33) → (T c → kind_at img n ≡ 34)
            → ◌≡◌ {A = ℕ} (elim b [
              | true ↦ is_var img (first img n)
              | false ↦ elim c [ true ↦ elim (first img n) [ zero ↦ 0 | suc m ↦ is_var img m ] | false ↦ 0 ]
            ]) 0
            → T (b || c || not (swaps (class_at img n))) → PlainAt (tree_at img n)
        go true c p q e t = if_var-plain (p tt) e
        go false true p q e t = defined_then-plain (q tt) e
        go false false p q e t = subst PlainAt (sym (tree_at-is img f n h)) (free-plain (swaps (class_at img n)) _ t)

-- the consequence of refusal 12, at each node and in the whole tree
module _ (img : List ℕ) (e : verdict img ≡ 0) where
  pub vars-at : (n : ℕ) → n < nodes img → PlainAt (tree_at img n)
  unfolding test_tree
  vars-at n h =
      let a = both _ _ (passed img e).tree in
      let b = both _ _ a.1 in
      let c = both _ _ b.1 in
      plain_at img (formed img e) n h (rw zero-add at (ran _ _ 0 c.1 n h))

  pub vars : Everywhere PlainAt (tree_at img (last img))
  vars = everywhere PlainAt img (formed img e) vars-at (last img) (last-below img e)
