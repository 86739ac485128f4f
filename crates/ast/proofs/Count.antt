-- The tree of the last node of an accepted image holds every node exactly once.
use mathlib.Core.Bool.{Bool, true, false}
use mathlib.Core.Path.{◌≡◌, refl, sym, ap, ◌∙◌}
use mathlib.Core.Logic.{◌≢◌}
use mathlib.Core.List.{List, [], ◌∷◌, ◌++◌}
use Prim.Native.Nat.{ℕ, zero, suc, ◌+◌, ◌*◌, ◌<◌, ◌≤◌}
use native.Mathlib.Nat.{zero-add}
use native.Mathlib.Omega.{arith}
use native.Mathlib.Decide.{dec_lt}
use lib.Dec.{T, eqb, eqb→eq, eqb_refl}
use lib.ListN.{length, length-append}
use Rattle.ast.specs.Image.{nodes, last}
use Rattle.ast.specs.Kinds.{Class}
use Rattle.ast.specs.Rows.{Kid, one, many, numbers, kids, kids_to}
use Rattle.ast.specs.Tests.{is, times, test_parents, test_tree, verdict}
use Rattle.ast.specs.Tree.{Tree, node, block, Trees, none, ◌◂◌, swap, swaps, ordered, grow_all, grow, class_at, tree_at, size, sizes}
use Rattle.ast.proofs.Accepted.{both, needed, ran, passed, sized, formed}
use Rattle.ast.proofs.Formed.{Formed}
use Rattle.ast.proofs.Unfold.{All, nil, cons, All-append, All-map, kids-below, tree_at-is}

-- the node numbers of a tree
unfoldable mutual
  pub nodes_of : Tree → List ℕ
  nodes_of (node n k c sh ts) = n ∷ nodes_all ts
  nodes_of (block ts) = nodes_all ts

  pub nodes_all : Trees → List ℕ
  nodes_all none = []
  nodes_all (t ◂ ts) = nodes_of t ++ nodes_all ts

-- as many as the tree has
mutual
  unfolding size nodes_of

  size-nodes : (u : Tree) → size u ≡ length (nodes_of u)
  size-nodes (node n k c sh ts) = ap suc (sizes-nodes ts)
  size-nodes (block ts) = sizes-nodes ts

  sizes-nodes : (us : Trees) → sizes us ≡ length (nodes_all us)
  sizes-nodes none = refl
  sizes-nodes (t ◂ ts) = let a = size-nodes t in let b = sizes-nodes ts in let c = length-append (nodes_of t) (nodes_all ts) in omega arith

-- sums over a list, and over the numbers below m
unfoldable pub sum_of : (ℕ → ℕ) → List ℕ → ℕ
sum_of w [] = 0
sum_of w (c ∷ cs) = w c + sum_of w cs

unfoldable pub sum_to : (ℕ → ℕ) → ℕ → ℕ
sum_to w zero = 0
sum_to w (suc m) = sum_to w m + w m

pub is_same : (v : ℕ) → is v v ≡ 1
unfolding is
is_same v = go (eqb v v) (eqb_refl v)
  where
    go : (b : Bool) → T b → ◌≡◌ {A = ℕ} (elim b [ true ↦ 1 | false ↦ 0 ]) 1
    go true t = refl
    go false t = absurd t

pub is-other : (v c : ℕ) → v ≢ c → is v c ≡ 0
unfolding is
is-other v c h = go (eqb v c) (λ t. h (eqb→eq v c t))
  where
    go : (b : Bool) → (T b → ⊥) → ◌≡◌ {A = ℕ} (elim b [ true ↦ 1 | false ↦ 0 ]) 0
    go true t = absurd (t tt)
    go false t = refl

pub sum_of-append : (w : ℕ → ℕ) (cs ds : List ℕ) → sum_of w (cs ++ ds) ≡ sum_of w cs + sum_of w ds
unfolding sum_of
sum_of-append w [] ds = omega arith
sum_of-append w (c ∷ cs) ds = let h = sum_of-append w cs ds in omega arith

module _ (w : ℕ → ℕ) where
  sum_to-none : (m : ℕ) → ((v : ℕ) → v < m → w v ≡ 0) → sum_to w m ≡ 0
  unfolding sum_to
  sum_to-none zero h = refl
  sum_to-none (suc m) h = let r = sum_to-none m (λ v l. h v (omega arith)) in let z = h m (omega arith) in omega arith

  -- all but one are 0
  sum_to-pick : (c m : ℕ) → c < m → ((v : ℕ) → v ≢ c → w v ≡ 0) → sum_to w m ≡ w c
  unfolding sum_to
  sum_to-pick c zero l h = absurd (omega arith)
  sum_to-pick c (suc m) l h = go (dec_lt c m) (λ k. sum_to-pick c m k h)
    where
      go : Dec (c < m) → (c < m → sum_to w m ≡ w c) → sum_to w m + w m ≡ w c
      go (yes k) r = let e = r k in let z = h m (omega arith) in omega arith
      go (no k) r =
          let q : c ≡ m = omega arith in
          let z = sum_to-none m (λ v i. h v (omega arith)) in
          rw q (omega arith)

  sum_of-swap : (ts : Trees) → sum_of w (nodes_all (swap ts)) ≡ sum_of w (nodes_all ts)
  unfolding swap nodes_all
  sum_of-swap none = refl
  sum_of-swap (t ◂ none) = refl
  sum_of-swap (t ◂ (u ◂ us)) = simp sum_of-append (omega arith)

  sum_of-ordered : (c : Class) (ts : Trees) → sum_of w (nodes_all (ordered c ts)) ≡ sum_of w (nodes_all ts)
  unfolding ordered
  sum_of-ordered c ts = go (swaps c)
    where
      go : (b : Bool) → sum_of w (nodes_all (elim b [ true ↦ swap ts | false ↦ ts ])) ≡ sum_of w (nodes_all ts)
      go true = sum_of-swap ts
      go false = refl

  module _ (f : ℕ → Tree) where
    sum_of-grow_all : (cs : List ℕ) → sum_of w (nodes_all (grow_all f cs)) ≡ sum_of (λ c. sum_of w (nodes_of (f c))) cs
    unfolding grow_all nodes_all sum_of
    sum_of-grow_all [] = refl
    sum_of-grow_all (c ∷ cs) = let h = sum_of-grow_all cs in let a = sum_of-append w (nodes_of (f c)) (nodes_all (grow_all f cs)) in omega arith

    sum_of-grow : (ks : List Kid) → sum_of w (nodes_all (grow f ks)) ≡ sum_of (λ c. sum_of w (nodes_of (f c))) (numbers ks)
    unfolding grow nodes_all numbers sum_of
    sum_of-grow [] = refl
    sum_of-grow (one c ∷ ks) = let h = sum_of-grow ks in let a = sum_of-append w (nodes_of (f c)) (nodes_all (grow f ks)) in omega arith
    sum_of-grow (many cs ∷ ks) =
        let h = sum_of-grow ks in
        let i = sum_of-grow_all cs in
        let a = sum_of-append w (nodes_all (grow_all f cs)) (nodes_all (grow f ks)) in
        let b = sum_of-append (λ c. sum_of w (nodes_of (f c))) cs (numbers ks) in
        omega arith

module _ (f g : ℕ → ℕ) where
  pub sum_to-add : (m : ℕ) → sum_to (λ v. f v + g v) m ≡ sum_to f m + sum_to g m
  unfolding sum_to
  sum_to-add zero = refl
  sum_to-add (suc m) = let h = sum_to-add m in omega arith

  sum_to-same : (m : ℕ) → ((v : ℕ) → v < m → f v ≡ g v) → sum_to f m ≡ sum_to g m
  unfolding sum_to
  sum_to-same zero h = refl
  sum_to-same (suc m) h = let r = sum_to-same m (λ v l. h v (omega arith)) in let z = h m (omega arith) in omega arith

pub times-sum : (v : ℕ) (cs : List ℕ) → times v cs ≡ sum_of (is v) cs
unfolding times sum_of
times-sum v [] = refl
times-sum v (c ∷ cs) = ap (λ x. is v c + x) (times-sum v cs)

pub times-append : (v : ℕ) (cs ds : List ℕ) → times v (cs ++ ds) ≡ times v cs + times v ds
times-append v cs ds = simp times-sum (sum_of-append (is v) cs ds)

pub length-sum : (cs : List ℕ) → length cs ≡ sum_of (λ c. 1) cs
unfolding sum_of
length-sum [] = refl
length-sum (c ∷ cs) = let h = length-sum cs in omega arith

pub sum_to-ones : (m : ℕ) → sum_to (λ c. 1) m ≡ m
unfolding sum_to
sum_to-ones zero = refl
sum_to-ones (suc m) = let h = sum_to-ones m in omega arith

-- a sum over a list of numbers below m, by how often each stands there
sum_of-times : (g : ℕ → ℕ) (m : ℕ) {cs : List ℕ} → All (λ v. v < m) cs → sum_of g cs ≡ sum_to (λ v. times v cs * g v) m
unfolding sum_of times
sum_of-times g m nil = sym (sum_to-none _ m (λ v l. omega arith))
sum_of-times g m (cons {c} {cs} l r) =
    let h = sum_of-times g m r in
    let p : sum_to (λ v. is v c * g v) m ≡ g c = sum_to-pick _ c m l (λ v k. rw (is-other v c k) (omega arith)) ∙ rw (is_same c) (omega arith) in
    let s : sum_to (λ v. (is v c + times v cs) * g v) m ≡ sum_to (λ v. is v c * g v + times v cs * g v) m = sum_to-same _ _ m (λ v l. omega arith) in
    let t = sum_to-add (λ v. is v c * g v) (λ v. times v cs * g v) m in
    omega arith

-- the numbers below m, once each
sum_of-once : (g : ℕ → ℕ) (m : ℕ) {cs : List ℕ} → All (λ v. v < m) cs → ((v : ℕ) → v < m → times v cs ≡ 1) → sum_of g cs ≡ sum_to g m
sum_of-once g m a h = sum_of-times g m a ∙ sum_to-same _ _ m (λ v l. rw (h v l) (omega arith))

module _ (img : List ℕ) (f : Formed img) where
  kids_to-below : (l m : ℕ) → m ≤ nodes img → m ≤ suc l → All (λ v. v < l) (kids_to img m)
  unfolding kids_to
  kids_to-below l zero h k = nil
  kids_to-below l (suc m) h k =
      All-append (kids_to-below l m (omega arith) (omega arith)) (All-map (λ v i. omega arith) (kids-below img m (f.each m (omega arith))))

  module _ (w : ℕ → ℕ) where
    -- the weight of a node's tree
    abbrev weight : ℕ → ℕ
    weight n = sum_of w (nodes_of (tree_at img n))

    weight_is : (n : ℕ) → n < nodes img → weight n ≡ w n + sum_of weight (numbers (kids img n))
    unfolding nodes_of sum_of
    weight_is n h = ap (λ t. sum_of w (nodes_of t)) (tree_at-is img f n h)
        ∙ ap (λ x. w n + x) (sum_of-ordered w (class_at img n) (grow (tree_at img) (kids img n)) ∙ sum_of-grow w (tree_at img) (kids img n))

    -- every tree's own node, and its children's trees
    weights : (m : ℕ) → m ≤ nodes img → sum_to weight m ≡ sum_to w m + sum_of weight (kids_to img m)
    unfolding sum_to kids_to sum_of
    weights zero h = refl
    weights (suc m) h =
        let r = weights m (omega arith) in
        let e = weight_is m (omega arith) in
        let a = sum_of-append weight (kids_to img m) (numbers (kids img m)) in
        omega arith

  module _ (once : (v : ℕ) → v < last img → times v (kids_to img (nodes img)) ≡ 1) (some : nodes img ≡ suc (last img)) where
    -- over the tree of the last node, any weight sums up as over all nodes
    weight-last : (w : ℕ → ℕ) → sum_of w (nodes_of (tree_at img (last img))) ≡ sum_to w (nodes img)
    unfolding sum_to
    weight-last w =
        let a = weights w (nodes img) (omega arith) in
        let b = sum_of-once (weight w) (last img) (kids_to-below (last img) (nodes img) (omega arith) (omega arith)) once in
        let c : sum_to (weight w) (nodes img) ≡ sum_to (weight w) (last img) + weight w (last img) = ap (sum_to (weight w)) some in
        omega arith

module _ (img : List ℕ) (e : verdict img ≡ 0) where
  some-node : nodes img ≡ suc (last img)
  unfolding last
  some-node = let s = (sized img e).some in omega arith

  -- every node but the last is a child in exactly one place
  pub parents : (v : ℕ) → v < last img → times v (kids_to img (nodes img)) ≡ 1
  unfolding test_tree test_parents
  parents v l =
      let a = both _ _ (passed img e).tree in
      let b = both _ _ a.1 in
      let c = both _ _ b.1 in
      eqb→eq _ _ (needed 10 _ (rw zero-add at (ran _ (last img) 0 c.0 v l)))

  pub whole : (w : ℕ → ℕ) → sum_of w (nodes_of (tree_at img (last img))) ≡ sum_to w (nodes img)
  whole w = weight-last img (formed img e) parents some-node w

  -- the tree of the last node has each node exactly once, and nothing else
  pub once : (v : ℕ) → v < nodes img → times v (nodes_of (tree_at img (last img))) ≡ 1
  once v l = times-sum v _ ∙ whole (is v) ∙ sum_to-pick (is v) v (nodes img) l (λ c h. is-other v c (λ q. h (sym q))) ∙ is_same v

  pub nothing-else : (v : ℕ) → nodes img ≤ v → times v (nodes_of (tree_at img (last img))) ≡ 0
  nothing-else v l = times-sum v _ ∙ whole (is v) ∙ sum_to-none (is v) (nodes img) (λ c h. is-other v c (omega arith))

  pub tree-size : size (tree_at img (last img)) ≡ nodes img
  tree-size = size-nodes _ ∙ length-sum _ ∙ whole (λ c. 1) ∙ sum_to-ones (nodes img)
