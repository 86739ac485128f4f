-- Induction over the tree of an accepted image, by the kinds of its nodes.
use mathlib.Core.Path.{◌≡◌, sym, subst}
use mathlib.Core.Bool.{Bool, true, false, ◌||◌, not}
use mathlib.Core.List.{List, [], ◌∷◌}
use Prim.Native.Nat.{ℕ, zero, suc, ◌<◌, ◌≤◌}
use native.Mathlib.Omega.{arith}
use lib.Dec.{T, eqb}
use Rattle.ast.specs.Image.{nodes, kind_at}
use Rattle.ast.specs.Kinds.{Class, outer, inner, root, decl, signature, rule, enum, model, plain, term, ident, head, head_member, member, case, if_var, defined_then, arg, kinds, kind_of}
use Rattle.ast.specs.Rows.{Kid, one, many, numbers, kids, shape}
use Rattle.ast.specs.Tests.{verdict}
use Rattle.ast.specs.Tree.{Tree, node, block, Trees, none, ◌◂◌, swap, swaps, ordered, grow_all, grow, class_at, tree_at}
use Rattle.ast.proofs.Accepted.{formed}
use Rattle.ast.proofs.Kids.{child_kind, kids-admitted, every-pair}
use Rattle.ast.proofs.Unfold.{All, nil, cons, All-split, All-map, tree_at-is}
use Rattle.ast.proofs.Vars.{check_all, every-kind, Each}
use Rattle.ast.proofs.Bools.{not-or}

-- the one kind of each class but plain, signature and those above rules
abbrev pub kind_for : Class → ℕ → Bool
kind_for (outer root) k = true
kind_for (outer decl) k = true
kind_for (outer signature) k = true
kind_for (outer rule) k = eqb k 6
kind_for (outer enum) k = true
kind_for (outer model) k = true
kind_for (inner plain) k = true
kind_for (inner term) k = eqb k 12
kind_for (inner ident) k = eqb k 13
kind_for (inner head) k = eqb k 15
kind_for (inner head_member) k = eqb k 16
kind_for (inner member) k = eqb k 17
kind_for (inner case) k = eqb k 35
kind_for (inner if_var) k = eqb k 33
kind_for (inner defined_then) k = eqb k 34
kind_for (inner arg) k = eqb k 10

pub kinds-for : (k : ℕ) → k ≤ 40 → T (kind_for (kind_of k).class k)
unfolding kinds
kinds-for k l = every-kind (λ x xd. kind_for xd.class x) tt k l

-- each of some trees
module _ (P : Tree → Type 0) where
  pub each_map : (Q : Tree → Type 0) → ((u : Tree) → P u → Q u) → (ts : Trees) → Each P ts → Each Q ts
  unfolding Each
  each_map Q f none h = tt
  each_map Q f (u ◂ us) h = (f u h.0, each_map Q f us h.1)

  each-swap : (ts : Trees) → Each P ts → Each P (swap ts)
  unfolding swap Each
  each-swap none h = h
  each-swap (u ◂ none) h = h
  each-swap (u ◂ (v ◂ us)) h = (h.1.0, (h.0, h.1.1))

  each-ordered : (c : Class) (ts : Trees) → Each P ts → Each P (ordered c ts)
  unfolding ordered
  each-ordered c ts h = go (swaps c)
    where
      go : (b : Bool) → Each P (elim b [ true ↦ swap ts | false ↦ ts ])
      go true = each-swap ts h
      go false = h

  module _ (blocks : (ts : Trees) → Each P ts → P (block ts)) (f : ℕ → Tree) where
    each-grow_all : {cs : List ℕ} → All (λ c. P (f c)) cs → Each P (grow_all f cs)
    unfolding grow_all Each
    each-grow_all nil = tt
    each-grow_all (cons h r) = (h, each-grow_all r)

    pub each-grow : (ks : List Kid) → All (λ c. P (f c)) (numbers ks) → Each P (grow f ks)
    unfolding grow numbers Each
    each-grow [] h = tt
    each-grow (one c ∷ ks) (cons h r) = (h, each-grow ks r)
    each-grow (many cs ∷ ks) h = let s = All-split cs h in (blocks _ (each-grow_all s.0), each-grow ks s.1)

-- the children of a node, in scope order
abbrev pub kids_at : List ℕ → ℕ → Trees
kids_at img n = ordered (class_at img n) (grow (tree_at img) (kids img n))

module _ (img : List ℕ) (accepted : verdict img ≡ 0) where
  pub low-kind : (n : ℕ) → n < nodes img → kind_at img n ≤ 40
  low-kind n l = ((formed img accepted).each n l).kind

  -- the kind of a node whose class has one
  pub class-kind : (n : ℕ) → n < nodes img → T (kind_for (class_at img n) (kind_at img n))
  unfolding class_at
  class-kind n l = kinds-for (kind_at img n) (low-kind n l)

  module _ (P : Tree → Type 0) (blocks : (ts : Trees) → Each P ts → P (block ts)) where
    -- what holds of each smaller node of a kind that may stand below n holds of each child of n
    pub each-kid : (n : ℕ) → n < nodes img → ((c : ℕ) → c < n → T (child_kind (kind_of (kind_at img n)).fields (kind_at img c)) → P (tree_at img c)) → Each P (kids_at img n)
    each-kid n l f =
        each-ordered P (class_at img n) (grow (tree_at img) (kids img n))
        (each-grow P blocks (tree_at img) (kids img n) (All-map (λ c a. f c a.0 a.1) (kids-admitted img n ((formed img accepted).each n l))))

    -- kinds whose children are of these kinds again: what goes from the children of such a node to the node holds at each
    pub by-kinds : (q : ℕ → Bool) → T (check_all (λ k kd. check_all (λ c cd. not (q k) || (not (child_kind kd.fields c) || q c)) kinds) kinds)
        → ((n : ℕ) → n < nodes img → T (q (kind_at img n)) → Each P (kids_at img n) → P (node n (kind_at img n) (class_at img n) (shape img n) (kids_at img n)))
        → (n : ℕ) → n < nodes img → T (q (kind_at img n)) → P (tree_at img n)
    by-kinds q closed step n l h = go (suc n) n (omega arith) l h
      where
        go : (m n : ℕ) → n < m → n < nodes img → T (q (kind_at img n)) → P (tree_at img n)
        go zero n b l h = absurd (omega arith)
        go (suc m) n b l h =
            subst P (sym (tree_at-is img (formed img accepted) n l))
            (step n l h
            (each-kid n l
            (λ c s a. let i : c < nodes img = omega arith in
            go m c (omega arith) i
            (not-or (child_kind (kind_of (kind_at img n)).fields (kind_at img c)) (q (kind_at img c)) a
            (not-or (q (kind_at img n)) (not (child_kind (kind_of (kind_at img n)).fields (kind_at img c)) || q (kind_at img c)) h
            (every-pair (λ k kd x. not (q k) || (not (child_kind kd.fields x) || q x)) closed (kind_at img n) (kind_at img c) (low-kind n l) (low-kind c i)))))))
