-- What a walk over the tree of a node is, by the node's kind: for each form of row, the walks over its children.
use mathlib.Core.Path.{◌≡◌, refl, sym, ap, subst, ◌∙◌}
use mathlib.Core.Bool.{false}
use mathlib.Core.List.{List, [], ◌∷◌}
use Prim.Native.Nat.{ℕ, suc, ◌<◌}
use native.Mathlib.Omega.{arith}
use lib.Dec.{eqb}
use lib.ListN.{get_or}
use Rattle.ast.specs.Image.{field}
use Rattle.ast.specs.Items.{below}
use Rattle.ast.specs.Kinds.{Class, inner, plain, term, head, Field, child, cases, no_child, Kind, kind_of}
use Rattle.ast.specs.Tree.{Tree, Trees, none, ◌◂◌, ordered, tree_at}
use Rattle.ast.specs.Is.{Is, kind_by}
use Rattle.ast.specs.declared.NodeId.{NodeId}
use Rattle.typed.proofs.Enums.{Cased}
use Rattle.table.specs.State.{Walked, marked}
use Rattle.ast.proofs.Row.{Child, FormedFields, next, node_of}
use Rattle.ast.proofs.Shapes.{term_kinds, head_kinds, row, tree_of, child-is, case-kids, case-one, case-child}
use Rattle.ast.proofs.Small.{tree-small}
use Rattle.ordered.specs.Walk.{Role, occurs, names, walk_ident, head_role, walk, walk_seq}
use Rattle.ordered.specs.Promises.{over, inside, Room, Ready}
use Rattle.ordered.proofs.Grows.{Grows, few-below, stays, marked-grows, walk-grows}

pub room-below : {img : List ℕ} {e f : Walked} → Grows img e f → Room img f → Room img e
room-below g r =
    record {
      scopes = (let a = g.scopes in let b = r.scopes in omega arith);
      symbols = (let a = g.symbols in let b = r.symbols in omega arith);
      few = few-below g r.few;
    }

module _ (img : List ℕ) where
  -- what is known of the room at the end of n holds at the end of a part f of its walk
  pub room_in : {a f g : Walked} → a ≡ g → Grows img f g → Room img a → Room img f
  room_in w h r = room-below h (subst (Room img) w r)

  -- the part up to f of what is walked before n is left has room
  pub part_room : {kd : Kind} {n : ℕ} {e f g : Walked} → Ready img kd n e → over img n e ≡ marked img n e.scope g → Grows img f g → Room img f
  part_room {e = e} p w h = room_in w (marked-grows img p.is.below e.scope h) p.room

  pub tree-grows : (r : Role) (c : ℕ) (e : Walked) → Grows img e (walk img r (tree_at img c) e)
  tree-grows r c e = walk-grows img r (tree_at img c) (tree-small img c) e

  -- an ident term ------------------------------------------------------------------------------------------------
  pub ident-step : {n : ℕ} (r : Role) (e : Walked) → Is img (kind_of 13) n → walk img r (tree_at img n) e ≡ marked img n e.scope (walk_ident img r n e)
  unfolding walk node_of kind_of
  ident-step r e is = ap (λ (u : Tree). walk img r u e) (tree_of img is)

  pub name-step : {n : ℕ} (e : Walked) → Is img (kind_of 13) n → walk img names (tree_at img n) e ≡ marked img n e.scope e
  unfolding walk_ident
  name-step e is = ident-step names e is

  -- one child, two children, of a plain node ---------------------------------------------------------------------
  pub record One (k n c : ℕ) (e : Walked) : Type 0 where
    pub low : c < n
    pub first : Ready img (kind_of k) c e
    pub whole : over img n e ≡ marked img n e.scope (over img c e)

  one-whole : {k n : ℕ} (e : Walked) → Is img (kind_by (inner plain) (child k ∷ [])) n → over img n e ≡ marked img n e.scope (over img (field img n 0) e)
  unfolding walk node_of
  one-whole e is = ap (λ (u : Tree). walk img occurs u e) (tree_of img is)

  pub one : {k n c : ℕ} {e : Walked} → Ready img (kind_by (inner plain) (child k ∷ [])) n e → c ≡ field img n 0 → One k n c e
  unfolding FormedFields
  one {k} {n} {c} {e} p q =
      let h : Child img n k (field img n 0) = (row img p.is).0 in
      let w = one-whole e p.is in
      subst (λ (i : ℕ). One k n i e) (sym q)
      (record { low = h.below; first = record { is = child-is img p.is h; room = part_room p w (stays _) }; whole = w })

  pub record Two (k l n c d : ℕ) (e : Walked) : Type 0 where
    pub low : c < n
    pub low2 : d < n
    pub first : Ready img (kind_of k) c e
    pub second : Ready img (kind_of l) d (over img c e)
    pub whole : over img n e ≡ marked img n e.scope (over img d (over img c e))

  two-whole : {k l n : ℕ} (e : Walked) → Is img (kind_by (inner plain) (child k ∷ child l ∷ [])) n → over img n e ≡ marked img n e.scope (over img (field img n 1) (over img (field img n 0) e))
  unfolding walk node_of
  two-whole e is = ap (λ (u : Tree). walk img occurs u e) (tree_of img is)

  pub two : {k l n c d : ℕ} {e : Walked} → Ready img (kind_by (inner plain) (child k ∷ child l ∷ [])) n e → c ≡ field img n 0 → d ≡ field img n 1 → Two k l n c d e
  unfolding FormedFields next
  two {k} {l} {n} {c} {d} {e} p q r =
      let h : Child img n k (field img n 0) = (row img p.is).0 in
      let h2 : Child img n l (field img n 1) = (row img p.is).1.0 in
      let w = two-whole e p.is in
      subst (λ (i : ℕ). Two k l n i d e) (sym q) (subst (λ (i : ℕ). Two k l n (field img n 0) i e) (sym r)
      (record {
        low = h.below;
        low2 = h2.below;
        first = record { is = child-is img p.is h; room = part_room p w (tree-grows occurs _ _) };
        second = record { is = child-is img p.is h2; room = part_room p w (stays _) };
        whole = w;
      }))

  -- a member: a term, and a name that introduces nothing ----------------------------------------------------------
  pub record Member (n c d : ℕ) (e : Walked) : Type 0 where
    pub low : c < n
    pub first : Ready img (kind_of 12) c e
    pub second : Is img (kind_of 13) d
    pub whole : over img n e ≡ marked img n e.scope (marked img d (over img c e).scope (over img c e))

  member-whole : {n : ℕ} (e : Walked) → Is img (kind_of 17) n
      → over img n e ≡ marked img n e.scope (walk img names (tree_at img (field img n 1)) (over img (field img n 0) e))
  unfolding walk node_of kind_of
  member-whole e is = ap (λ (u : Tree). walk img occurs u e) (tree_of img is)

  pub member_of : {n c d : ℕ} {e : Walked} → Ready img (kind_of 17) n e → c ≡ field img n 0 → d ≡ field img n 1 → Member n c d e
  unfolding FormedFields next kind_of
  member_of {n} {c} {d} {e} p q r =
      let h : Child img n 12 (field img n 0) = (row img p.is).0 in
      let h2 : Child img n 13 (field img n 1) = (row img p.is).1.0 in
      let w = member-whole e p.is ∙ ap (marked img n e.scope) (name-step (over img (field img n 0) e) (child-is img p.is h2)) in
      subst (λ (i : ℕ). Member n i d e) (sym q) (subst (λ (i : ℕ). Member n (field img n 0) i e) (sym r)
      (record {
        low = h.below;
        first = record { is = child-is img p.is h; room = part_room p w (marked-grows img (child-is img p.is h2).below _ (stays _)) };
        second = child-is img p.is h2;
        whole = w;
      }))

  -- a node that wraps an enum --------------------------------------------------------------------------------------
  pub term-whole-as : {n : ℕ} (r : Role) (e : Walked) → Is img (kind_of 12) n → walk img r (tree_at img n) e ≡ marked img n e.scope (inside img r n e)
  unfolding walk node_of kind_of
  term-whole-as {n} r e is = subst (λ (u : Tree). walk img r u e ≡ marked img n e.scope (walk_seq img r (below u) e)) (sym (tree_of img is)) refl

  pub term-whole : {n : ℕ} (e : Walked) → Is img (kind_of 12) n → over img n e ≡ marked img n e.scope (inside img occurs n e)
  term-whole e is = term-whole-as occurs e is

  pub plain-whole : {fs : List Field} {n : ℕ} (e : Walked) → Is img (kind_by (inner plain) fs) n → over img n e ≡ marked img n e.scope (inside img occurs n e)
  unfolding walk node_of
  plain-whole {fs} {n} e is = subst (λ (u : Tree). walk img occurs u e ≡ marked img n e.scope (walk_seq img occurs (below u) e)) (sym (tree_of img is)) refl

  pub head-whole : {n : ℕ} (e : Walked) → Is img (kind_of 15) n → over img n e ≡ marked img n e.scope (inside img (head_role img (field img n 0 ∷ [])) n e)
  unfolding walk node_of kind_of
  head-whole {n} e is = subst (λ (u : Tree). walk img occurs u e ≡ marked img n e.scope (walk_seq img (head_role img (field img n 0 ∷ [])) (below u) e)) (sym (tree_of img is)) refl

  -- what a wrapped child asks, and what the walk inside is
  pub record Case (r : Role) (k n d : ℕ) (e : Walked) : Type 0 where
    pub low : d < n
    pub is : Is img (kind_of k) d
    pub inner : inside img r n e ≡ walk img r (tree_at img d) e

  pub seq-one : (r : Role) (u : Tree) (e : Walked) → walk_seq img r (u ◂ none) e ≡ walk img r u e
  unfolding walk
  seq-one r u e = refl

  pub case-of : (cl : Class) (ks : List ℕ) {n d : ℕ} (r : Role) (e : Walked) → Is img (kind_by cl (cases ks ∷ [])) n → ((ts : Trees) → ordered cl ts ≡ ts)
      → (c : ℕ) → c ≡ field img n 0 → d ≡ field img n 1 → eqb (get_or ks c no_child) no_child ≡ false → Case r (get_or ks c no_child) n d e
  case-of cl ks {n} {d} r e is straight c q q2 s =
      let h = case-child img cl ks is c d q q2 s in
      record {
        low = h.below;
        is = child-is img is h;
        inner =
            ap (λ (us : Trees). walk_seq img r us e) (case-kids img cl ks is straight c q ∙ case-one img ks n c s)
            ∙ seq-one r (tree_at img (field img n 1)) e
            ∙ ap (λ (i : ℕ). walk img r (tree_at img i) e) (sym q2);
      }

  pub term-case : {n d : ℕ} {e : Walked} (r : Role) → Is img (kind_of 12) n → (c : ℕ) → c ≡ field img n 0 → d ≡ field img n 1 → eqb (get_or term_kinds c no_child) no_child ≡ false
      → Case r (get_or term_kinds c no_child) n d e
  unfolding kind_of ordered
  term-case {e = e} r is c q q2 s = case-of (inner term) term_kinds r e is (λ ts. refl) c q q2 s

  pub head-case : {n d : ℕ} {e : Walked} (r : Role) → Is img (kind_of 15) n → (c : ℕ) → c ≡ field img n 0 → d ≡ field img n 1 → eqb (get_or head_kinds c no_child) no_child ≡ false
      → Case r (get_or head_kinds c no_child) n d e
  unfolding kind_of ordered
  head-case {e = e} r is c q q2 s = case-of (inner head) head_kinds r e is (λ ts. refl) c q q2 s

  pub term-wild : {n : ℕ} (r : Role) (e : Walked) → Is img (kind_of 12) n → 1 ≡ field img n 0 → inside img r n e ≡ e
  unfolding kind_of ordered walk
  term-wild {n} r e is q = ap (λ (us : Trees). walk_seq img r us e) (case-kids img (inner term) term_kinds is (λ ts. refl) 1 q)

  -- a wrapped child that is walked as itself
  pub record Wrapped (r : Role) (kd : Kind) (n d : ℕ) (e : Walked) : Type 0 where
    pub low : d < n
    pub ready : Ready img kd d e
    pub inner : inside img r n e ≡ over img d e

  pub term-wrapped : {n c : ℕ} {i : NodeId} {e : Walked} → Ready img (kind_of 12) n e → Cased img n c i → eqb (get_or term_kinds c no_child) no_child ≡ false
      → Wrapped occurs (kind_of (get_or term_kinds c no_child)) n i.0 e
  term-wrapped {n} {c} {e = e} p q s =
      let k = term-case {e = e} occurs p.is c q.number q.child s in
      record {
        low = k.low;
        ready = record { is = k.is; room = part_room p (term-whole e p.is ∙ ap (marked img n e.scope) k.inner) (stays _) };
        inner = k.inner;
      }

  pub head-wrapped : {n c : ℕ} {i : NodeId} {e : Walked} → Ready img (kind_of 15) n e → Cased img n (suc c) i → eqb (get_or head_kinds (suc c) no_child) no_child ≡ false
      → Wrapped (head_role img (field img n 0 ∷ [])) (kind_of (get_or head_kinds (suc c) no_child)) n i.0 e
  unfolding head_role
  head-wrapped {n} {c} {i} {e} p q s =
      let o : head_role img (field img n 0 ∷ []) ≡ occurs = ap (λ (x : ℕ). head_role img (x ∷ [])) (sym q.number) in
      let k = head-case {e = e} occurs p.is (suc c) q.number q.child s in
      let w : inside img (head_role img (field img n 0 ∷ [])) n e ≡ over img i.0 e = ap (λ (r : Role). inside img r n e) o ∙ k.inner in
      record {
        low = k.low;
        ready = record { is = k.is; room = part_room p (head-whole e p.is ∙ ap (marked img n e.scope) w) (stays _) };
        inner = w;
      }

  pub head-ident : {n d : ℕ} (e : Walked) → Is img (kind_of 15) n → 0 ≡ field img n 0 → d ≡ field img n 1 → inside img (head_role img (field img n 0 ∷ [])) n e ≡ marked img d e.scope e
  unfolding head_role
  head-ident {n} {d} e is q q2 =
      let k = head-case {e = e} names is 0 q q2 refl in
      ap (λ (x : ℕ). inside img (head_role img (x ∷ [])) n e) (sym q) ∙ k.inner ∙ name-step e k.is
