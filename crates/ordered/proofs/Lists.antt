-- The walk over the items of a list, and a loop over trees.
use mathlib.Core.Path.{◌≡◌, refl, sym, ap, subst, ◌∙◌}
use mathlib.Core.List.{List, [], ◌∷◌}
use Prim.Native.Nat.{ℕ, ◌+◌, ◌-◌, ◌<◌}
use native.Mathlib.Nat.{add-zero, sub-zero}
use Rattle.ast.specs.Image.{nodes, field}
use Rattle.ast.specs.Items.{items, blocks, below}
use Rattle.ast.specs.Is.{Is, Run, kind_by}
use Rattle.ast.specs.Kinds.{inner, plain, Field, list, kind_of}
use Rattle.ast.specs.Tree.{Tree, Trees, none, ◌◂◌, ordered, tree_at}
use Rattle.typed.specs.Items.{trees_of, block_trees}
use Rattle.typed.specs.declared.items.Items.{Items}
use Rattle.typed.specs.declared.items.Blocks.{Blocks}
use Rattle.typed.specs.declared.nodes.NodeList.{NodeList}
use Rattle.table.specs.State.{Walked, unmarked, back}
use Rattle.table.specs.declared.ScopeId.{ScopeId}
use Rattle.environment.specs.Stands.{Stands}
use Rattle.environment.specs.Builder.{Keeps, walked_of}
use Rattle.environment.specs.declared.ScopeBuilder.{ScopeBuilder}
use Rattle.environment.proofs.Steps.{keeps-then}
use Rattle.ast.proofs.Row.{append-none, Child, FormedFields, next, node_of}
use Rattle.ast.proofs.Shapes.{row, tree_of, child-is, run-list, run-tail}
use Rattle.ast.proofs.Small.{Smalls, items-small, blocks-small}
use Rattle.typed.proofs.Lists.{Taken, BlockTaken}
use Rattle.ordered.specs.Walk.{Role, occurs, names, walk, walk_seq, walk_first}
use Rattle.ordered.specs.Promises.{over, inside, rest, Room, Ready, ReadyRun, Ends}
use Rattle.ordered.proofs.Grows.{Grows, stays, unmarked-grows, back-grows, seq-grows}
use Rattle.ordered.proofs.Steps.{room_in, part_room, plain-whole}

module _ (img : List ℕ) where
  pub rest-grows : (r : Role) (n j count i : ℕ) (e : Walked) → Grows img e (rest img r n j count i e)
  unfolding rest
  rest-grows r n j count i e = seq-grows img r _ (items-small img n (count - i) (j + i)) e

  pub rest-start : (r : Role) (n j count : ℕ) (e : Walked) → walk_seq img r (items img n count j) e ≡ rest img r n j count 0 e
  unfolding rest
  rest-start r n j count e = ap (λ (us : Trees). walk_seq img r us e) (ap (λ (c : ℕ). items img n c j) (sym (sub-zero count)) ∙ ap (items img n (count - 0)) (sym (add-zero j)))

  -- below a plain node there is room
  pub inside_room : {fs : List Field} {n : ℕ} {e : Walked} → Ready img (kind_by (inner plain) fs) n e → Room img (inside img occurs n e)
  inside_room {e = e} p = part_room img p (plain-whole img e p.is) (stays _)

  -- a plain list
  pub record ListOf (k n : ℕ) (e : Walked) : Type 0 where
    pub run : Run img k n 1 (field img n 0)
    pub inner : inside img occurs n e ≡ walk_seq img occurs (items img n (field img n 0) 1) e

  pub list_of : {k n : ℕ} {e : Walked} → Ready img (kind_by (inner plain) (list k ∷ [])) n e → ListOf k n e
  unfolding node_of ordered
  list_of {e = e} p = record { run = run-list img p.is refl; inner = ap (λ (us : Trees). walk_seq img occurs us e) (ap below (tree_of img p.is) ∙ append-none _) }

  -- an app head's member: a term, and names that introduce nothing -----------------------------------------------------
  -- the walk over both
  abbrev pub in_member : ℕ → Walked → Walked
  in_member n e = walk_first img names (below (tree_at img n)) e

  pub record HeadMember (n c : ℕ) (e : Walked) : Type 0 where
    pub low : c < n
    pub first : Ready img (kind_of 12) c e
    pub run : Run img 13 n 2 (field img n 1)
    pub inner : in_member n e ≡ walk_seq img names (items img n (field img n 1) 2) (over img c e)

  pub member-whole : {n : ℕ} (e : Walked) → Is img (kind_of 16) n → over img n e ≡ unmarked img n (in_member n e)
  unfolding walk node_of kind_of
  member-whole {n} e is = subst (λ (u : Tree). walk img occurs u e ≡ unmarked img n (walk_first img names (below u) e)) (sym (tree_of img is)) refl

  member-inner : {n : ℕ} (e : Walked) → Is img (kind_of 16) n → in_member n e ≡ walk_seq img names (items img n (field img n 1) 2) (over img (field img n 0) e)
  unfolding walk node_of kind_of ordered
  member-inner {n} e is =
      ap (λ (u : Tree). walk_first img names (below u) e) (tree_of img is)
      ∙ ap (λ (us : Trees). walk_seq img names us (over img (field img n 0) e)) (append-none (items img n (field img n 1) 2))

  pub head_member_of : {n c : ℕ} {e : Walked} → Ready img (kind_of 16) n e → c ≡ field img n 0 → HeadMember n c e
  unfolding FormedFields next kind_of
  head_member_of {n} {c} {e} p q =
      let h : Child img n 12 (field img n 0) = (row img p.is).0 in
      let w = member-inner e p.is in
      subst (λ (i : ℕ). HeadMember n i e) (sym q)
      (record {
        low = h.below;
        first =
            record {
              is = child-is img p.is h;
              room = room_in img (member-whole e p.is ∙ ap (unmarked img n) w) (unmarked-grows img p.is.below (seq-grows img names _ (items-small img n (field img n 1) 2) _)) p.room;
            };
        run = run-tail img p.is refl refl;
        inner = w;
      })

-- a loop over trees, which ends in `end`: that is what is left of them, us, walked from the scope s of b'; b began it
pub record Left (r : Role) (end : Walked) (us : Trees) (b b' : ScopeBuilder) (s : ScopeId) : Type 0 where
  pub left : end ≡ walk_seq b.image.now r us (walked_of b' s)
  pub stands : Stands b.image.now (walked_of b' s) b'.env.now
  pub keeps : Keeps b b'

module _ {r : Role} {end : Walked} {b b' : ScopeBuilder} {s : ScopeId} where
  pub left-start : {us vs : Trees} → end ≡ walk_seq b.image.now r us (walked_of b' s) → us ≡ vs → Stands b.image.now (walked_of b' s) b'.env.now → Keeps b b' → Left r end vs b b' s
  left-start w q h k = record { left = w ∙ ap (λ (ts : Trees). walk_seq b.image.now r ts (walked_of b' s)) q; stands = h; keeps = k }

  -- the first of what is left, u, is walked, and vs are left
  pub left-next : {u : Tree} {us vs : Trees} {b'' : ScopeBuilder} {s' : ScopeId} → us ≡ u ◂ vs → Left r end us b b' s → Keeps b' b''
      → Ends b.image.now (walk b.image.now r u (walked_of b' s)) (walked_of b'' s') b''.env.now → Left r end vs b b'' s'
  unfolding walk
  left-next {vs = vs} q w k h =
      record {
        left = w.left ∙ ap (λ (ts : Trees). walk_seq b.image.now r ts (walked_of b' s)) q ∙ ap (walk_seq b.image.now r vs) (sym h.same);
        stands = h.stands;
        keeps = keeps-then w.keeps k;
      }

  pub left-end : {us : Trees} → us ≡ none → Left r end us b b' s → Ends b.image.now end (walked_of b' s) b'.env.now
  unfolding walk
  left-end q w = record { same = sym (w.left ∙ ap (λ (ts : Trees). walk_seq b.image.now r ts (walked_of b' s)) q); stands = w.stands }

  -- there is room for it
  left-room : {u : Tree} {us vs : Trees} → us ≡ u ◂ vs → Smalls (nodes b.image.now) vs → Left r end us b b' s → Room b.image.now end → Room b.image.now (walk b.image.now r u (walked_of b' s))
  unfolding walk
  left-room {vs = vs} q h w = room_in b.image.now (w.left ∙ ap (λ (ts : Trees). walk_seq b.image.now r ts (walked_of b' s)) q) (seq-grows b.image.now r vs h _)

module _ {end : Walked} {b b' : ScopeBuilder} {s : ScopeId} where
  -- an item is ready, and so is a block
  pub item-ready : {k n x : ℕ} {T : Type 0} {i j : Items T} → Taken b.image.now k n x i j → Left occurs end (trees_of i) b b' s → Room b.image.now end → Ready b.image.now (kind_of k) x (walked_of b' s)
  item-ready {j = j} o w h =
      record {
        is = o.is;
        room =
            left-room o.trees
            (subst (λ (img : List ℕ). Smalls (nodes b.image.now) (items img j.left.list.node.0 j.left.list.count j.left.list.first)) (sym o.rest.image) (items-small b.image.now j.left.list.node.0 j.left.list.count j.left.list.first))
            w h;
      }

  pub block-ready : {n : ℕ} {i j : Blocks} {l : NodeList} → BlockTaken b.image.now n i l j → Left occurs end (block_trees i) b b' s → Room b.image.now end → ReadyRun b.image.now 36 l.node.0 l.first l.count (walked_of b' s)
  unfolding walk
  block-ready {j = j} {l} o w h =
      record {
        run = o.run;
        room =
            room_in b.image.now refl (back-grows b.image.now s.0 (stays _))
            (subst (λ (e : Walked). Room b.image.now (back b.image.now s.0 e)) (rest-start b.image.now occurs l.node.0 l.first l.count (walked_of b' s))
            (left-room o.trees
            (subst (λ (img : List ℕ). Smalls (nodes b.image.now) (blocks img j.left.list.node.0 j.left.list.count j.left.list.first)) (sym o.rest.image) (blocks-small b.image.now j.left.list.node.0 j.left.list.count j.left.list.first))
            w h));
      }
