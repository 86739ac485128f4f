-- What a walk over a statement is.
use mathlib.Core.Path.{◌≡◌, refl, sym, ap, subst, ◌∙◌}
use mathlib.Core.List.{List}
use Prim.Native.Nat.{ℕ}
use Rattle.ast.specs.Image.{field}
use Rattle.ast.specs.Is.{Is, Run}
use Rattle.ast.specs.Items.{items, blocks, below}
use Rattle.ast.specs.Kinds.{kind_of}
use Rattle.ast.specs.Tree.{Tree, Trees, ordered}
use Rattle.typed.specs.RowShapes.{WordList}
use Rattle.typed.specs.declared.nodes.NodeList.{NodeList}
use Rattle.table.specs.State.{Walked, marked, back}
use Rattle.ast.proofs.Row.{append-none, next, node_of, Child, FormedFields}
use Rattle.ast.proofs.Shapes.{row, tree_of, child-is, run-tail}
use Rattle.ast.proofs.Small.{items-small}
use Rattle.typed.proofs.Lists.{at-list}
use Rattle.ordered.specs.Walk.{occurs, walk, walk_seq}
use Rattle.ordered.specs.Promises.{over, inside, rest, Room, Ready, ReadyRun}
use Rattle.ordered.proofs.Grows.{stays, back-grows, seq-grows}
use Rattle.ordered.proofs.Steps.{part_room, plain-whole}
use Rattle.ordered.proofs.Lists.{rest-start, rest-grows, inside_room}

module _ (img : List ℕ) where
  -- a match case: its pattern, then its statements ------------------------------------------------------------------
  case-whole : {n : ℕ} (e : Walked) → Is img (kind_of 35) n → over img n e ≡ marked img n e.scope (back img e.scope (walk_seq img occurs (items img n (field img n 1) 2) (over img (field img n 0) e)))
  unfolding walk node_of kind_of
  case-whole {n} e is =
      ap (λ (u : Tree). walk img occurs u e) (tree_of img is)
      ∙ ap (λ (us : Trees). marked img n e.scope (back img e.scope (walk_seq img occurs us (over img (field img n 0) e)))) (append-none (items img n (field img n 1) 2))

  -- c is its pattern, its statements are count items of m's row from place j on
  pub record MatchCase (n c m j count : ℕ) (e : Walked) : Type 0 where
    pub first : Ready img (kind_of 12) c e
    pub second : ReadyRun img 36 m j count (over img c e)
    pub whole : over img n e ≡ marked img n e.scope (back img e.scope (rest img occurs m j count 0 (over img c e)))

  pub match_case : {n c : ℕ} {l : NodeList} {e : Walked} → Ready img (kind_of 35) n e → WordList img n c l → MatchCase n c l.node.0 l.first l.count e
  unfolding FormedFields next kind_of
  match_case {n} {c} {l} {e} p q =
      let h : Child img n 12 (field img n 0) = (row img p.is).0 in
      let w = case-whole e p.is ∙ ap (λ (f : Walked). marked img n e.scope (back img e.scope f)) (rest-start img occurs n 2 (field img n 1) (over img (field img n 0) e)) in
      at-list img (λ m j k. MatchCase n c m j k e) q.list (subst (λ (x : ℕ). MatchCase n x n 2 (field img n 1) e) (sym q.first)
      (record {
        first = record { is = child-is img p.is h; room = part_room img p w (back-grows img e.scope (rest-grows img occurs n 2 (field img n 1) 0 _)) };
        second = record { run = run-tail img p.is refl refl; room = part_room img p w (back-grows img e.scope (stays _)) };
        whole = w;
      }))

  -- a match: its term, then its cases, each of which drops what it adds ------------------------------------------------
  pub record MatchOf (n c : ℕ) (e : Walked) : Type 0 where
    pub first : Ready img (kind_of 12) c e
    pub run : Run img 35 n 2 (field img n 1)
    pub inner : inside img occurs n e ≡ walk_seq img occurs (items img n (field img n 1) 2) (over img c e)

  match-inner : {n : ℕ} (e : Walked) → Is img (kind_of 40) n → inside img occurs n e ≡ walk_seq img occurs (items img n (field img n 1) 2) (over img (field img n 0) e)
  unfolding walk node_of kind_of ordered
  match-inner {n} e is =
      ap (λ (u : Tree). walk_seq img occurs (below u) e) (tree_of img is)
      ∙ ap (λ (us : Trees). walk_seq img occurs us (over img (field img n 0) e)) (append-none (items img n (field img n 1) 2))

  pub match_of : {n c : ℕ} {e : Walked} → Ready img (kind_of 40) n e → c ≡ field img n 0 → MatchOf n c e
  unfolding FormedFields next kind_of
  match_of {n} {c} {e} p q =
      let h : Child img n 12 (field img n 0) = (row img p.is).0 in
      let w = match-inner e p.is in
      subst (λ (i : ℕ). MatchOf n i e) (sym q)
      (record {
        first = record { is = child-is img p.is h; room = part_room img p (plain-whole img e p.is ∙ ap (marked img n e.scope) w) (seq-grows img occurs _ (items-small img n (field img n 1) 2) _) };
        run = run-tail img p.is refl refl;
        inner = w;
      })

  -- a branch: each block from the scope before it --------------------------------------------------------------------
  pub branch-inner : {n : ℕ} (e : Walked) → Is img (kind_of 39) n → inside img occurs n e ≡ walk_seq img occurs (blocks img n (field img n 0) 1) e
  unfolding node_of kind_of ordered
  branch-inner e is = ap (λ (us : Trees). walk_seq img occurs us e) (ap below (tree_of img is) ∙ append-none _)

  pub blocks-room : {n : ℕ} {e : Walked} → Ready img (kind_of 39) n e → Room img (walk_seq img occurs (blocks img n (field img n 0) 1) e)
  unfolding kind_of
  blocks-room {e = e} p = subst (Room img) (branch-inner e p.is) (inside_room img p)
