-- Lists: the row that a list stands in, as a read hands it back, and what holds of a loop over it in an accepted image.
use mathlib.Core.Path.{◌≡◌, refl, sym, ap, ap₂, subst, ◌∙◌}
use mathlib.Core.List.{List}
use Prim.Native.Nat.{ℕ, suc, zero, ◌+◌, ◌-◌, ◌*◌, ◌<◌, ◌≤◌}
use native.Mathlib.Nat.{add-zero}
use native.Mathlib.Omega.{arith}
use Rattle.ast.specs.Image.{kind_at, field}
use Rattle.ast.specs.Is.{Is, Run}
use Rattle.ast.specs.Items.{items, blocks}
use Rattle.ast.specs.Kinds.{kind_of}
use Rattle.ast.specs.Tree.{Tree, block, Trees, none, ◌◂◌, tree_at}
use Rattle.ast.specs.declared.NodeId.{NodeId}
use Rattle.ast.proofs.Shapes.{run-item}
use Rattle.typed.specs.RowShapes.{Listed}
use Rattle.typed.specs.declared.items.Items.{Items}
use Rattle.typed.specs.declared.nodes.NodeList.{NodeList}
use Rattle.typed.specs.declared.nodes.Ids.{Ids}
use Rattle.typed.specs.declared.nodes.StmtId.{StmtId}
use Rattle.typed.specs.declared.items.Blocks.{Blocks}
use Rattle.typed.specs.Items.{Others, trees_of, OtherBlocks, block_trees}
use Rattle.ast.proofs.Row.{blocks_end, FormedBlocks}
use Rattle.ast.proofs.Blocks.{BlocksFrom, blocks_from, next-block}

module _ (img : List ℕ) where
  -- what holds of the row's own node, place and count holds of the list's
  pub at-list : (P : (m j count : ℕ) → Type 0) {n j : ℕ} {l : NodeList} → Listed img n j l → P n (j + 1) (field img n j) → P l.node.0 l.first l.count
  at-list P {n} {j} {l} q p =
      subst (λ (m : ℕ). P m l.first l.count) (sym q.node) (subst (λ (i : ℕ). P n i l.count) (sym q.first) (subst (P n (j + 1)) (sym q.count) p))

  -- the list ends within the words of an image
  pub row-short : {k n j : ℕ} {l : NodeList} → Listed img n j l → Run img k n (j + 1) (field img n j) → l.first + l.count ≤ 8193
  row-short q r = let s = r.short in let f = q.first in let c = q.count in omega arith

  -- a run without its first
  run-rest : {k n j c : ℕ} → Run img k n j (suc c) → Run img k n (j + 1) c
  run-rest {k} {n} {j} r =
      record {
        accepted = r.accepted;
        below = r.below;
        lower = λ i l. subst (λ (p : ℕ). field img n p < n) (on i) (r.lower (suc i) (omega arith));
        kinds = λ i l. subst (λ (p : ℕ). kind_at img (field img n p) ≡ k) (on i) (r.kinds (suc i) (omega arith));
        short = (let s = r.short in omega arith);
      }
    where
      on : (i : ℕ) → j + suc i ≡ j + 1 + i
      on i = omega arith

-- nothing is left
pub none-left : {T : Type 0} (s : Items T) → s.left.list.count ≡ 0 → trees_of s ≡ none
unfolding items
none-left s e = ap (λ (c : ℕ). items s.image.now s.left.list.node.0 c s.left.list.first) e

module _ (img : List ℕ) (k n : ℕ) {T : Type 0} where
  -- what is left are children of n, of the kind
  pub record Within (s : Items T) : Type 0 where
    pub image : s.image.now ≡ img
    pub node : s.left.list.node.0 ≡ n
    pub run : Run img k n s.left.list.first s.left.list.count

  -- a loop begins, over the trees us
  pub record Begun (us : Trees) (s : Items T) : Type 0 where
    pub within : Within s
    pub trees : us ≡ trees_of s

  -- an item x, and what is left after it
  pub record Taken (x : ℕ) (s t : Items T) : Type 0 where
    pub low : x < n
    pub kind : kind_at img x ≡ k
    pub is : Is img (kind_of k) x
    pub rest : Within t
    pub trees : trees_of s ≡ tree_at img x ◂ trees_of t

module _ {img : List ℕ} {k n : ℕ} {T : Type 0} where
  -- over a list that is given
  pub begun : {l : NodeList} {s start : Items T} → start ≡ s → l.node.0 ≡ n → Run img k n l.first l.count → (s.image.now ≡ img) × (s.left.list ≡ l)
      → Begun img k n (items img l.node.0 l.count l.first) start
  begun {l} {s} e m r h =
      subst (Begun img k n (items img l.node.0 l.count l.first)) (sym e)
      (record {
        within =
            record {
              image = h.0;
              node = ap (λ (l : NodeList). l.node.0) h.1 ∙ m;
              run = subst (λ (l : NodeList). Run img k n l.first l.count) (sym h.1) r;
            };
        trees = ap₂ (λ (i : List ℕ) (l : NodeList). items i l.node.0 l.count l.first) (sym h.0) (sym h.1);
      })

  -- over a list that is read from the row of n
  pub begun-row : {j : ℕ} {l : NodeList} {s start : Items T} → start ≡ s → Listed img n j l → Run img k n (j + 1) (field img n j) → (s.image.now ≡ img) × (s.left.list ≡ l)
      → Begun img k n (items img n (field img n j) (j + 1)) start
  begun-row {j} {l} {s} {start} e q r h =
      at-list img (λ (m f c : ℕ). Begun img k n (items img m c f) start → Begun img k n (items img n (field img n j) (j + 1)) start) q (λ b. b)
      (begun e q.node (subst (λ (f : ℕ). Run img k n f l.count) (sym q.first) (subst (Run img k n (j + 1)) (sym q.count) r)) h)

  pub taken : {x : ℕ} {s t : Items T} → Within img k n s → Others s t → x ≡ field s.image.now s.left.list.node.0 s.left.list.first → Taken img k n x s t
  unfolding items
  taken {x} {s} {t} w o q =
      let f = s.left.list.first in
      let r : Run img k n f (suc t.left.list.count) = subst (Run img k n f) o.count w.run in
      let h = run-item img {i = 0} r (omega arith) (q ∙ ap₂ (λ (i : List ℕ) (m : ℕ). field i m f) w.image w.node ∙ ap (field img n) (sym (add-zero f))) in
      record {
        low = h.0.below;
        kind = h.0.kind;
        is = h.1;
        rest = record { image = o.image ∙ w.image; node = ap (λ m. m.0) o.node ∙ w.node; run = subst (λ (j : ℕ). Run img k n j t.left.list.count) (sym o.first) (run-rest img r) };
        trees =
            ap (λ (c : ℕ). items s.image.now s.left.list.node.0 c f) o.count
            ∙ ap₂ (λ (u : Tree) (us : Trees). u ◂ us) (ap₂ tree_at w.image (sym q))
            (ap₂ (λ (i : List ℕ) (m : NodeId). items i m.0 t.left.list.count (f + 1)) (sym o.image) (sym o.node) ∙ ap (items t.image.now t.left.list.node.0 t.left.list.count) (sym o.first));
      }

-- blocks ---------------------------------------------------------------------------------------------------------------
-- nothing is left
pub no-block-left : (s : Blocks) → s.left.list.count ≡ 0 → block_trees s ≡ none
unfolding blocks
no-block-left s e = ap (λ (c : ℕ). blocks s.image.now s.left.list.node.0 c s.left.list.first) e

module _ (img : List ℕ) (n : ℕ) where
  -- each block is a word or more
  blocks-few : (c j : ℕ) → j + c ≤ blocks_end img n c j
  unfolding blocks_end
  blocks-few zero j = omega arith
  blocks-few (suc c) j = let h = blocks-few c (j + 1 + field img n j) in omega arith

  -- what is left are blocks of the branch n
  pub record BlocksWithin (s : Blocks) : Type 0 where
    pub image : s.image.now ≡ img
    pub node : s.left.list.node.0 ≡ n
    pub from : BlocksFrom img n s.left.list.count 0 s.left.list.first

  -- a loop begins, over all its blocks
  pub record BlocksBegun (s : Blocks) : Type 0 where
    pub within : BlocksWithin s
    pub trees : blocks img n (field img n 0) 1 ≡ block_trees s

  -- a block b, and what is left after it
  pub record BlockTaken (s : Blocks) (b : NodeList) (t : Blocks) : Type 0 where
    pub node : b.node.0 ≡ n
    pub run : Run img 36 b.node.0 b.first b.count
    pub rest : BlocksWithin t
    pub trees : block_trees s ≡ block (items img b.node.0 b.count b.first) ◂ block_trees t

-- the blocks of a branch
module _ {img : List ℕ} {n : ℕ} {l : NodeList} where
  -- no place in them overflows
  pub blocks-short : Is img (kind_of 39) n → Listed img n 0 l → l.first + l.count * 4294967296 < 18446744073709551616
  blocks-short is q =
      let b = blocks_from img is q.count in
      let h = blocks-few img n (l.count - 0) 1 in
      let s = b.short in
      let f = q.first in
      omega arith

  pub blocks-begun : {s start : Blocks} → start ≡ s → Is img (kind_of 39) n → Listed img n 0 l → (s.image.now ≡ img) × (s.left.list ≡ l) → BlocksBegun img n start
  blocks-begun {s} e is q h =
      subst (BlocksBegun img n) (sym e)
      (record {
        within =
            record {
              image = h.0;
              node = ap (λ (l : NodeList). l.node.0) h.1 ∙ q.node;
              from =
                  subst (λ (l : NodeList). BlocksFrom img n l.count 0 l.first) (sym h.1)
                  (subst (BlocksFrom img n l.count 0) (sym q.first) (blocks_from img is q.count));
            };
        trees =
            at-list img (λ (m f c : ℕ). blocks img n (field img n 0) 1 ≡ blocks img m c f) q refl
            ∙ ap₂ (λ (i : List ℕ) (l : NodeList). blocks i l.node.0 l.count l.first) (sym h.0) (sym h.1);
      })

module _ {img : List ℕ} {n : ℕ} where
  pub block-taken : {s : Blocks} {b : Ids StmtId} {t : Blocks} → BlocksWithin img n s → OtherBlocks s b t → Listed s.image.now s.left.list.node.0 s.left.list.first b.list
      → BlockTaken img n s b.list t
  unfolding blocks
  block-taken {s} {b} {t} w o q =
      let j = s.left.list.first in
      let c = t.left.list.count in
      let size = field s.image.now s.left.list.node.0 j in
      let place : j + 1 + size ≡ t.left.list.first = (let a = o.first in let d = q.first in let e = q.count in omega arith) in
      let same : size ≡ field img n j = ap₂ (λ (i : List ℕ) (m : ℕ). field i m j) w.image w.node in
      let h = next-block img w.from (let e = o.count in omega arith) in
      let less : s.left.list.count - 1 ≡ c - 0 = (let e = o.count in omega arith) in
      let at : j + 1 + field img n j ≡ t.left.list.first = (let a = place in let d = same in omega arith) in
      record {
        node = q.node ∙ w.node;
        run = at-list img (Run img 36) (record { node = q.node ∙ w.node; count = q.count ∙ same; first = q.first }) h.run;
        rest =
            record {
              image = o.image ∙ w.image;
              node = ap (λ m. m.0) o.node ∙ w.node;
              from =
                  subst (BlocksFrom img n c 0) at
                  (record {
                    is = h.from.is;
                    within = omega arith;
                    formed = subst (λ (x : ℕ). FormedBlocks img n 36 x (j + 1 + field img n j)) less h.from.formed;
                    short = subst (λ (x : ℕ). blocks_end img n x (j + 1 + field img n j) ≤ 8192) less h.from.short;
                  });
            };
        trees =
            ap (λ (x : ℕ). blocks s.image.now s.left.list.node.0 x j) o.count
            ∙ ap₂ (λ (u v : Trees). block u ◂ v)
            (at-list s.image.now (λ (m f x : ℕ). items s.image.now s.left.list.node.0 size (j + 1) ≡ items s.image.now m x f) q refl ∙ ap (λ (i : List ℕ). items i b.list.node.0 b.list.count b.list.first) w.image)
            (ap₂ (λ (i : List ℕ) (m : NodeId). blocks i m.0 c (j + 1 + size)) (sym o.image) (sym o.node) ∙ ap (blocks t.image.now t.left.list.node.0 c) place);
      }
