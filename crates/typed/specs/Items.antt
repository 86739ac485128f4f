-- The items of a list, one after the other.
use Rattle.std.specs.Prelude.{◌≡◌, suc, ◌+◌, Option, MatchOption}
use Rattle.ast.specs.Image.{field}
use Rattle.ast.specs.Items.{items, blocks}
use Rattle.ast.specs.Tree.{Trees}
use Rattle.ast.specs.declared.NodeId.{NodeId}
use Rattle.typed.specs.RowShapes.{Listed}
use Rattle.typed.specs.declared.nodes.Ids.{Ids}
use Rattle.typed.specs.declared.nodes.StmtId.{StmtId}
use Rattle.typed.specs.declared.items.Items.{Items}
use Rattle.typed.specs.declared.items.Blocks.{Blocks}

module _ {T : Type 0} where
  -- the items t are those of s without the first
  pub record Others (s t : Items T) : Type 0 where
    pub image : t.image.now ≡ s.image.now
    pub node : t.left.list.node ≡ s.left.list.node
    pub first : t.left.list.first ≡ s.left.list.first + 1
    pub count : s.left.list.count ≡ suc t.left.list.count

  -- a call gave the first of what is left, made of its node, and left the others; or it gave None, where nothing is left
  abbrev pub GivesItem : (NodeId → T → Type 0) → Items T → Option T → Items T → Type 0
  GivesItem from s r t =
      MatchOption r (s.left.list.count ≡ 0) (λ x. Others s t × from (record { 0 = field s.image.now s.left.list.node.0 s.left.list.first }) x)

  -- the trees of what is left
  abbrev pub trees_of : Items T → Trees
  trees_of s = items s.image.now s.left.list.node.0 s.left.list.count s.left.list.first

-- the blocks t are those of s without the first, b
pub record OtherBlocks (s : Blocks) (b : Ids StmtId) (t : Blocks) : Type 0 where
  pub image : t.image.now ≡ s.image.now
  pub node : t.left.list.node ≡ s.left.list.node
  pub first : t.left.list.first ≡ b.list.first + b.list.count
  pub count : s.left.list.count ≡ suc t.left.list.count

-- the same for blocks
abbrev pub GivesBlock : Blocks → Option (Ids StmtId) → Blocks → Type 0
GivesBlock s r t =
    MatchOption r (s.left.list.count ≡ 0) (λ b. OtherBlocks s b t × Listed s.image.now s.left.list.node.0 s.left.list.first b.list)

abbrev pub block_trees : Blocks → Trees
block_trees s = blocks s.image.now s.left.list.node.0 s.left.list.count s.left.list.first
