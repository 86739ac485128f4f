use Prim.Native.Nat.{◌+◌, ◌*◌}
use Rattle.ast.specs.Image.{field}
use Rattle.ast.specs.Items.{blocks}
use Rattle.typed.specs.Items.{trees_of, block_trees}
use Rattle.typed.proofs.Lists.{Within, BlocksWithin}
use Rattle.environment.specs.Builder.{walked_of}
use Rattle.ordered.specs.Walk.{occurs, walk_seq}
use Rattle.ordered.specs.Promises.{inside, over_all}
use Rattle.ordered.proofs.Lists.{Left}
use Rattle.ordered.proofs.+stmts.Given as goal

abbrev pub decreases-walk_blocks : goal.decreases-walk_blocks
decreases-walk_blocks l = 3 * l.id.0.0 + 1

abbrev pub decreases-walk_branch : goal.decreases-walk_branch
decreases-walk_branch l = 3 * l.id.0.0 + 2

abbrev pub decreases-walk_match : goal.decreases-walk_match
decreases-walk_match l = 3 * l.id.0.0 + 2

abbrev pub decreases-walk_match_case : goal.decreases-walk_match_case
decreases-walk_match_case l = 3 * l.case.0.0 + 2

abbrev pub decreases-walk_stmt : goal.decreases-walk_stmt
decreases-walk_stmt l = 3 * l.stmt.0.0 + 2

abbrev pub decreases-walk_stmt_block : goal.decreases-walk_stmt_block
decreases-walk_stmt_block l = 3 * l.stmts.list.node.0

abbrev pub decreases-walk_stmt_case : goal.decreases-walk_stmt_case
decreases-walk_stmt_case l = 3 * l.stmt.0.0 + 1

abbrev pub invariant-walk_blocks-loop-block : goal.invariant-walk_blocks-loop-block
invariant-walk_blocks-loop-block l =
    BlocksWithin l.fn.builder.image.now l.fn.id.0.0 l.block-iterator
    × Left occurs (walk_seq l.fn.builder.image.now occurs (blocks l.fn.builder.image.now l.fn.id.0.0 (field l.fn.builder.image.now l.fn.id.0.0 0) 1) (walked_of l.fn.builder l.fn.current)) (block_trees l.block-iterator) l.fn.builder l.builder l.cur

abbrev pub invariant-walk_match-loop-case : goal.invariant-walk_match-loop-case
invariant-walk_match-loop-case l =
    Within l.fn.builder.image.now 35 l.fn.id.0.0 l.case-iterator
    × Left occurs (inside l.fn.builder.image.now occurs l.fn.id.0.0 (walked_of l.fn.builder l.fn.current)) (trees_of l.case-iterator) l.fn.builder l.builder l.cur

abbrev pub invariant-walk_stmt_block-loop-stmt : goal.invariant-walk_stmt_block-loop-stmt
invariant-walk_stmt_block-loop-stmt l =
    Within l.fn.builder.image.now 36 l.fn.stmts.list.node.0 l.stmt-iterator
    × Left occurs (over_all l.fn.builder.image.now occurs l.fn.stmts.list (walked_of l.fn.builder l.fn.current)) (trees_of l.stmt-iterator) l.fn.builder l.builder l.cur
