use Prim.Native.Nat.{◌+◌, ◌*◌}
use mathlib.Core.Bool.{false}
use Rattle.typed.specs.Items.{trees_of, block_trees}
use Rattle.typed.proofs.Lists.{Within, BlocksWithin}
use Rattle.bindings.specs.Errors.{rows_seq}
use Rattle.rows.proofs.Parts.{Left}
use Rattle.environment.specs.Reading.{seen}
use Rattle.bindings.specs.Promises.{inside, of_stmts}
use Rattle.bindings.proofs.BindingsChecker.+stmts.Given as goal

abbrev pub decreases-walk_branch : goal.decreases-walk_branch
decreases-walk_branch l = 2 * l.id.0.0 + 1

abbrev pub decreases-walk_match : goal.decreases-walk_match
decreases-walk_match l = 2 * l.id.0.0 + 1

abbrev pub decreases-walk_match_case : goal.decreases-walk_match_case
decreases-walk_match_case l = 2 * l.case.0.0 + 1

abbrev pub decreases-walk_stmt : goal.decreases-walk_stmt
decreases-walk_stmt l = 2 * l.stmt.0.0 + 1

abbrev pub decreases-walk_stmt_block : goal.decreases-walk_stmt_block
decreases-walk_stmt_block l = 2 * l.stmts.list.node.0

abbrev pub invariant-walk_branch-loop-block : goal.invariant-walk_branch-loop-block
invariant-walk_branch-loop-block l =
    BlocksWithin l.self.scopes.image.now l.fn.id.0.0 l.block-iterator × Left (seen inside l.self.scopes false l.fn.id.0.0) (seen rows_seq l.self.scopes false l.fn.id.0.0 (block_trees l.block-iterator)) l.initial.rows l.rows

abbrev pub invariant-walk_match-loop-case : goal.invariant-walk_match-loop-case
invariant-walk_match-loop-case l =
    Within l.self.scopes.image.now 35 l.fn.id.0.0 l.case-iterator × Left (seen inside l.self.scopes false l.fn.id.0.0) (seen rows_seq l.self.scopes false l.fn.id.0.0 (trees_of l.case-iterator)) l.initial.rows l.rows

abbrev pub invariant-walk_stmt_block-loop-stmt : goal.invariant-walk_stmt_block-loop-stmt
invariant-walk_stmt_block-loop-stmt l =
    Within l.self.scopes.image.now 36 l.fn.stmts.list.node.0 l.stmt-iterator
    × Left (seen of_stmts l.self.scopes l.fn.stmts.list) (seen rows_seq l.self.scopes false l.fn.stmts.list.node.0 (trees_of l.stmt-iterator)) l.initial.rows l.rows
