use Prim.Native.Nat.{◌+◌, ◌*◌}
use Rattle.ast.specs.Image.{field}
use Rattle.ast.specs.Named.{match_case_kind, stmt_kind}
use Rattle.environment.specs.Reading.{seen}
use Rattle.occurrences.specs.Promises.{rows_at, rows_of}
use Rattle.occurrences.proofs.CollectSteps.{RowsLeft, BlocksLeft}
use Rattle.occurrences.proofs.OccurrencesChecker.+stmts.Given as goal

abbrev pub decreases-collect_branch : goal.decreases-collect_branch
decreases-collect_branch l = 3 * l.id.0.0 + 2

abbrev pub decreases-collect_match : goal.decreases-collect_match
decreases-collect_match l = 3 * l.id.0.0 + 2

abbrev pub decreases-collect_match_case : goal.decreases-collect_match_case
decreases-collect_match_case l = 3 * l.case.0.0 + 2

abbrev pub decreases-collect_stmt : goal.decreases-collect_stmt
decreases-collect_stmt l = 3 * l.stmt.0.0

abbrev pub decreases-collect_stmts : goal.decreases-collect_stmts
decreases-collect_stmts l = 3 * l.stmts.list.node.0 + 1

abbrev pub invariant-collect_branch-loop-block : goal.invariant-collect_branch-loop-block
invariant-collect_branch-loop-block l = seen BlocksLeft l.self.scopes l.fn.id.0.0 l.block-iterator l.initial.rows l.rows

abbrev pub invariant-collect_match-loop-case : goal.invariant-collect_match-loop-case
invariant-collect_match-loop-case l =
    seen RowsLeft l.self.scopes match_case_kind l.fn.id.0.0 (seen rows_at l.self.scopes l.fn.id.0.0 (field l.self.scopes.image.now l.fn.id.0.0 1) 2) l.case-iterator l.initial.rows l.rows

abbrev pub invariant-collect_stmts-loop-stmt : goal.invariant-collect_stmts-loop-stmt
invariant-collect_stmts-loop-stmt l = seen RowsLeft l.self.scopes stmt_kind l.fn.stmts.list.node.0 (seen rows_of l.self.scopes l.fn.stmts.list) l.stmt-iterator l.initial.rows l.rows
