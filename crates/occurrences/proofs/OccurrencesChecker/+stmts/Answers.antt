use mathlib.Core.Path.{refl}
use native.Mathlib.Omega.{arith}
use Rattle.typed.proofs.Lists.{row-short, blocks-short}
use Rattle.rows.proofs.Parts.{appends-next}
use Rattle.occurrences.proofs.CollectSteps.{appends-to, if-stmt, then-stmt, rows_start, row_start, stmt-item, case-item, rows_next, rows_end, match_case, match_of, blocks_start, block_of, blocks_next, blocks-end}
use Rattle.occurrences.proofs.CollectCases.{stmt-case}
use Rattle.occurrences.proofs.OccurrencesChecker.+stmts.Goals as goal

pub collect_branch-of-block-items-requires : goal.collect_branch-of-block-items-requires
collect_branch-of-block-items-requires t c = blocks-short c.requires.is c.branch_stmt.ensures

pub collect_branch-loop-block-init : goal.collect_branch-loop-block-init
collect_branch-loop-block-init t c = blocks_start _ _ _ c.into_iter-block-iterator.ensures.into_iter_gives c.requires c.branch_stmt.ensures c.of-block-items.ensures

pub collect_branch-collect_stmts-requires : goal.collect_branch-collect_stmts-requires
collect_branch-collect_stmts-requires t c = let o = block_of _ _ c.loop-block.invariant c.in-Some.ensures.steps in (let e = o.node in omega arith, o.run)

pub collect_branch-loop-block-preserved : goal.collect_branch-loop-block-preserved
collect_branch-loop-block-preserved t c = blocks_next _ _ c.loop-block.invariant (block_of _ _ c.loop-block.invariant c.in-Some.ensures.steps) c.collect_stmts.ensures

pub collect_branch-returns : goal.collect_branch-returns
collect_branch-returns t c = blocks-end _ _ c.loop-block.invariant c.in-None.ensures.steps

pub collect_match-collect_term-requires : goal.collect_match-collect_term-requires
collect_match-collect_term-requires t c = (match_of _ _ c.requires c.match_stmt.ensures.first).first

pub collect_match-of-case-items-requires : goal.collect_match-of-case-items-requires
collect_match-of-case-items-requires t c = row-short _ c.match_stmt.ensures.list ((match_of _ _ c.requires c.match_stmt.ensures.first).second c.collect_term.ensures.appended.count).run

pub collect_match-loop-case-init : goal.collect_match-loop-case-init
collect_match-loop-case-init t c =
    let o = match_of _ _ c.requires c.match_stmt.ensures.first in
    row_start _ _ _ c.into_iter-case-iterator.ensures.into_iter_gives (o.second c.collect_term.ensures.appended.count) refl c.match_stmt.ensures.list c.of-case-items.ensures

pub collect_match-collect_match_case-requires : goal.collect_match-collect_match_case-requires
collect_match-collect_match_case-requires t c = let o = case-item _ _ c.loop-case.invariant c.in-Some.ensures.steps in (let l = o.low in omega arith, o.ready)

pub collect_match-loop-case-preserved : goal.collect_match-loop-case-preserved
collect_match-loop-case-preserved t c = rows_next _ _ c.loop-case.invariant (case-item _ _ c.loop-case.invariant c.in-Some.ensures.steps) c.collect_match_case.ensures

pub collect_match-returns : goal.collect_match-returns
collect_match-returns t c = appends-to (match_of _ _ c.requires c.match_stmt.ensures.first).whole (appends-next c.collect_term.ensures (rows_end _ _ c.loop-case.invariant c.in-None.ensures.steps))

pub collect_match_case-collect_term-requires : goal.collect_match_case-collect_term-requires
collect_match_case-collect_term-requires t c = (match_case _ _ c.requires c.match_case.ensures).first

pub collect_match_case-collect_stmts-requires : goal.collect_match_case-collect_stmts-requires
collect_match_case-collect_stmts-requires t c = let o = match_case _ _ c.requires c.match_case.ensures in (let e = o.node in omega arith, o.second c.collect_term.ensures.appended.count)

pub collect_match_case-returns : goal.collect_match_case-returns
collect_match_case-returns t c = appends-to (match_case _ _ c.requires c.match_case.ensures).whole (appends-next c.collect_term.ensures c.collect_stmts.ensures)

pub collect_stmt-collect_if_atom-requires : goal.collect_stmt-collect_if_atom-requires
collect_stmt-collect_if_atom-requires t c = (if-stmt _ _ (stmt-case _ _ c.requires c.stmt.ensures c.in-If.is) c.if_stmt.ensures).ready

pub collect_stmt-collect_then_atom-requires : goal.collect_stmt-collect_then_atom-requires
collect_stmt-collect_then_atom-requires t c = (then-stmt _ _ (stmt-case _ _ c.requires c.stmt.ensures c.in-Then.is) c.then_stmt.ensures).ready

pub collect_stmt-collect_branch-requires : goal.collect_stmt-collect_branch-requires
collect_stmt-collect_branch-requires t c = let o = stmt-case _ _ c.requires c.stmt.ensures c.in-Branch.is in (let l = o.low in omega arith, o.ready)

pub collect_stmt-collect_match-requires : goal.collect_stmt-collect_match-requires
collect_stmt-collect_match-requires t c = let o = stmt-case _ _ c.requires c.stmt.ensures c.in-Match.is in (let l = o.low in omega arith, o.ready)

pub collect_stmt-returns-in-If : goal.collect_stmt-returns-in-If
collect_stmt-returns-in-If t c = appends-to (if-stmt _ _ (stmt-case _ _ c.requires c.stmt.ensures c.in-If.is) c.if_stmt.ensures).whole c.collect_if_atom.ensures

pub collect_stmt-returns-in-Then : goal.collect_stmt-returns-in-Then
collect_stmt-returns-in-Then t c = appends-to (then-stmt _ _ (stmt-case _ _ c.requires c.stmt.ensures c.in-Then.is) c.then_stmt.ensures).whole c.collect_then_atom.ensures

pub collect_stmt-returns-in-Branch : goal.collect_stmt-returns-in-Branch
collect_stmt-returns-in-Branch t c = appends-to (stmt-case _ _ c.requires c.stmt.ensures c.in-Branch.is).whole c.collect_branch.ensures

pub collect_stmt-returns-in-Match : goal.collect_stmt-returns-in-Match
collect_stmt-returns-in-Match t c = appends-to (stmt-case _ _ c.requires c.stmt.ensures c.in-Match.is).whole c.collect_match.ensures

pub collect_stmts-loop-stmt-init : goal.collect_stmts-loop-stmt-init
collect_stmts-loop-stmt-init t c = rows_start _ _ _ c.into_iter-stmt-iterator.ensures.into_iter_gives c.requires c.of-stmt-items.ensures

pub collect_stmts-collect_stmt-requires : goal.collect_stmts-collect_stmt-requires
collect_stmts-collect_stmt-requires t c = let o = stmt-item _ _ c.loop-stmt.invariant c.in-Some.ensures.steps in (let l = o.low in omega arith, o.ready)

pub collect_stmts-loop-stmt-preserved : goal.collect_stmts-loop-stmt-preserved
collect_stmts-loop-stmt-preserved t c = rows_next _ _ c.loop-stmt.invariant (stmt-item _ _ c.loop-stmt.invariant c.in-Some.ensures.steps) c.collect_stmt.ensures

pub collect_stmts-returns : goal.collect_stmts-returns
collect_stmts-returns t c = rows_end _ _ c.loop-stmt.invariant c.in-None.ensures.steps
