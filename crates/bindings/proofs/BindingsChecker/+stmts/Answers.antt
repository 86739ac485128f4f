use mathlib.Core.Path.{refl, sym, ap, ◌∙◌}
use native.Mathlib.Omega.{arith}
use mathlib.Core.Bool.{false}
use Rattle.typed.proofs.Enums.{stmt-is}
use Rattle.typed.proofs.Lists.{begun, begun-row, taken, none-left, row-short, blocks-begun, block-taken, no-block-left, blocks-short}
use Rattle.bindings.specs.Errors.{rows_seq}
use Rattle.environment.specs.Reading.{seen}
use Rattle.bindings.proofs.RowLaws.{branch-inside}
use Rattle.environment.specs.Reading.{table_in}
use Rattle.rows.proofs.Parts.{appends-as, appends-no, left-start, left-next, left_end, appends-next, left-room}
use Rattle.bindings.proofs.Leaves.{fits-as, fits-rest}
use Rattle.bindings.proofs.Epic.{seq-none}
use Rattle.bindings.proofs.Bodies.{blocks-more, cases-list, cases-more, case-list, stmt-if, stmt-then, stmt-branch, stmt-match, stmts-more}
use Rattle.bindings.proofs.BindingsChecker.+stmts.Goals as goal

pub walk_match_case-walk_stmt_block-requires : goal.walk_match_case-walk_stmt_block-requires
walk_match_case-walk_stmt_block-requires t c = let o = case-list _ _ c.requires.is c.match_case.ensures.list in (let l = o.low in omega arith, record { run = o.run; fits = fits-rest _ o.same c.requires.fits c.check_match_case_pattern.ensures })

pub walk_match_case-returns : goal.walk_match_case-returns
walk_match_case-returns t c = let o = case-list _ _ c.requires.is c.match_case.ensures.list in appends-as (sym o.same) (appends-next c.check_match_case_pattern.ensures c.walk_stmt_block.ensures)

pub walk_stmt-check_then_atom-requires : goal.walk_stmt-check_then_atom-requires
walk_stmt-check_then_atom-requires t c = let s = stmt-is _ c.requires.is c.stmt.ensures c.in-Then.is in let o = stmt-then _ _ c.requires.is s.number s.child c.then_stmt.ensures in record { is = o.is; fits = fits-as _ o.same c.requires.fits }

pub walk_stmt-walk_branch-requires : goal.walk_stmt-walk_branch-requires
walk_stmt-walk_branch-requires t c = let s = stmt-is _ c.requires.is c.stmt.ensures c.in-Branch.is in let o = stmt-branch _ _ c.requires.is s.number s.child in (let l = o.low in omega arith, record { is = o.is; fits = fits-as _ o.same c.requires.fits })

pub walk_stmt-walk_match-requires : goal.walk_stmt-walk_match-requires
walk_stmt-walk_match-requires t c = let s = stmt-is _ c.requires.is c.stmt.ensures c.in-Match.is in let o = stmt-match _ _ c.requires.is s.number s.child in (let l = o.low in omega arith, record { is = o.is; fits = fits-as _ o.same c.requires.fits })

pub walk_stmt-returns-in-If : goal.walk_stmt-returns-in-If
walk_stmt-returns-in-If t c = let s = stmt-is _ c.requires.is c.stmt.ensures c.in-If.is in appends-no _ (stmt-if _ _ c.requires.is s.number)

pub walk_stmt-returns-in-Then : goal.walk_stmt-returns-in-Then
walk_stmt-returns-in-Then t c = let s = stmt-is _ c.requires.is c.stmt.ensures c.in-Then.is in let o = stmt-then _ _ c.requires.is s.number s.child c.then_stmt.ensures in appends-as (sym o.same) c.check_then_atom.ensures

pub walk_stmt-returns-in-Branch : goal.walk_stmt-returns-in-Branch
walk_stmt-returns-in-Branch t c = let s = stmt-is _ c.requires.is c.stmt.ensures c.in-Branch.is in let o = stmt-branch _ _ c.requires.is s.number s.child in appends-as (sym o.same) c.walk_branch.ensures

pub walk_stmt-returns-in-Match : goal.walk_stmt-returns-in-Match
walk_stmt-returns-in-Match t c = let s = stmt-is _ c.requires.is c.stmt.ensures c.in-Match.is in let o = stmt-match _ _ c.requires.is s.number s.child in appends-as (sym o.same) c.walk_match.ensures

pub walk_branch-of-block-items-requires : goal.walk_branch-of-block-items-requires
walk_branch-of-block-items-requires t c = blocks-short c.requires.is c.branch_stmt.ensures

pub walk_branch-loop-block-init : goal.walk_branch-loop-block-init
walk_branch-loop-block-init t c =
    let o = blocks-begun c.into_iter-block-iterator.ensures.into_iter_gives c.requires.is c.branch_stmt.ensures c.of-block-items.ensures in
    (o.within, left-start _ (branch-inside _ _ false c.requires.is ∙ ap (seen rows_seq c.args.self.now.scopes false c.args.id.0.0) o.trees) c.requires.fits)

pub walk_branch-walk_stmt_block-requires : goal.walk_branch-walk_stmt_block-requires
walk_branch-walk_stmt_block-requires t c =
    let o = block-taken c.loop-block.invariant.0 c.in-Some.ensures.steps.0 c.in-Some.ensures.steps.1 in
    (let m = o.node in omega arith, record { run = o.run; fits = left-room _ _ c.loop-block.invariant.1 (blocks-more _ _ _ o.node o.trees) })

pub walk_branch-loop-block-preserved : goal.walk_branch-loop-block-preserved
walk_branch-loop-block-preserved t c =
    let o = block-taken c.loop-block.invariant.0 c.in-Some.ensures.steps.0 c.in-Some.ensures.steps.1 in
    (o.rest, left-next c.loop-block.invariant.1 (blocks-more _ _ _ o.node o.trees) c.walk_stmt_block.ensures)

pub walk_branch-returns : goal.walk_branch-returns
walk_branch-returns t c = left_end c.loop-block.invariant.1 (seq-none _ _ false _ (no-block-left c.loop-block.block-iterator c.in-None.ensures.steps))

pub walk_match-of-case-items-requires : goal.walk_match-of-case-items-requires
walk_match-of-case-items-requires t c = row-short _ c.match_stmt.ensures.list (cases-list _ (table_in c.args.self.now.scopes) c.requires.is).0

pub walk_match-loop-case-init : goal.walk_match-loop-case-init
walk_match-loop-case-init t c =
    let r = cases-list _ (table_in c.args.self.now.scopes) c.requires.is in
    let o = begun-row c.into_iter-case-iterator.ensures.into_iter_gives c.match_stmt.ensures.list r.0 c.of-case-items.ensures in
    (o.within, left-start _ (r.1 ∙ ap (seen rows_seq c.args.self.now.scopes false c.args.id.0.0) o.trees) c.requires.fits)

pub walk_match-walk_match_case-requires : goal.walk_match-walk_match_case-requires
walk_match-walk_match_case-requires t c =
    let o = taken c.loop-case.invariant.0 c.in-Some.ensures.steps.0 c.in-Some.ensures.steps.1 in
    (let l = o.low in omega arith, record { is = o.is; fits = left-room _ _ c.loop-case.invariant.1 (cases-more _ _ _ _ o.is o.trees) })

pub walk_match-loop-case-preserved : goal.walk_match-loop-case-preserved
walk_match-loop-case-preserved t c =
    let o = taken c.loop-case.invariant.0 c.in-Some.ensures.steps.0 c.in-Some.ensures.steps.1 in
    (o.rest, left-next c.loop-case.invariant.1 (cases-more _ _ _ _ o.is o.trees) c.walk_match_case.ensures)

pub walk_match-returns : goal.walk_match-returns
walk_match-returns t c = left_end c.loop-case.invariant.1 (seq-none _ _ false _ (none-left c.loop-case.case-iterator c.in-None.ensures.steps))

pub walk_stmt_block-loop-stmt-init : goal.walk_stmt_block-loop-stmt-init
walk_stmt_block-loop-stmt-init t c =
    let o = begun c.into_iter-stmt-iterator.ensures.into_iter_gives refl c.requires.run c.of-stmt-items.ensures in
    (o.within, left-start _ (ap (seen rows_seq c.args.self.now.scopes false c.args.stmts.list.node.0) o.trees) c.requires.fits)

pub walk_stmt_block-walk_stmt-requires : goal.walk_stmt_block-walk_stmt-requires
walk_stmt_block-walk_stmt-requires t c =
    let o = taken c.loop-stmt.invariant.0 c.in-Some.ensures.steps.0 c.in-Some.ensures.steps.1 in
    (let l = o.low in omega arith, record { is = o.is; fits = left-room _ _ c.loop-stmt.invariant.1 (stmts-more _ _ _ _ o.is o.kind o.trees) })

pub walk_stmt_block-loop-stmt-preserved : goal.walk_stmt_block-loop-stmt-preserved
walk_stmt_block-loop-stmt-preserved t c =
    let o = taken c.loop-stmt.invariant.0 c.in-Some.ensures.steps.0 c.in-Some.ensures.steps.1 in
    (o.rest, left-next c.loop-stmt.invariant.1 (stmts-more _ _ _ _ o.is o.kind o.trees) c.walk_stmt.ensures)

pub walk_stmt_block-returns : goal.walk_stmt_block-returns
walk_stmt_block-returns t c = left_end c.loop-stmt.invariant.1 (seq-none _ _ false _ (none-left c.loop-stmt.stmt-iterator c.in-None.ensures.steps))
