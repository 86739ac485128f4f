use mathlib.Core.Path.{refl, sym, ap, subst, ◌∙◌}
use native.Mathlib.Omega.{arith}
use Rattle.ast.specs.Kinds.{kind_of}
use Rattle.typed.proofs.Enums.{stmt-is}
use Rattle.typed.proofs.Lists.{begun, begun-row, taken, none-left, row-short, blocks-short, blocks-begun, block-taken, no-block-left}
use Rattle.environment.proofs.Asking.{loud_fields}
use Rattle.environment.proofs.Steps.{keeps_same, keeps-then}
use Rattle.ordered.specs.Walk.{occurs, walk_seq}
use Rattle.ordered.specs.Promises.{ReadyRun}
use Rattle.ordered.proofs.Atoms.{plain-wrapped}
use Rattle.ordered.proofs.Steps.{one}
use Rattle.ordered.proofs.Lists.{rest-start, inside_room, left-start, left-next, left-end, item-ready, block-ready}
use Rattle.ordered.proofs.Idents.{one-ends}
use Rattle.ordered.proofs.Ends.{ends_as, plain-ends, block-ends, case-ends, block-path, case-path}
use Rattle.ordered.proofs.Stmts.{match_case, match_of, branch-inner, blocks-room}
use Rattle.ordered.proofs.+stmts.Goals as goal

pub walk_blocks-of-block-items-requires : goal.walk_blocks-of-block-items-requires
walk_blocks-of-block-items-requires t c = blocks-short c.requires.0.is c.branch_stmt.ensures

pub walk_blocks-loop-block-init : goal.walk_blocks-loop-block-init
walk_blocks-loop-block-init t c =
    let o = blocks-begun c.into_iter-block-iterator.ensures.into_iter_gives c.requires.0.is c.branch_stmt.ensures c.of-block-items.ensures in
    (o.within, left-start refl o.trees c.requires.1 (keeps_same _))

pub walk_blocks-walk_stmt_block-end-requires : goal.walk_blocks-walk_stmt_block-end-requires
unfolding kind_of
walk_blocks-walk_stmt_block-end-requires t c =
    let w = c.loop-block.invariant in
    let o = block-taken w.0 c.in-Some.ensures.steps.0 c.in-Some.ensures.steps.1 in
    (let m = o.node in omega arith, rw w.1.keeps.image (block-ready o w.1 (blocks-room _ c.requires.0), w.1.stands))

pub walk_blocks-put_back-cur-requires : goal.walk_blocks-put_back-cur-requires
unfolding kind_of
walk_blocks-put_back-cur-requires t c =
    let w = c.loop-block.invariant in
    let o = block-taken w.0 c.in-Some.ensures.steps.0 c.in-Some.ensures.steps.1 in
    let e = rw w.1.keeps.image at c.walk_stmt_block-end.ensures.walk in
    rw (c.walk_stmt_block-end.ensures.keeps.image, w.1.keeps.image) (e.stands, block-path _ (block-ready o w.1 (blocks-room _ c.requires.0)) w.1.stands e)

pub walk_blocks-loop-block-preserved : goal.walk_blocks-loop-block-preserved
walk_blocks-loop-block-preserved t c =
    let w = c.loop-block.invariant in
    let o = block-taken w.0 c.in-Some.ensures.steps.0 c.in-Some.ensures.steps.1 in
    let e = rw w.1.keeps.image at c.walk_stmt_block-end.ensures.walk in
    let b = rw (c.walk_stmt_block-end.ensures.keeps.image, w.1.keeps.image) at c.put_back-cur.ensures in
    (o.rest, left-next o.trees w.1 (keeps-then c.walk_stmt_block-end.ensures.keeps c.put_back-cur.ensures.keeps) (block-ends _ _ _ e b.walk b.stands))

pub walk_blocks-returns-clause-walk : goal.walk_blocks-returns-clause-walk
walk_blocks-returns-clause-walk t c = left-end (no-block-left c.loop-block.block-iterator c.in-None.ensures.steps) c.loop-block.invariant.1

pub walk_branch-walk_blocks-exit-requires : goal.walk_branch-walk_blocks-exit-requires
walk_branch-walk_blocks-exit-requires t c = (omega arith, c.requires)

pub walk_branch-returns-clause-walk : goal.walk_branch-returns-clause-walk
unfolding kind_of loud_fields
walk_branch-returns-clause-walk t c = plain-ends _ refl c.requires.0 (ends_as _ (branch-inner _ _ c.requires.0.is) c.walk_blocks-exit.ensures.walk) (cc) c.leave.ensures.env

pub walk_match-walk_term-after_term-requires : goal.walk_match-walk_term-after_term-requires
walk_match-walk_term-after_term-requires t c = ((match_of _ c.requires.0 c.match_stmt.ensures.first).first, c.requires.1)

pub walk_match_case-walk_term-after_pattern-requires : goal.walk_match_case-walk_term-after_pattern-requires
walk_match_case-walk_term-after_pattern-requires t c = ((match_case _ c.requires.0 c.match_case.ensures).first, c.requires.1)

pub walk_match_case-walk_stmt_block-end-requires : goal.walk_match_case-walk_stmt_block-end-requires
walk_match_case-walk_stmt_block-end-requires t c = (let l = c.match_case.ensures.list.node in omega arith, rw c.walk_term-after_pattern.ensures.keeps.image (subst (ReadyRun _ 36 _ _ _) (sym c.walk_term-after_pattern.ensures.walk.same) (match_case _ c.requires.0 c.match_case.ensures).second, c.walk_term-after_pattern.ensures.walk.stands))

pub walk_match_case-put_back-exit-requires : goal.walk_match_case-put_back-exit-requires
walk_match_case-put_back-exit-requires t c =
    let w = rw c.walk_term-after_pattern.ensures.keeps.image at c.walk_stmt_block-end.ensures.walk in
    rw (c.walk_stmt_block-end.ensures.keeps.image, c.walk_term-after_pattern.ensures.keeps.image) (w.stands, case-path _ c.requires.0 c.match_case.ensures c.requires.1 c.walk_term-after_pattern.ensures.walk w)

pub walk_match_case-returns-clause-walk : goal.walk_match_case-returns-clause-walk
walk_match_case-returns-clause-walk t c =
    let b = rw (c.walk_stmt_block-end.ensures.keeps.image, c.walk_term-after_pattern.ensures.keeps.image) at c.put_back-exit.ensures in
    case-ends _ c.requires.0 c.match_case.ensures c.walk_term-after_pattern.ensures.walk (rw c.walk_term-after_pattern.ensures.keeps.image at c.walk_stmt_block-end.ensures.walk) b.walk b.stands (cc) c.leave.ensures.env

pub walk_stmt_block-loop-stmt-init : goal.walk_stmt_block-loop-stmt-init
walk_stmt_block-loop-stmt-init t c =
    let o = begun c.into_iter-stmt-iterator.ensures.into_iter_gives refl c.requires.0.run c.of-stmt-items.ensures in
    (o.within, left-start (sym (rest-start _ _ _ _ _ _)) o.trees c.requires.1 (keeps_same _))

pub walk_stmt_block-walk_stmt-cur-requires : goal.walk_stmt_block-walk_stmt-cur-requires
walk_stmt_block-walk_stmt-cur-requires t c =
    let w = c.loop-stmt.invariant in
    let o = taken w.0 c.in-Some.ensures.steps.0 c.in-Some.ensures.steps.1 in
    (let l = o.low in omega arith, rw w.1.keeps.image (item-ready o w.1 c.requires.0.room, w.1.stands))

pub walk_stmt_block-loop-stmt-preserved : goal.walk_stmt_block-loop-stmt-preserved
walk_stmt_block-loop-stmt-preserved t c =
    let w = c.loop-stmt.invariant in
    let o = taken w.0 c.in-Some.ensures.steps.0 c.in-Some.ensures.steps.1 in
    (o.rest, left-next o.trees w.1 c.walk_stmt-cur.ensures.keeps (rw w.1.keeps.image at c.walk_stmt-cur.ensures.walk))

pub walk_stmt_block-returns-clause-walk : goal.walk_stmt_block-returns-clause-walk
walk_stmt_block-returns-clause-walk t c = left-end (none-left c.loop-stmt.stmt-iterator c.in-None.ensures.steps) c.loop-stmt.invariant.1

pub walk_stmt-walk_stmt_case-exit-requires : goal.walk_stmt-walk_stmt_case-exit-requires
walk_stmt-walk_stmt_case-exit-requires t c = (omega arith, c.requires)

pub walk_stmt-returns-clause-walk : goal.walk_stmt-returns-clause-walk
unfolding kind_of loud_fields
walk_stmt-returns-clause-walk t c = plain-ends _ refl c.requires.0 c.walk_stmt_case-exit.ensures.walk (cc) c.leave.ensures.env

pub walk_stmt_case-walk_if_atom-after_if-requires : goal.walk_stmt_case-walk_if_atom-after_if-requires
unfolding kind_of
walk_stmt_case-walk_if_atom-after_if-requires t c =
    let o = plain-wrapped _ c.requires.0 (stmt-is _ c.requires.0.is c.stmt.ensures c.in-If.is) refl in
    ((one _ o.ready c.if_stmt.ensures).first, c.requires.1)

pub walk_stmt_case-walk_then_atom-after_then-requires : goal.walk_stmt_case-walk_then_atom-after_then-requires
unfolding kind_of
walk_stmt_case-walk_then_atom-after_then-requires t c =
    let o = plain-wrapped _ c.requires.0 (stmt-is _ c.requires.0.is c.stmt.ensures c.in-Then.is) refl in
    ((one _ o.ready c.then_stmt.ensures).first, c.requires.1)

pub walk_stmt_case-walk_branch-requires : goal.walk_stmt_case-walk_branch-requires
unfolding kind_of
walk_stmt_case-walk_branch-requires t c =
    let o = plain-wrapped _ c.requires.0 (stmt-is _ c.requires.0.is c.stmt.ensures c.in-Branch.is) refl in
    (let l = o.low in omega arith, (o.ready, c.requires.1))

pub walk_stmt_case-walk_match-requires : goal.walk_stmt_case-walk_match-requires
unfolding kind_of
walk_stmt_case-walk_match-requires t c =
    let o = plain-wrapped _ c.requires.0 (stmt-is _ c.requires.0.is c.stmt.ensures c.in-Match.is) refl in
    (let l = o.low in omega arith, (o.ready, c.requires.1))

pub walk_stmt_case-returns-in-If-clause-walk : goal.walk_stmt_case-returns-in-If-clause-walk
unfolding kind_of
walk_stmt_case-returns-in-If-clause-walk t c =
    let o = plain-wrapped _ c.requires.0 (stmt-is _ c.requires.0.is c.stmt.ensures c.in-If.is) refl in
    ends_as _ o.inner (one-ends _ o.ready c.if_stmt.ensures c.walk_if_atom-after_if.ensures.walk (cc) c.leave.ensures.env)

pub walk_stmt_case-returns-in-Then-clause-walk : goal.walk_stmt_case-returns-in-Then-clause-walk
unfolding kind_of
walk_stmt_case-returns-in-Then-clause-walk t c =
    let o = plain-wrapped _ c.requires.0 (stmt-is _ c.requires.0.is c.stmt.ensures c.in-Then.is) refl in
    ends_as _ o.inner (one-ends _ o.ready c.then_stmt.ensures c.walk_then_atom-after_then.ensures.walk (cc) c.leave-in-Then.ensures.env)

pub walk_stmt_case-returns-in-Branch-clause-walk : goal.walk_stmt_case-returns-in-Branch-clause-walk
unfolding kind_of
walk_stmt_case-returns-in-Branch-clause-walk t c =
    let o = plain-wrapped _ c.requires.0 (stmt-is _ c.requires.0.is c.stmt.ensures c.in-Branch.is) refl in
    ends_as _ o.inner c.walk_branch.ensures.walk

pub walk_stmt_case-returns-in-Match-clause-walk : goal.walk_stmt_case-returns-in-Match-clause-walk
unfolding kind_of
walk_stmt_case-returns-in-Match-clause-walk t c =
    let o = plain-wrapped _ c.requires.0 (stmt-is _ c.requires.0.is c.stmt.ensures c.in-Match.is) refl in
    ends_as _ o.inner c.walk_match.ensures.walk

pub walk_match-of-case-items-requires : goal.walk_match-of-case-items-requires
walk_match-of-case-items-requires t c = row-short _ c.match_stmt.ensures.list (match_of _ c.requires.0 c.match_stmt.ensures.first).run

pub walk_match-loop-case-init : goal.walk_match-loop-case-init
walk_match-loop-case-init t c =
    let p = match_of _ c.requires.0 c.match_stmt.ensures.first in
    let a = c.walk_term-after_term.ensures in
    let o = begun-row c.into_iter-case-iterator.ensures.into_iter_gives c.match_stmt.ensures.list p.run (rw a.keeps.image at c.of-case-items.ensures) in
    (o.within, left-start (p.inner ∙ ap (walk_seq _ occurs _) (sym a.walk.same)) o.trees a.walk.stands a.keeps)

pub walk_match-walk_match_case-cur-requires : goal.walk_match-walk_match_case-cur-requires
unfolding kind_of
walk_match-walk_match_case-cur-requires t c =
    let w = c.loop-case.invariant in
    let o = taken w.0 c.in-Some.ensures.steps.0 c.in-Some.ensures.steps.1 in
    (let l = o.low in omega arith, rw w.1.keeps.image (item-ready o w.1 (inside_room _ c.requires.0), w.1.stands))

pub walk_match-loop-case-preserved : goal.walk_match-loop-case-preserved
walk_match-loop-case-preserved t c =
    let w = c.loop-case.invariant in
    let o = taken w.0 c.in-Some.ensures.steps.0 c.in-Some.ensures.steps.1 in
    (o.rest, left-next o.trees w.1 c.walk_match_case-cur.ensures.keeps (rw w.1.keeps.image at c.walk_match_case-cur.ensures.walk))

pub walk_match-returns-clause-walk : goal.walk_match-returns-clause-walk
unfolding kind_of loud_fields
walk_match-returns-clause-walk t c =
    plain-ends _ refl c.requires.0 (left-end (none-left c.loop-case.case-iterator c.in-None.ensures.steps) c.loop-case.invariant.1) (cc) c.leave.ensures.env
