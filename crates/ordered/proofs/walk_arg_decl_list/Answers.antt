use mathlib.Core.Path.{refl}
use Rattle.ast.specs.Kinds.{kind_of}
use Rattle.typed.proofs.Lists.{begun-row, taken, none-left, row-short}
use Rattle.environment.proofs.Asking.{loud_fields}
use Rattle.environment.proofs.Steps.{keeps_same}
use Rattle.ordered.proofs.Lists.{inside_room, list_of, left-start, left-next, left-end, item-ready}
use Rattle.ordered.proofs.Ends.{plain-ends}
use Rattle.ordered.proofs.walk_arg_decl_list.Goals as goal

pub of-arg-items-requires : goal.of-arg-items-requires
unfolding kind_of
of-arg-items-requires c = row-short _ c.arg_decl_list.ensures (list_of _ c.requires.0).run

pub loop-arg-init : goal.loop-arg-init
unfolding kind_of
loop-arg-init c =
    let p = list_of _ c.requires.0 in
    let o = begun-row c.into_iter-arg-iterator.ensures.into_iter_gives c.arg_decl_list.ensures p.run c.of-arg-items.ensures in
    (o.within, left-start p.inner o.trees c.requires.1 (keeps_same _))

pub walk_arg_decl-cur-requires : goal.walk_arg_decl-cur-requires
unfolding kind_of
walk_arg_decl-cur-requires c =
    let w = c.loop-arg.invariant in
    let o = taken w.0 c.in-Some.ensures.steps.0 c.in-Some.ensures.steps.1 in
    rw w.1.keeps.image (item-ready o w.1 (inside_room _ c.requires.0), w.1.stands)

pub loop-arg-preserved : goal.loop-arg-preserved
loop-arg-preserved c =
    let w = c.loop-arg.invariant in
    let o = taken w.0 c.in-Some.ensures.steps.0 c.in-Some.ensures.steps.1 in
    (o.rest, left-next o.trees w.1 c.walk_arg_decl-cur.ensures.keeps (rw w.1.keeps.image at c.walk_arg_decl-cur.ensures.walk))

pub returns-clause-walk : goal.returns-clause-walk
unfolding kind_of loud_fields
returns-clause-walk c =
    plain-ends _ refl c.requires.0 (left-end (none-left c.loop-arg.arg-iterator c.in-None.ensures.steps) c.loop-arg.invariant.1) (cc) c.leave.ensures.env
