use Rattle.typed.proofs.Lists.{begun-row, taken, row-short}
use Rattle.bindings.proofs.Marking.{arguments, list-start, list-begin, list-next, list_done, list-passed, node-low, args-none}
use Rattle.bindings.proofs.BindingsChecker.mark_list.Goals as goal

pub of-arg-items-requires : goal.of-arg-items-requires
of-arg-items-requires c = row-short _ c.arg_decl_list.ensures (arguments _ c.args.self.now.accepted c.requires.0 c.requires.1)

pub loop-arg-init : goal.loop-arg-init
loop-arg-init c =
    let r = arguments _ c.args.self.now.accepted c.requires.0 c.requires.1 in
    let o = begun-row c.into_iter-arg-iterator.ensures.into_iter_gives c.arg_decl_list.ensures r c.of-arg-items.ensures in
    (o.within, list-begin _ c.requires.2 (list-start _ c.into_iter-arg-iterator.ensures.into_iter_gives c.requires.1 c.arg_decl_list.ensures c.of-arg-items.ensures _))

pub mark_argument-requires : goal.mark_argument-requires
mark_argument-requires c =
    ((taken c.loop-arg.invariant.0 c.in-Some.ensures.steps.0 c.in-Some.ensures.steps.1).is, node-low _ c.args.self.now.accepted c.requires.0)

pub loop-arg-preserved : goal.loop-arg-preserved
loop-arg-preserved c =
    let o = taken c.loop-arg.invariant.0 c.in-Some.ensures.steps.0 c.in-Some.ensures.steps.1 in
    (o.rest, list-next _ c.loop-arg.invariant.1 c.in-Some.ensures.steps.0 c.in-Some.ensures.steps.1 c.mark_argument.ensures)

pub returns : goal.returns
returns c =
    record { marks = list_done _ c.loop-arg.arg-iterator c.loop-arg.invariant.1 (args-none c.loop-arg.arg-iterator c.in-None.ensures.steps); stamps = list-passed _ c.loop-arg.invariant.1 }
