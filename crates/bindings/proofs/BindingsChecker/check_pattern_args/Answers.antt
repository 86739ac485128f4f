use mathlib.Core.Path.{ap, ◌∙◌}
use Rattle.typed.proofs.Lists.{begun-row, taken, none-left, row-short}
use Rattle.environment.specs.Reading.{table_in}
use Rattle.rows.proofs.Parts.{left-start, left-next, left_end, left-room}
use Rattle.bindings.specs.Errors.{arg_rows}
use Rattle.environment.specs.Reading.{seen}
use Rattle.bindings.proofs.Bodies.{args-list, args-more, args-none}
use Rattle.bindings.proofs.BindingsChecker.check_pattern_args.Goals as goal

pub of-arg-items-requires : goal.of-arg-items-requires
of-arg-items-requires c = row-short _ c.term_list.ensures (args-list _ (table_in c.args.self.now.scopes) c.requires.is).0

pub loop-arg-init : goal.loop-arg-init
loop-arg-init c =
    let r = args-list _ (table_in c.args.self.now.scopes) c.requires.is in
    let o = begun-row c.into_iter-arg-iterator.ensures.into_iter_gives c.term_list.ensures r.0 c.of-arg-items.ensures in
    (o.within, left-start _ (r.1 ∙ ap (seen arg_rows c.args.self.now.scopes) o.trees) c.requires.fits)

pub check_pattern_arg-requires : goal.check_pattern_arg-requires
check_pattern_arg-requires c =
    let o = taken c.loop-arg.invariant.0 c.in-Some.ensures.steps.0 c.in-Some.ensures.steps.1 in
    record { is = o.is; fits = left-room _ _ c.loop-arg.invariant.1 (args-more _ _ _ o.trees) }

pub loop-arg-preserved : goal.loop-arg-preserved
loop-arg-preserved c =
    let o = taken c.loop-arg.invariant.0 c.in-Some.ensures.steps.0 c.in-Some.ensures.steps.1 in
    (o.rest, left-next c.loop-arg.invariant.1 (args-more _ _ _ o.trees) c.check_pattern_arg.ensures)

pub returns : goal.returns
returns c = left_end c.loop-arg.invariant.1 (args-none _ _ (none-left c.loop-arg.arg-iterator c.in-None.ensures.steps))
