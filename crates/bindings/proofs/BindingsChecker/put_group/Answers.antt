use mathlib.Core.Path.{sym, ap, subst, ◌∙◌}
use Prim.Native.Nat.{ℕ, ◌≤◌, ◌+◌, ◌*◌}
use Rattle.std.specs.Prelude.{min}
use Rattle.std.proofs.Math.Nat.{min-le_right}
use Rattle.rows.proofs.Parts.{left-next, left-room, left_end, appends-as, appends-no}
use Rattle.rows.specs.Rows.{Appends}
use Rattle.bindings.proofs.Leaves.{when_true, when_false, fits-as}
use Rattle.bindings.proofs.Marking.{strict-item, strict-end, node-low, group_end}
use Rattle.bindings.proofs.BindingsChecker.put_group.Goals.{then-is_marked, else-is_marked}
use Rattle.bindings.proofs.BindingsChecker.put_group.Goals as goal

pub is_marked-requires : goal.is_marked-requires
is_marked-requires c = node-low _ c.args.self.now.accepted (group_end _ c.args.group c.min-end.ensures c.node_count.ensures c.loop-m-test.true).1

pub report-requires : goal.report-requires
report-requires c =
    let e = group_end _ c.args.group c.min-end.ensures c.node_count.ensures c.loop-m-test.true in
    fits-as _ (when_true _ c.if-is_marked.true) (left-room _ _ c.loop-m.invariant (strict-item _ c.args.self.now.accepted c.requires.0 _ c.loop-m.m (min-le_right _ _) e.0 c.is_marked.ensures))

pub loop-m-preserved : goal.loop-m-preserved
loop-m-preserved c =
    let e = group_end _ c.args.group c.min-end.ensures c.node_count.ensures c.loop-m-test.true in
    let item = strict-item _ c.args.self.now.accepted c.requires.0 _ c.loop-m.m (min-le_right _ _) e.0 c.is_marked.ensures in
    elim c.if-is_marked.branch [
      | then-is_marked w ↦ left-next c.loop-m.invariant item (subst (Appends _ c.loop-m.rows) (sym w.rows-is) (appends-as (sym (when_true _ w.if-is_marked.true)) w.report.ensures))
      | else-is_marked w ↦ left-next c.loop-m.invariant item (subst (Appends _ c.loop-m.rows) (sym w.rows-is) (appends-no _ (when_false _ w.if-is_marked.false)))
    ]

pub returns : goal.returns
returns c = left_end c.loop-m.invariant (strict-end _ _ c.loop-m.m (subst (λ (e : ℕ). e ≤ c.loop-m.m) (c.min-end.ensures ∙ ap (min (c.args.group * 32 + 32)) c.node_count.ensures) c.loop-m-test.false))
