use mathlib.Core.Path.{ap, ◌∙◌}
use Prim.Native.Nat.{ℕ}
use Rattle.rows.specs.Rows.{pairs_left}
use Rattle.rename.specs.Rename.{set_word, name_offset}
use Rattle.rename.proofs.RowLists.{put-start, put-own, put-other, put-end}
use Rattle.rename.proofs.put_names.Goals as goal

pub loop-node-init : goal.loop-node-init
loop-node-init c = put-start _ _ _ _ _ (ap pairs_left c.into_iter-node-iterator.ensures.into_iter_gives ∙ c.pairs-node-items.ensures)

pub loop-node-preserved-then-found-binding : goal.loop-node-preserved-then-found-binding
loop-node-preserved-then-found-binding c =
    put-own _ _ _ _ _ c.loop-node.invariant c.in-Some.ensures.steps c.if-found-binding.true
    (c.put_word.ensures ∙ ap (λ (o : ℕ). set_word c.loop-node.new o c.args.name) (c.name_offset.ensures.is ∙ ap (name_offset c.args.image.now) c.ident_of.ensures))

pub loop-node-preserved : goal.loop-node-preserved
loop-node-preserved c = put-other _ _ _ _ _ c.loop-node.invariant c.in-Some.ensures.steps c.if-found-binding.false

pub returns : goal.returns
returns c = put-end _ _ _ _ _ c.loop-node.invariant c.in-None.ensures.steps.0
