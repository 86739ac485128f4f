use mathlib.Core.Path.{◌≡◌, sym, subst}
use mathlib.Core.List.{List}
use Prim.Native.Nat.{ℕ, ◌+◌, ◌-◌}
use native.Mathlib.Omega.{arith}
use lib.ListN.{length, replicate}
use Rattle.table.specs.Layout.{all_ones}
use Rattle.index.proofs.Filling.{Chained, chained-none, chained-more, chained-all}
use Rattle.index.proofs.fill.Goals as goal

pub loop-row-init : goal.loop-row-init
loop-row-init c =
    subst (λ (ws : List ℕ). Chained c.args.image.now c.args.table.now c.get-row.result ws) (sym (c.fill.ensures.after (λ y e. e)))
    (subst (λ (y : ℕ). Chained c.args.image.now c.args.table.now y (replicate (length c.args.words.now) all_ones)) (sym c.get-row.ensures) (chained-none _ _ c.requires))

pub loop-row-preserved : goal.loop-row-preserved
loop-row-preserved c =
    let one : c.loop-row.row - 1 + 1 ≡ c.loop-row.row = omega arith in
    let low = c.loop-row.auto.row in
    let got = c.get-row.ensures in
    subst (λ (ws : List ℕ). Chained c.args.image.now c.args.table.now (c.loop-row.row - 1) ws) (sym c.put_in_front.ensures)
    (chained-more _ _ c.requires (c.loop-row.row - 1) (omega arith) c.loop-row.words (subst (λ (y : ℕ). Chained c.args.image.now c.args.table.now y c.loop-row.words) (sym one) c.loop-row.invariant))

pub returns : goal.returns
returns c =
    let end : c.loop-row.row ≡ 0 = omega arith in
    chained-all _ _ (subst (λ (y : ℕ). Chained c.args.image.now c.args.table.now y c.loop-row.words) end c.loop-row.invariant)
