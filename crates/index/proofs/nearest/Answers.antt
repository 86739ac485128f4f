use mathlib.Core.Path.{refl, ap, ◌∙◌}
use mathlib.Core.Bool.{false}
use Prim.Native.Nat.{◌-◌, ◌<◌}
use native.Mathlib.Omega.{arith}
use lib.ListN.{get_or, length-replicate}
use Rattle.table.specs.Table.{Found}
use Rattle.table.specs.Values.{found_at, found_of}
use Rattle.sound.specs.Sound.{symbols_in}
use Rattle.index.proofs.Along.{At, Best, nearest-begin, nearest-step, nearest-end, asked-low, scope-low}
use Rattle.index.proofs.nearest.Goals as goal
use Rattle.index.proofs.nearest.Goals.{After-get-row-in-loop-row}

pub flag-requires : goal.flag-requires
flag-requires c = (refl, asked-low _ _ _ _ c.requires)

pub loop-row-init : goal.loop-row-init
loop-row-init c = nearest-begin _ _ _ _ c.requires _ c.get-row.ensures

pub better-best-requires : goal.better-best-requires
better-best-requires c =
    let low = scope-low _ _ _ _ c.requires c.loop-row.row c.loop-row.invariant.0 c.loop-row-test.true in
    let at = ap (λ (f : Found). f.scope) c.symbol_at.ensures in
    let long = c.flag.auto.flags in
    omega (arith, length-replicate 2048 false)

-- one row further, for the two goals of the loop
step : (c : After-get-row-in-loop-row)
    → (At c.args.image.now c.args.table.now c.args.scope.0 c.args.name c.get-row-in-loop-row.result
    × Best c.args.image.now c.args.table.now c.args.scope.0 c.args.name c.get-row-in-loop-row.result (found_of c.better-best.result))
    × (symbols_in c.args.image.now c.args.table.now - c.get-row-in-loop-row.result < symbols_in c.args.image.now c.args.table.now - c.loop-row.row)
step c =
    nearest-step _ _ _ _ c.requires c.flag.new.flags c.flag.ensures c.loop-row.row c.loop-row.invariant.0 c.loop-row-test.true _ c.loop-row.invariant.1 (found_at c.symbol_at.result) c.symbol_at.ensures
    (found_of c.better-best.result) c.better-best.ensures c.get-row-in-loop-row.result (c.get-row-in-loop-row.ensures ∙ ap (λ i. get_or c.args.index.now i 0) c.next_place.ensures)

pub loop-row-smaller : goal.loop-row-smaller
loop-row-smaller c = (step (goal.at.loop-row-smaller c).After-get-row-in-loop-row).1

pub loop-row-preserved : goal.loop-row-preserved
loop-row-preserved c = (step (goal.at.loop-row-preserved c).After-get-row-in-loop-row).0

pub returns : goal.returns
returns c = nearest-end _ _ _ _ c.requires _ c.loop-row-test.false _ c.loop-row.invariant.1
