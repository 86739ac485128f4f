-- The best of the rows of the name before the one where the code stands, or of all where the chain has ended.
use Rattle.std.proofs.Common.{◌-◌}
use Rattle.table.specs.Values.{found_of}
use Rattle.sound.specs.Sound.{symbols_in}
use Rattle.index.proofs.Along.{At, Best}
use Rattle.index.proofs.nearest.Given as goal

abbrev pub invariant-loop-row : goal.invariant-loop-row
invariant-loop-row l = At l.image l.table l.fn.scope.0 l.name l.row × Best l.image l.table l.fn.scope.0 l.name l.row (found_of l.best)

abbrev pub decreases-loop-row : goal.decreases-loop-row
decreases-loop-row l = symbols_in l.image l.table - l.row
