-- The rows from the one before which the loop stands stand in their chains.
use Rattle.index.proofs.Filling.{Chained}
use Rattle.index.proofs.fill.Given as goal

abbrev pub invariant-loop-row : goal.invariant-loop-row
invariant-loop-row l = Chained l.image l.table l.row l.words
