-- The answer fits its fields, and the call leaves what its definition says.
use mathlib.Core.Path.{ap, subst}
use Rattle.scopes.specs.Calls.{RowsOutcome}
use Rattle.ast.specs.Answer.{Fits}
use Rattle.sorted.proofs.Fitting.{sorted-fits}
use Rattle.exports.proofs.Packing.{leaves-rows}
use Rattle.exports.proofs.eqlog_sorted.Goals as goal

pub pack_rowed-requires : goal.pack_rowed-requires
pack_rowed-requires c = subst Fits (ap (λ (o : RowsOutcome). o.answer) c.sorted.ensures) (sorted-fits _ _ _ _)

pub returns : goal.returns
returns c = leaves-rows c.sorted.ensures (sorted-fits _ _ _ _) c.pack_rowed.ensures
