-- The answer fits its fields, and the call leaves what its definition says.
use mathlib.Core.Path.{ap, subst}
use Rattle.ast.specs.Answer.{Fits}
use Rattle.rename.specs.Rename.{Outcome}
use Rattle.rename.proofs.Fitting.{rename-fits}
use Rattle.exports.proofs.Packing.{leaves-output}
use Rattle.exports.proofs.eqlog_rename.Goals as goal

pub pack_rowed-requires : goal.pack_rowed-requires
pack_rowed-requires c = subst Fits (ap (λ (o : Outcome). o.answer) c.rename.ensures) (rename-fits _ _ _ _ _ _)

pub returns : goal.returns
returns c = leaves-output c.rename.ensures (rename-fits _ _ _ _ _ _) c.pack_rowed.ensures
