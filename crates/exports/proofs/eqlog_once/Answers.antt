-- The answer fits its fields, and the call leaves what its definition says.
use mathlib.Core.Path.{ap, subst}
use Rattle.scopes.specs.Resolve.{Outcome}
use Rattle.ast.specs.Answer.{Fits}
use Rattle.occurrences.proofs.Fitting.{once-fits}
use Rattle.exports.proofs.Packing.{leaves}
use Rattle.exports.proofs.eqlog_once.Goals as goal

pub pack_once-requires : goal.pack_once-requires
pack_once-requires c = subst Fits (ap (λ (o : Outcome). o.answer) c.check_occurrences.ensures) (once-fits _ _)

pub returns : goal.returns
returns c = leaves c.check_occurrences.ensures (once-fits _ _) c.pack_once.ensures
