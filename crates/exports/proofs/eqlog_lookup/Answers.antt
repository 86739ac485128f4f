-- The answer fits its fields, and the packed number is that of the answer.
use mathlib.Core.Path.{sym, ap, subst, ◌∙◌}
use Rattle.ast.specs.Answer.{Fits}
use Rattle.exports.specs.Packed.{packed}
use Rattle.scopes.proofs.Fitting.{lookup-fits}
use Rattle.exports.proofs.eqlog_lookup.Goals as goal

pub pack_looked-requires : goal.pack_looked-requires
pack_looked-requires c = subst Fits (sym c.lookup.ensures) (lookup-fits _ _ _ _)

pub returns : goal.returns
returns c = record { number = c.pack_looked.ensures ∙ ap packed c.lookup.ensures; fits = lookup-fits _ _ _ _ }
