-- The answer fits its fields, and the packed number is that of the answer.
use mathlib.Core.Path.{sym, ap, subst, ◌∙◌}
use Rattle.ast.specs.Answer.{Fits}
use Rattle.exports.specs.Packed.{packed}
use Rattle.index.proofs.Fitting.{indexed-fits}
use Rattle.exports.proofs.eqlog_lookup_indexed.Goals as goal

pub pack_looked-requires : goal.pack_looked-requires
pack_looked-requires c = subst Fits (sym c.lookup_indexed.ensures) (indexed-fits _ _ _ _ _)

pub returns : goal.returns
returns c = record { number = c.pack_looked.ensures ∙ ap packed c.lookup_indexed.ensures; fits = indexed-fits _ _ _ _ _ }
