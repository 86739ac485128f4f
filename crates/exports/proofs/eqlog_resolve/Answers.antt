-- The answer fits its fields, and the call leaves what its definition says.
use mathlib.Core.Path.{sym, ap, subst, ◌∙◌}
use Rattle.ast.specs.Answer.{Fits}
use Rattle.exports.specs.Packed.{packed}
use Rattle.scopes.proofs.Fitting.{resolve-fits}
use Rattle.exports.proofs.eqlog_resolve.Goals as goal

pub pack_resolved-requires : goal.pack_resolved-requires
pack_resolved-requires c = subst Fits (sym c.resolve_scopes.ensures.0) (resolve-fits _ _)

pub returns : goal.returns
returns c =
    record {
      packs = record { number = c.pack_resolved.ensures ∙ ap packed c.resolve_scopes.ensures.0; fits = resolve-fits _ _ };
      table_is = c.resolve_scopes.ensures.1;
    }
