-- The answer fits its fields, and the call leaves what its definition says.
use mathlib.Core.Path.{sym, ap, subst, ◌∙◌}
use Rattle.ast.specs.Answer.{Fits}
use Rattle.index.specs.Index.{Outcome}
use Rattle.index.proofs.Fitting.{index-fits}
use Rattle.exports.specs.Packed.{packed}
use Rattle.exports.proofs.eqlog_index.Goals as goal

pub pack_indexed-requires : goal.pack_indexed-requires
pack_indexed-requires c = subst Fits (ap (λ (o : Outcome). o.answer) c.index.ensures) (index-fits _ _ _)

pub returns : goal.returns
returns c =
    record {
      packs = record { number = c.pack_indexed.ensures ∙ sym (ap (λ (o : Outcome). packed o.answer) c.index.ensures); fits = index-fits _ _ _ };
      index_is = sym (ap (λ (o : Outcome). o.index) c.index.ensures);
    }
