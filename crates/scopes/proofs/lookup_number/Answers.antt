use mathlib.Core.Path.{sym, ap, ◌∙◌}
use Rattle.std.specs.Prelude.{Option, Ok}
use Rattle.scopes.specs.Answers.{looked_answer}
use Rattle.scopes.specs.declared.Looked.{Looked}
use Rattle.scopes.proofs.Lookups.{answer_none, climbed-by, climbed-declares}
use Rattle.scopes.proofs.lookup_number.Goals as goal

pub returns-in_err-found : goal.returns-in_err-found
returns-in_err-found c =
    ap (λ (o : Option Looked). looked_answer (Ok o)) c.from_residual.ensures ∙ answer_none _ ∙ climbed-by _ _ _ _ _ _ c.get-symbols.ensures c.in_err-found.ensures

pub looked_up-requires : goal.looked_up-requires
looked_up-requires c = climbed-declares _ _ _ (sym c.requires) _ _ c.get-symbols.ensures c.in_ok-found.ensures

pub returns : goal.returns
returns c = c.looked_up.ensures ∙ climbed-by _ _ _ _ _ _ c.get-symbols.ensures c.in_ok-found.ensures
