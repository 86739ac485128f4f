use mathlib.Core.Path.{ap, ◌∙◌}
use Rattle.std.specs.Prelude.{Option, Ok}
use Rattle.scopes.specs.Answers.{looked_answer}
use Rattle.scopes.specs.declared.Looked.{Looked}
use Rattle.scopes.proofs.Lookups.{answer_none, found-by, found-declares}
use Rattle.index.proofs.lookup_number.Goals as goal

pub returns-in_err-found : goal.returns-in_err-found
returns-in_err-found c = ap (λ (o : Option Looked). looked_answer (Ok o)) c.from_residual.ensures ∙ answer_none _ ∙ found-by _ _ _ _ _ c.in_err-found.ensures

pub looked_up-requires : goal.looked_up-requires
looked_up-requires c = found-declares _ _ _ c.requires.passed _ _ c.in_ok-found.ensures

pub returns : goal.returns
returns c = c.looked_up.ensures ∙ found-by _ _ _ _ _ c.in_ok-found.ensures
