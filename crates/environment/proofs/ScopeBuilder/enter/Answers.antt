use mathlib.Core.Path.{◌∙◌}
use Rattle.environment.proofs.Laws.{entered}
use Rattle.environment.proofs.ScopeBuilder.enter.Goals as goal

pub returns-clause-stands : goal.returns-clause-stands
returns-clause-stands c = entered _ c.insert_symbol.ensures.walk (c.insert_symbol.ensures.env ∙ c.bind.ensures) c.requires.0 c.requires.1 c.requires.2 c.requires.3
