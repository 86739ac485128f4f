use mathlib.Core.Path.{◌∙◌}
use Rattle.environment.proofs.Laws.{introduced}
use Rattle.environment.proofs.ScopeBuilder.introduce.Goals as goal

pub returns-clause-stands : goal.returns-clause-stands
returns-clause-stands c = introduced _ c.insert_var_symbol.ensures.walk (c.insert_var_symbol.ensures.env ∙ c.bind.ensures) c.requires.0 c.requires.1 c.requires.2 c.requires.3
