use mathlib.Core.Bool.{false≢true}
use mathlib.Core.Path.{ap, ◌∙◌}
use Rattle.table.specs.Table.{declares}
use Rattle.scopes.proofs.Lookups.{answer-some}
use Rattle.scopes.proofs.looked_up.Goals as goal

pub returns-in_err-symbol : goal.returns-in_err-symbol
returns-in_err-symbol c = absurd (false≢true (c.in_err-symbol.ensures.some ∙ ap declares c.kind_at.ensures ∙ c.requires))

pub returns : goal.returns
returns c = answer-some _ _ _ _ c.kind_at.ensures c.in_ok-symbol.ensures.number
