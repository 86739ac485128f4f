use mathlib.Core.Path.{sym, ap, ◌∙◌}
use mathlib.Core.Option.{some}
use native.Mathlib.Numerals.{add-one}
use Rattle.environment.specs.Stands.{told}
use Rattle.environment.proofs.found.Goals as goal

pub returns-in_err-row : goal.returns-in_err-row
unfolding told
returns-in_err-row c = rw (c.from_residual.ensures, ← c.in_err-row.ensures)

pub returns : goal.returns
unfolding told
returns c = ap some c.symbol_at.ensures ∙ ap (told _ _) (sym (add-one _) ∙ c.in_ok-row.ensures)
