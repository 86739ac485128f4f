use mathlib.Core.Path.{ap, ◌∙◌}
use mathlib.Core.List.{List}
use Rattle.rows.specs.Rows.{Row, shown}
use Rattle.rename.specs.Rename.{same_rows}
use Rattle.rename.proofs.Ways.{own-list}
use Rattle.rename.proofs.lists.Goals as goal

pub returns : goal.returns
returns c =
    c.same_rows.ensures ∙ ap (λ (l : List Row). same_rows l (shown c.args.list)) (own-list _ c.occurrences.result c.occurrences.ensures c.node_count.ensures c.unwrap_or-count.ensures)
