use mathlib.Core.Path.{◌∙◌}
use Rattle.std.proofs.Common.{rules, tests}
use Rattle.std.proofs.lemmas.Iterator.Consumers.{YieldsList-from_first}
use Rattle.std.proofs.lemmas.Iterator.Search.{any_from_yields_List}
use Rattle.rows.specs.Rows.{pair_row, pairs_left, shown}
use Rattle.rename.proofs.RowLists.{bound, binding-any}
use Rattle.rename.proofs.is_binding.Goals as goal

pub returns : goal.returns
returns c =
    any_from_yields_List (bound c.args.binding.0) c.any.new.self _ c.any.result c.any.ensures.ran (YieldsList-from_first pair_row pairs_left (shown c.args.list) c.pairs.ensures) (λ x b q k. search (rules, tests))
    ∙ binding-any c.args.binding.0 (shown c.args.list)
