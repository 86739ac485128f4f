use mathlib.Core.Path.{ap, sym, ◌∙◌}
use Rattle.std.proofs.Common.{rules, tests}
use Rattle.std.proofs.lemmas.Iterator.Consumers.{YieldsList-from_first}
use Rattle.std.proofs.lemmas.Iterator.Search.{find_from_yields_List}
use Rattle.std.specs.Option.{option_map}
use Rattle.ast.specs.Times.{counts}
use Rattle.rows.specs.Rows.{pair_row, pairs_left, shown}
use Rattle.occurrences.proofs.CollectLone.{is_few, row_of, under-find}
use Rattle.occurrences.proofs.first_lone.Goals as goal

pub returns-in-Some : goal.returns-in-Some
returns-in-Some c =
    let found = find_from_yields_List (is_few (counts c.args.times.now)) c.find.new.self _ c.find.result c.find.ensures.ran (YieldsList-from_first pair_row pairs_left (shown c.args.rows) c.pairs.ensures) (λ x b q k. search (rules, tests)) in
    ap (λ r. row_of (option_map pair_row r)) (sym c.in-Some.is) ∙ ap row_of found ∙ under-find (counts c.args.times.now) (shown c.args.rows)

pub returns-in-None : goal.returns-in-None
returns-in-None c =
    let found = find_from_yields_List (is_few (counts c.args.times.now)) c.find.new.self _ c.find.result c.find.ensures.ran (YieldsList-from_first pair_row pairs_left (shown c.args.rows) c.pairs.ensures) (λ x b q k. search (rules, tests)) in
    ap (λ r. row_of (option_map pair_row r)) (sym c.in-None.is) ∙ ap row_of found ∙ under-find (counts c.args.times.now) (shown c.args.rows)
