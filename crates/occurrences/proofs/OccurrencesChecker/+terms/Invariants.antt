use Rattle.ast.specs.Named.{term_kind}
use Rattle.environment.specs.Reading.{seen}
use Rattle.occurrences.specs.Promises.{rows_in}
use Rattle.occurrences.proofs.CollectSteps.{RowsLeft}
use Rattle.occurrences.proofs.OccurrencesChecker.+terms.Given as goal

abbrev pub decreases-collect_app_head : goal.decreases-collect_app_head
decreases-collect_app_head l = l.head.0.0

abbrev pub decreases-collect_term : goal.decreases-collect_term
decreases-collect_term l = l.term.0.0

abbrev pub decreases-collect_term_list : goal.decreases-collect_term_list
decreases-collect_term_list l = l.list.0.0

abbrev pub invariant-collect_term_list-loop-term : goal.invariant-collect_term_list-loop-term
invariant-collect_term_list-loop-term l = seen RowsLeft l.self.scopes term_kind l.fn.list.0.0 (seen rows_in l.self.scopes l.fn.list.0.0) l.term-iterator l.initial.rows l.rows
