use Rattle.rows.specs.Rows.{Appends}
use Rattle.rows.proofs.Parts.{appends-next}
use Rattle.occurrences.proofs.CollectSteps.{appends-to, two-terms, pred-atom, defined-var, var_rows, var-given, var-none, defined-then}
use Rattle.occurrences.proofs.CollectCases.{then-case}
use Rattle.occurrences.proofs.OccurrencesChecker.collect_then_atom.Goals as goal
use Rattle.occurrences.proofs.OccurrencesChecker.collect_then_atom.Goals.{in-Some, in_default}

pub collect_term-requires : goal.collect_term-requires
collect_term-requires c = (two-terms _ _ (then-case _ _ c.requires c.then_atom.ensures c.in-Equal.is) c.equal_atom.ensures).first

pub collect_term-requires-in-Equal : goal.collect_term-requires-in-Equal
collect_term-requires-in-Equal c = (two-terms _ _ (then-case _ _ c.requires c.then_atom.ensures c.in-Equal.is) c.equal_atom.ensures).second c.collect_term.ensures.appended.count

pub collect_term-requires-in-Some : goal.collect_term-requires-in-Some
collect_term-requires-in-Some c = (defined-var _ _ (then-case _ _ c.requires c.then_atom.ensures c.in-Defined.is) c.defined_then_atom-var.ensures c.in-Some.is).first

pub collect_term-requires-in-Defined : goal.collect_term-requires-in-Defined
collect_term-requires-in-Defined c =
    let a : Appends (var_rows _ _ c.defined_then_atom-var.result.var) c.args.rows.now c.match-var.rows = elim c.match-var.branch [ in-Some w ↦ var-given _ _ w.in-Some.is w.collect_term-in-Some.ensures w.rows-is | in_default w ↦ var-none _ _ w.in_default.is w.rows-is ] in
    (defined-then _ _ _ (then-case _ _ c.requires c.then_atom.ensures c.in-Defined.is) c.defined_then_atom-var.ensures).term a.appended.count

pub collect_pred_expr-requires : goal.collect_pred_expr-requires
collect_pred_expr-requires c = (pred-atom _ _ (then-case _ _ c.requires c.then_atom.ensures c.in-Pred.is) c.pred_atom.ensures).first

pub collect_term_list-requires : goal.collect_term_list-requires
collect_term_list-requires c = (pred-atom _ _ (then-case _ _ c.requires c.then_atom.ensures c.in-Pred.is) c.pred_atom.ensures).second c.collect_pred_expr.ensures.appended.count

pub returns-in-Equal : goal.returns-in-Equal
returns-in-Equal c = appends-to (two-terms _ _ (then-case _ _ c.requires c.then_atom.ensures c.in-Equal.is) c.equal_atom.ensures).whole (appends-next c.collect_term.ensures c.collect_term-in-Equal.ensures)

pub returns-after-var : goal.returns-after-var
returns-after-var c =
    let a : Appends (var_rows _ _ c.defined_then_atom-var.result.var) c.args.rows.now c.match-var.rows = elim c.match-var.branch [ in-Some w ↦ var-given _ _ w.in-Some.is w.collect_term-in-Some.ensures w.rows-is | in_default w ↦ var-none _ _ w.in_default.is w.rows-is ] in
    appends-to (defined-then _ _ _ (then-case _ _ c.requires c.then_atom.ensures c.in-Defined.is) c.defined_then_atom-var.ensures).whole (appends-next a c.collect_term-in-Defined.ensures)

pub returns-in-Pred : goal.returns-in-Pred
returns-in-Pred c = appends-to (pred-atom _ _ (then-case _ _ c.requires c.then_atom.ensures c.in-Pred.is) c.pred_atom.ensures).whole (appends-next c.collect_pred_expr.ensures c.collect_term_list.ensures)
