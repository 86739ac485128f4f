use Rattle.rows.proofs.Parts.{appends-next}
use Rattle.occurrences.proofs.CollectSteps.{appends-to, one-term, two-terms, pred-atom, if-var}
use Rattle.occurrences.proofs.CollectCases.{if-case}
use Rattle.occurrences.proofs.OccurrencesChecker.collect_if_atom.Goals as goal

pub collect_term-requires : goal.collect_term-requires
collect_term-requires c = (two-terms _ _ (if-case _ _ c.requires c.if_atom.ensures c.in-Equal.is) c.equal_atom.ensures).first

pub collect_term-requires-in-Equal : goal.collect_term-requires-in-Equal
collect_term-requires-in-Equal c = (two-terms _ _ (if-case _ _ c.requires c.if_atom.ensures c.in-Equal.is) c.equal_atom.ensures).second c.collect_term.ensures.appended.count

pub collect_term-requires-in-Defined : goal.collect_term-requires-in-Defined
collect_term-requires-in-Defined c = (one-term _ _ (if-case _ _ c.requires c.if_atom.ensures c.in-Defined.is) c.defined_if_atom.ensures).ready

pub collect_pred_expr-requires : goal.collect_pred_expr-requires
collect_pred_expr-requires c = (pred-atom _ _ (if-case _ _ c.requires c.if_atom.ensures c.in-Pred.is) c.pred_atom.ensures).first

pub collect_term_list-requires : goal.collect_term_list-requires
collect_term_list-requires c = (pred-atom _ _ (if-case _ _ c.requires c.if_atom.ensures c.in-Pred.is) c.pred_atom.ensures).second c.collect_pred_expr.ensures.appended.count

pub collect_type_expr-requires : goal.collect_type_expr-requires
collect_type_expr-requires c = (if-var _ _ (if-case _ _ c.requires c.if_atom.ensures c.in-Var.is) c.var_if_atom.ensures).first

pub collect_term-requires-in-Var : goal.collect_term-requires-in-Var
collect_term-requires-in-Var c = (if-var _ _ (if-case _ _ c.requires c.if_atom.ensures c.in-Var.is) c.var_if_atom.ensures).second c.collect_type_expr.ensures.appended.count

pub returns-in-Equal : goal.returns-in-Equal
returns-in-Equal c = appends-to (two-terms _ _ (if-case _ _ c.requires c.if_atom.ensures c.in-Equal.is) c.equal_atom.ensures).whole (appends-next c.collect_term.ensures c.collect_term-in-Equal.ensures)

pub returns-in-Defined : goal.returns-in-Defined
returns-in-Defined c = appends-to (one-term _ _ (if-case _ _ c.requires c.if_atom.ensures c.in-Defined.is) c.defined_if_atom.ensures).whole c.collect_term-in-Defined.ensures

pub returns-in-Pred : goal.returns-in-Pred
returns-in-Pred c = appends-to (pred-atom _ _ (if-case _ _ c.requires c.if_atom.ensures c.in-Pred.is) c.pred_atom.ensures).whole (appends-next c.collect_pred_expr.ensures c.collect_term_list.ensures)

pub returns-in-Var : goal.returns-in-Var
returns-in-Var c = appends-to (if-var _ _ (if-case _ _ c.requires c.if_atom.ensures c.in-Var.is) c.var_if_atom.ensures).whole (appends-next c.collect_type_expr.ensures c.collect_term-in-Var.ensures)
