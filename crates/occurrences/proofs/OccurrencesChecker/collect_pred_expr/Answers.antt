use Rattle.rows.proofs.Parts.{appends-no}
use Rattle.occurrences.proofs.CollectSteps.{appends-to, term-member}
use Rattle.occurrences.proofs.CollectCases.{pred-case}
use Rattle.occurrences.proofs.OccurrencesChecker.collect_pred_expr.Goals as goal

pub collect_term-requires : goal.collect_term-requires
collect_term-requires c = (term-member _ _ (pred-case _ _ c.requires c.pred_expr.ensures c.in-Member.is) c.term_member.ensures).ready

pub returns-in-Ambient : goal.returns-in-Ambient
returns-in-Ambient c = appends-no _ (pred-case _ _ c.requires c.pred_expr.ensures c.in-Ambient.is)

pub returns-in-Member : goal.returns-in-Member
returns-in-Member c = appends-to (term-member _ _ (pred-case _ _ c.requires c.pred_expr.ensures c.in-Member.is) c.term_member.ensures).whole c.collect_term.ensures
