use mathlib.Core.Path.{sym, subst}
use Rattle.ast.specs.Kinds.{kind_of}
use Rattle.ordered.specs.Promises.{Ready}
use Rattle.ordered.proofs.Steps.{two}
use Rattle.ordered.proofs.Idents.{two_ends}
use Rattle.ordered.proofs.walk_pred_atom.Goals as goal

pub walk_pred_expr-after_pred-requires : goal.walk_pred_expr-after_pred-requires
unfolding kind_of
walk_pred_expr-after_pred-requires c = ((two _ c.requires.0 c.pred_atom.ensures.first c.pred_atom.ensures.second).first, c.requires.1)

pub walk_term_list-after_args-requires : goal.walk_term_list-after_args-requires
unfolding kind_of
walk_term_list-after_args-requires c = rw c.walk_pred_expr-after_pred.ensures.keeps.image (subst (Ready _ _ _) (sym c.walk_pred_expr-after_pred.ensures.walk.same) (two _ c.requires.0 c.pred_atom.ensures.first c.pred_atom.ensures.second).second, c.walk_pred_expr-after_pred.ensures.walk.stands)

pub returns-clause-walk : goal.returns-clause-walk
unfolding kind_of
returns-clause-walk c = two_ends _ c.requires.0 c.pred_atom.ensures.first c.pred_atom.ensures.second c.walk_pred_expr-after_pred.ensures.walk (rw c.walk_pred_expr-after_pred.ensures.keeps.image at c.walk_term_list-after_args.ensures.walk) (rw (c.walk_term_list-after_args.ensures.keeps.image, c.walk_pred_expr-after_pred.ensures.keeps.image) at c.leave.ensures.walk) c.leave.ensures.env
