use mathlib.Core.Path.{sym, subst}
use Rattle.ordered.specs.Promises.{Variable}
use Rattle.ordered.proofs.Atoms.{if_var_of}
use Rattle.ordered.proofs.Ends.{if-var-ends}
use Rattle.ordered.proofs.walk_var_atom.Goals as goal

pub walk_type_expr-after_type-requires : goal.walk_type_expr-after_type-requires
walk_type_expr-after_type-requires c = ((if_var_of _ c.requires.0 c.var_if_atom.ensures.first c.var_if_atom.ensures.second).first, c.requires.1)

pub walk_var_term-after_var-requires : goal.walk_var_term-after_var-requires
walk_var_term-after_var-requires c = rw c.walk_type_expr-after_type.ensures.keeps.image (subst (Variable _ _ _) (sym c.walk_type_expr-after_type.ensures.walk.same) (if_var_of _ c.requires.0 c.var_if_atom.ensures.first c.var_if_atom.ensures.second).second, c.walk_type_expr-after_type.ensures.walk.stands)

pub returns-clause-walk : goal.returns-clause-walk
returns-clause-walk c = if-var-ends _ c.requires.0 c.var_if_atom.ensures.first c.var_if_atom.ensures.second c.walk_type_expr-after_type.ensures.walk (rw c.walk_type_expr-after_type.ensures.keeps.image at c.walk_var_term-after_var.ensures.walk) (cc) c.leave.ensures.env
