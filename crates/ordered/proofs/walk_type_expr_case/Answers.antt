use mathlib.Core.Path.{refl}
use Rattle.ast.specs.Kinds.{kind_of}
use Rattle.typed.proofs.Enums.{type-expr-is}
use Rattle.ordered.proofs.Atoms.{plain-wrapped}
use Rattle.ordered.proofs.Ends.{ends_as, leaf-ends}
use Rattle.ordered.proofs.walk_type_expr_case.Goals as goal

pub walk_term_member-requires : goal.walk_term_member-requires
unfolding kind_of
walk_term_member-requires c = let k = type-expr-is _ c.requires.0.is c.type_expr.ensures c.in-Member.is in ((plain-wrapped _ c.requires.0 k refl).ready, c.requires.1)

pub returns-in-Ambient-clause-walk : goal.returns-in-Ambient-clause-walk
unfolding kind_of
returns-in-Ambient-clause-walk c = let o = plain-wrapped _ c.requires.0 (type-expr-is _ c.requires.0.is c.type_expr.ensures c.in-Ambient.is) refl in ends_as _ o.inner (leaf-ends _ o.ready.is c.leave.ensures.walk c.leave.ensures.env c.requires.1)

pub returns-in-Member-clause-walk : goal.returns-in-Member-clause-walk
unfolding kind_of
returns-in-Member-clause-walk c = let k = type-expr-is _ c.requires.0.is c.type_expr.ensures c.in-Member.is in ends_as _ (plain-wrapped _ c.requires.0 k refl).inner c.walk_term_member.ensures.walk

pub returns-in-Mor-clause-walk : goal.returns-in-Mor-clause-walk
unfolding kind_of
returns-in-Mor-clause-walk c = let o = plain-wrapped _ c.requires.0 (type-expr-is _ c.requires.0.is c.type_expr.ensures c.in-Mor.is) refl in ends_as _ o.inner (leaf-ends _ o.ready.is c.leave-in-Mor.ensures.walk c.leave-in-Mor.ensures.env c.requires.1)
