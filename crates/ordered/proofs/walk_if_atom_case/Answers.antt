use mathlib.Core.Path.{refl}
use Rattle.ast.specs.Kinds.{kind_of}
use Rattle.typed.proofs.Enums.{if-atom-is}
use Rattle.ordered.proofs.Atoms.{plain-wrapped}
use Rattle.ordered.proofs.Ends.{ends_as}
use Rattle.ordered.proofs.walk_if_atom_case.Goals as goal

pub walk_two_terms-requires : goal.walk_two_terms-requires
unfolding kind_of
walk_two_terms-requires c = let k = if-atom-is _ c.requires.0.is c.if_atom.ensures c.in-Equal.is in (((plain-wrapped _ c.requires.0 k refl).ready, c.requires.1), c.equal_atom.ensures)

pub walk_one_term-requires : goal.walk_one_term-requires
unfolding kind_of
walk_one_term-requires c = let k = if-atom-is _ c.requires.0.is c.if_atom.ensures c.in-Defined.is in (((plain-wrapped _ c.requires.0 k refl).ready, c.requires.1), c.defined_if_atom.ensures)

pub walk_pred_atom-requires : goal.walk_pred_atom-requires
unfolding kind_of
walk_pred_atom-requires c = let k = if-atom-is _ c.requires.0.is c.if_atom.ensures c.in-Pred.is in ((plain-wrapped _ c.requires.0 k refl).ready, c.requires.1)

pub walk_var_atom-requires : goal.walk_var_atom-requires
unfolding kind_of
walk_var_atom-requires c = let k = if-atom-is _ c.requires.0.is c.if_atom.ensures c.in-Var.is in ((plain-wrapped _ c.requires.0 k refl).ready, c.requires.1)

pub returns-in-Equal-clause-walk : goal.returns-in-Equal-clause-walk
unfolding kind_of
returns-in-Equal-clause-walk c = let k = if-atom-is _ c.requires.0.is c.if_atom.ensures c.in-Equal.is in ends_as _ (plain-wrapped _ c.requires.0 k refl).inner c.walk_two_terms.ensures.walk

pub returns-in-Defined-clause-walk : goal.returns-in-Defined-clause-walk
unfolding kind_of
returns-in-Defined-clause-walk c = let k = if-atom-is _ c.requires.0.is c.if_atom.ensures c.in-Defined.is in ends_as _ (plain-wrapped _ c.requires.0 k refl).inner c.walk_one_term.ensures.walk

pub returns-in-Pred-clause-walk : goal.returns-in-Pred-clause-walk
unfolding kind_of
returns-in-Pred-clause-walk c = let k = if-atom-is _ c.requires.0.is c.if_atom.ensures c.in-Pred.is in ends_as _ (plain-wrapped _ c.requires.0 k refl).inner c.walk_pred_atom.ensures.walk

pub returns-in-Var-clause-walk : goal.returns-in-Var-clause-walk
unfolding kind_of
returns-in-Var-clause-walk c = let k = if-atom-is _ c.requires.0.is c.if_atom.ensures c.in-Var.is in ends_as _ (plain-wrapped _ c.requires.0 k refl).inner c.walk_var_atom.ensures.walk
