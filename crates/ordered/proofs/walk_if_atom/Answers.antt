use mathlib.Core.Path.{refl}
use Rattle.ast.specs.Kinds.{kind_of}
use Rattle.environment.proofs.Asking.{loud_fields}
use Rattle.ordered.proofs.Ends.{plain-ends}
use Rattle.ordered.proofs.walk_if_atom.Goals as goal

pub walk_if_atom_case-exit-requires : goal.walk_if_atom_case-exit-requires
walk_if_atom_case-exit-requires c = c.requires

pub returns-clause-walk : goal.returns-clause-walk
unfolding kind_of loud_fields
returns-clause-walk c = plain-ends _ refl c.requires.0 c.walk_if_atom_case-exit.ensures.walk (cc) c.leave.ensures.env
