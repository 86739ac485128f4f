use mathlib.Core.Path.{sym, ap, ◌∙◌}
use Rattle.typed.specs.Nodes.{term_word}
use Rattle.typed.proofs.Enums.{term_is, no-ident}
use Rattle.environment.proofs.Asking.{quiet-absent, quiet-other}
use Rattle.ordered.proofs.Atoms.{var-other}
use Rattle.ordered.proofs.Idents.{var-ends, defined_atom, absent-ends, given-ends, given-variable, atom-quiet}
use Rattle.ordered.proofs.walk_then_defined_atom.Goals as goal

pub walk_then_defined_var-requires : goal.walk_then_defined_var-requires
walk_then_defined_var-requires c = let d = defined_atom _ c.requires.0.0 c.requires.1 c.defined_then_atom-var.ensures.second in let v = sym (ap term_word c.in-Some.is) ∙ c.defined_then_atom-var.ensures.first in let k = term_is _ (d.parts.second _ (sym v)).is c.term.ensures c.in-Ident.is in (c.requires.0, record { defined = c.requires.1; terms = record { first = v; second = c.defined_then_atom-var.ensures.second }; named = record { first = k.number; second = k.child } })

pub walk_term-after_term-requires : goal.walk_term-after_term-requires
walk_term-after_term-requires c = let d = defined_atom _ c.requires.0.0 c.requires.1 c.defined_then_atom-var.ensures.second in (d.parts.first, c.requires.0.1)

pub walk_term-exit-requires : goal.walk_term-exit-requires
walk_term-exit-requires c = let d = defined_atom _ c.requires.0.0 c.requires.1 c.defined_then_atom-var.ensures.second in let v = sym (ap term_word c.in-Some.is) ∙ c.defined_then_atom-var.ensures.first in let is = (d.parts.second _ (sym v)).is in let no = no-ident _ is c.term.ensures c.in_default.not-Ident in rw c.walk_term-after_term.ensures.keeps.image ((var-other _ (given-variable _ _ d v c.walk_term-after_term.ensures.walk) (λ e. no (sym e))).0, c.walk_term-after_term.ensures.walk.stands)

pub walk_term-after_term-requires-in-None : goal.walk_term-after_term-requires-in-None
walk_term-after_term-requires-in-None c = let d = defined_atom _ c.requires.0.0 c.requires.1 c.defined_then_atom-var.ensures.second in (d.parts.first, c.requires.0.1)

pub returns-in_default-clause-walk : goal.returns-in_default-clause-walk
returns-in_default-clause-walk c = let d = defined_atom _ c.requires.0.0 c.requires.1 c.defined_then_atom-var.ensures.second in let v = sym (ap term_word c.in-Some.is) ∙ c.defined_then_atom-var.ensures.first in let is = (d.parts.second _ (sym v)).is in let no = no-ident _ is c.term.ensures c.in_default.not-Ident in atom-quiet _ d c.requires.0.0.is (quiet-other _ _ _ c.requires.0.0.is c.requires.1.second v (λ e. no (sym e))) (given-ends _ _ d v c.walk_term-after_term.ensures.walk (var-ends _ (given-variable _ _ d v c.walk_term-after_term.ensures.walk) (λ e. no (sym e)) (rw c.walk_term-after_term.ensures.keeps.image at c.walk_term-exit.ensures.walk)) (rw (c.walk_term-exit.ensures.keeps.image, c.walk_term-after_term.ensures.keeps.image) at c.leave-defined.ensures.walk) c.leave-defined.ensures.env) (cc) c.leave.ensures.env

pub returns-in-None-clause-walk : goal.returns-in-None-clause-walk
returns-in-None-clause-walk c = let d = defined_atom _ c.requires.0.0 c.requires.1 c.defined_then_atom-var.ensures.second in let z = sym c.defined_then_atom-var.ensures.first ∙ ap term_word c.in-None.is in atom-quiet _ d c.requires.0.0.is (quiet-absent _ _ c.requires.0.0.is c.requires.1.second z) (absent-ends _ d z c.walk_term-after_term-in-None.ensures.walk (rw c.walk_term-after_term-in-None.ensures.keeps.image at c.leave-defined-in-None.ensures.walk) c.leave-defined-in-None.ensures.env) (cc) c.leave-in-None.ensures.env
