use mathlib.Core.Path.{sym}
use Rattle.tests.proofs.Whole.{var-yes, var_no}
use Rattle.tests.proofs.test_term.Goals as goal

pub returns-in-Ident : goal.returns-in-Ident
returns-in-Ident c = sym (var-yes _ _ _ c.term.ensures c.in-Ident.is)

pub returns-in_default : goal.returns-in_default
returns-in_default c = sym (var_no _ _ _ c.term.ensures c.in_default.not-Ident c.in_default.not-Wildcard)
