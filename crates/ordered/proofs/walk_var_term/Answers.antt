use mathlib.Core.Path.{sym}
use Rattle.typed.proofs.Enums.{term_is, no-ident}
use Rattle.ordered.proofs.Atoms.{var-other}
use Rattle.ordered.proofs.Ends.{ends_as}
use Rattle.ordered.proofs.walk_var_term.Goals as goal

pub walk_ident_term-requires : goal.walk_ident_term-requires
walk_ident_term-requires c = let k = term_is _ c.requires.0.is c.term.ensures c.in-Ident.is in (c.requires, record { first = k.number; second = k.child })

pub walk_term-requires : goal.walk_term-requires
walk_term-requires c = let o = var-other _ c.requires.0 (λ z. no-ident _ c.requires.0.is c.term.ensures c.in_default.not-Ident (sym z)) in (o.0, c.requires.1)

pub returns-in_default-clause-walk : goal.returns-in_default-clause-walk
returns-in_default-clause-walk c = let o = var-other _ c.requires.0 (λ z. no-ident _ c.requires.0.is c.term.ensures c.in_default.not-Ident (sym z)) in ends_as _ o.1 c.walk_term.ensures.walk
