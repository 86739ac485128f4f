use mathlib.Core.Path.{sym}
use Rattle.rows.proofs.Parts.{appends-as}
use Rattle.bindings.proofs.Leaves.{fits-as}
use Rattle.bindings.proofs.Bodies.{module-list}
use Rattle.bindings.proofs.BindingsChecker.walk_module.Goals as goal

pub walk_decls-requires : goal.walk_decls-requires
walk_decls-requires c = let o = module-list _ _ c.requires.is c.module.ensures in record { run = o.run; fits = fits-as _ o.same c.requires.fits }

pub returns : goal.returns
returns c = let o = module-list _ _ c.requires.is c.module.ensures in appends-as (sym o.same) c.walk_decls.ensures
