use mathlib.Core.Path.{sym}
use Rattle.typed.proofs.Enums.{then-atom-is}
use Rattle.rows.proofs.Parts.{appends-as, appends-next}
use Rattle.bindings.proofs.Leaves.{fits-as, fits-first, fits-rest}
use Rattle.bindings.proofs.Epic.{two_down}
use Rattle.bindings.proofs.Bodies.{atom-equal, atom-defined, atom-pred}
use Rattle.bindings.proofs.BindingsChecker.check_then_atom.Goals as goal

pub check_epic_term-requires : goal.check_epic_term-requires
check_epic_term-requires c = let s = then-atom-is _ c.requires.is c.then_atom.ensures c.in-Equal.is in let o = two_down _ _ (atom-equal _ _ c.requires.is s.number s.child) c.equal_atom.ensures in record { is = o.is; fits = fits-first _ _ _ o.same c.requires.fits }

pub check_epic_term-requires-in-Equal : goal.check_epic_term-requires-in-Equal
check_epic_term-requires-in-Equal c = let s = then-atom-is _ c.requires.is c.then_atom.ensures c.in-Equal.is in let o = two_down _ _ (atom-equal _ _ c.requires.is s.number s.child) c.equal_atom.ensures in record { is = o.is2; fits = fits-rest _ o.same c.requires.fits c.check_epic_term.ensures }

pub check_then_defined-requires : goal.check_then_defined-requires
check_then_defined-requires c = let s = then-atom-is _ c.requires.is c.then_atom.ensures c.in-Defined.is in let o = atom-defined _ _ c.requires.is s.number s.child in (record { is = o.0; fits = fits-as _ o.1 c.requires.fits }, record { is = c.requires.is; number = s.number; child = s.child })

pub check_epic_terms-requires : goal.check_epic_terms-requires
check_epic_terms-requires c = let s = then-atom-is _ c.requires.is c.then_atom.ensures c.in-Pred.is in let o = atom-pred _ _ c.requires.is s.number s.child c.pred_atom.ensures.second in record { is = o.is; fits = fits-as _ o.same c.requires.fits }

pub returns-in-Equal : goal.returns-in-Equal
returns-in-Equal c = let s = then-atom-is _ c.requires.is c.then_atom.ensures c.in-Equal.is in let o = two_down _ _ (atom-equal _ _ c.requires.is s.number s.child) c.equal_atom.ensures in appends-as (sym o.same) (appends-next c.check_epic_term.ensures c.check_epic_term-in-Equal.ensures)

pub returns-in-Defined : goal.returns-in-Defined
returns-in-Defined c = let s = then-atom-is _ c.requires.is c.then_atom.ensures c.in-Defined.is in let o = atom-defined _ _ c.requires.is s.number s.child in appends-as (sym o.1) c.check_then_defined.ensures

pub returns-in-Pred : goal.returns-in-Pred
returns-in-Pred c = let s = then-atom-is _ c.requires.is c.then_atom.ensures c.in-Pred.is in let o = atom-pred _ _ c.requires.is s.number s.child c.pred_atom.ensures.second in appends-as (sym o.same) c.check_epic_terms.ensures
