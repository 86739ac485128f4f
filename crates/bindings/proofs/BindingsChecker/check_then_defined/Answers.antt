use mathlib.Core.Path.{sym, subst, ap, ◌∙◌}
use mathlib.Core.List.{[]}
use Rattle.typed.specs.Nodes.{term_word}
use Rattle.rows.specs.Rows.{Appends}
use Rattle.rows.proofs.Parts.{appends-as, appends-none, appends-next}
use Rattle.bindings.proofs.Leaves.{fits-first, fits-rest}
use Rattle.bindings.proofs.Bodies.{then-none, then_some}
use Rattle.bindings.proofs.Looked.{then-asks}
use Rattle.bindings.proofs.BindingsChecker.check_then_defined.Goals.{in-Some, in_default}
use Rattle.bindings.proofs.BindingsChecker.check_then_defined.Goals as goal

pub check_then_defined_var-requires : goal.check_then_defined_var-requires
check_then_defined_var-requires c =
    let v = sym (ap term_word c.in-Some.is) ∙ c.defined_then_atom-var.ensures.first in
    let o = then_some _ _ _ _ c.requires.0.is v c.defined_then_atom-var.ensures.second in
    record { is = o.is; plain = o.plain; asks = then-asks _ c.requires.1 v o.is; fits = fits-first _ _ _ o.same c.requires.0.fits }

pub check_epic_term-requires : goal.check_epic_term-requires
check_epic_term-requires c = elim c.match-var.branch [
  | in-Some w ↦
      let o = then_some _ _ _ _ c.requires.0.is (sym (ap term_word w.in-Some.is) ∙ c.defined_then_atom-var.ensures.first) c.defined_then_atom-var.ensures.second in
      record { is = o.is2; fits = fits-rest _ o.same c.requires.0.fits (subst (Appends _ c.args.rows.now) (sym w.rows-is) w.check_then_defined_var.ensures) }
  | in_default w ↦
      let o = then-none _ _ _ c.requires.0.is (sym (ap term_word w.in_default.is) ∙ c.defined_then_atom-var.ensures.first) c.defined_then_atom-var.ensures.second in
      record { is = o.is; fits = fits-rest _ o.same c.requires.0.fits (subst (Appends [] c.args.rows.now) (sym w.rows-is) (appends-none _)) }
]

pub returns : goal.returns
returns c = elim c.match-var.branch [
  | in-Some w ↦
      let o = then_some _ _ _ _ c.requires.0.is (sym (ap term_word w.in-Some.is) ∙ c.defined_then_atom-var.ensures.first) c.defined_then_atom-var.ensures.second in
      appends-as (sym o.same) (appends-next (subst (Appends _ c.args.rows.now) (sym w.rows-is) w.check_then_defined_var.ensures) c.check_epic_term.ensures)
  | in_default w ↦
      let o = then-none _ _ _ c.requires.0.is (sym (ap term_word w.in_default.is) ∙ c.defined_then_atom-var.ensures.first) c.defined_then_atom-var.ensures.second in
      appends-as (sym o.same) (appends-next (subst (Appends [] c.args.rows.now) (sym w.rows-is) (appends-none _)) c.check_epic_term.ensures)
]
