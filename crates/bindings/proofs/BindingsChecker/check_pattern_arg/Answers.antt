use mathlib.Core.Path.{sym, ap, ◌∙◌}
use Rattle.table.proofs.Finds.{lookup-node}
use Rattle.table.specs.Table.{is_var}
use Rattle.rows.proofs.Parts.{appends-as, appends-no}
use Rattle.typed.proofs.Enums.{term_is, no-ident}
use Rattle.bindings.proofs.Leaves.{fits-as, when-so, when-not}
use Rattle.bindings.proofs.RowLaws.{arg-ident, arg-none}
use Rattle.bindings.proofs.Looked.{term_asks}
use Rattle.bindings.proofs.BindingsChecker.check_pattern_arg.Goals as goal

pub returns-in_default : goal.returns-in_default
returns-in_default c = appends-no _ (arg-none _ _ c.requires.is (no-ident _ c.requires.is c.term.ensures c.in_default.not-Ident))

pub at_entry-found-requires : goal.at_entry-found-requires
at_entry-found-requires c = let o = term_is _ c.requires.is c.term.ensures c.in-Ident.is in term_asks _ c.requires.is o.number o.child

pub report-requires : goal.report-requires
report-requires c = let o = term_is _ c.requires.is c.term.ensures c.in-Ident.is in fits-as _ (when-so _ (arg-ident _ _ c.requires.is o.number o.child) (c.is_var.ensures ∙ ap (is_var _) (lookup-node _ _ _ _ c.at_entry-found.ensures)) c.if-is_var.true) c.requires.fits

pub returns-then-is_var : goal.returns-then-is_var
returns-then-is_var c = let o = term_is _ c.requires.is c.term.ensures c.in-Ident.is in appends-as (sym (when-so _ (arg-ident _ _ c.requires.is o.number o.child) (c.is_var.ensures ∙ ap (is_var _) (lookup-node _ _ _ _ c.at_entry-found.ensures)) c.if-is_var.true)) c.report.ensures

pub returns-else-is_var : goal.returns-else-is_var
returns-else-is_var c = let o = term_is _ c.requires.is c.term.ensures c.in-Ident.is in appends-no _ (when-not _ (arg-ident _ _ c.requires.is o.number o.child) (c.is_var.ensures ∙ ap (is_var _) (lookup-node _ _ _ _ c.at_entry-found.ensures)) c.if-is_var.false)
