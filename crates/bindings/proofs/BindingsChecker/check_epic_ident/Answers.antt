use mathlib.Core.Path.{refl, sym}
use Rattle.rows.proofs.Parts.{appends-as, appends-no}
use Rattle.bindings.proofs.Leaves.{fits-as, introduced-is, when-so, when-not}
use Rattle.bindings.proofs.BindingsChecker.check_epic_ident.Goals as goal

pub report-requires : goal.report-requires
report-requires c = fits-as _ (when-so _ (introduced-is _ _ _ _ c.is_introduced.ensures) refl c.if-is_introduced.true) c.requires.0

pub returns-then-is_introduced : goal.returns-then-is_introduced
returns-then-is_introduced c = appends-as (sym (when-so _ (introduced-is _ _ _ _ c.is_introduced.ensures) refl c.if-is_introduced.true)) c.report.ensures

pub returns-else-is_introduced : goal.returns-else-is_introduced
returns-else-is_introduced c = appends-no _ (when-not _ (introduced-is _ _ _ _ c.is_introduced.ensures) refl c.if-is_introduced.false)
