use mathlib.Core.Path.{refl, sym, ap, ◌∙◌}
use Rattle.table.proofs.Finds.{lookup-node}
use Rattle.table.specs.Table.{found_node, is_kind}
use Rattle.table.specs.Values.{found_of}
use Rattle.rows.proofs.Parts.{appends-no}
use Rattle.occurrences.proofs.CollectRows.{ident-other}
use Rattle.occurrences.proofs.CollectSteps.{ident-put, ident-fits}
use Rattle.occurrences.proofs.OccurrencesChecker.collect_ident.Goals as goal

pub returns-in_default : goal.returns-in_default
unfolding is_kind
returns-in_default c = appends-no _ (ident-other _ _ _ _ _ (sym (lookup-node _ _ _ _ c.at_exit-found.ensures) ∙ ap (λ o. found_node (found_of o)) c.in_default.is) refl)

pub put-requires : goal.put-requires
put-requires c = ident-fits _ _ _ _ (sym (lookup-node _ _ _ _ c.at_exit-found.ensures) ∙ ap (λ o. found_node (found_of o)) c.in-Some.is) (sym c.is_var.ensures ∙ c.if-is_var.true) c.requires.0

pub returns-then-is_var : goal.returns-then-is_var
returns-then-is_var c = ident-put _ _ _ _ (sym (lookup-node _ _ _ _ c.at_exit-found.ensures) ∙ ap (λ o. found_node (found_of o)) c.in-Some.is) (sym c.is_var.ensures ∙ c.if-is_var.true) c.put.ensures

pub returns-else-is_var : goal.returns-else-is_var
returns-else-is_var c = appends-no _ (ident-other _ _ _ _ _ (sym (lookup-node _ _ _ _ c.at_exit-found.ensures) ∙ ap (λ o. found_node (found_of o)) c.in-Some.is) (sym c.is_var.ensures ∙ c.if-is_var.false))
