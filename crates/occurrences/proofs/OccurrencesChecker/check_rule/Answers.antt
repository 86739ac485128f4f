use mathlib.Core.Path.{sym, subst}
use borrow.Author.Rules.{rules}
use Rattle.occurrences.specs.Promises.{ReadyRun}
use Rattle.occurrences.proofs.CollectRules.{rule_run}
use Rattle.occurrences.proofs.CollectLone.{rule_shown}
use Rattle.occurrences.proofs.OccurrencesChecker.check_rule.Goals as goal

pub collect_stmts-requires : goal.collect_stmts-requires
collect_stmts-requires c = subst (ReadyRun _ _ _ _ _ _) (sym c.empty-rows.ensures.count) (rule_run _ _ c.requires.listing c.rule_decl.ensures).run

pub returns-clause-lone : goal.returns-clause-lone
returns-clause-lone c = (rule_shown _ _ c.args.self.now.whole.symbols c.requires.listing c.rule_decl.ensures c.node_count.ensures (search rules) c.requires.clean c.empty-rows.ensures c.collect_stmts.ensures c.written-rows.ensures).lone_is c.count_bindings.ensures c.first_lone-found.ensures

pub returns-clause-clean : goal.returns-clause-clean
returns-clause-clean c = (rule_shown _ _ c.args.self.now.whole.symbols c.requires.listing c.rule_decl.ensures c.node_count.ensures (search rules) c.requires.clean c.empty-rows.ensures c.collect_stmts.ensures c.written-rows.ensures).clean c.count_bindings.ensures c.clear_bindings.ensures
