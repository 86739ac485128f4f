use mathlib.Core.Path.{ap, ◌∙◌}
use native.Mathlib.Omega.{arith}
use Rattle.rows.proofs.Parts.{appends-no}
use Rattle.occurrences.specs.Promises.{joined}
use Rattle.occurrences.proofs.CollectRules.{decl-case, decl-none, rule_run, model_run, decls-start, decls-item, decls-next, decls-end}
use Rattle.occurrences.proofs.CollectSteps.{appends-to}
use borrow.Author.Rules.{rules}
use Rattle.occurrences.proofs.OccurrencesChecker.+decls.Goals as goal

pub collect_decl-collect_stmts-requires : goal.collect_decl-collect_stmts-requires
collect_decl-collect_stmts-requires t c = (rule_run _ _ (decl-case _ _ c.requires c.decl.ensures c.in-Rule.is).listing c.rule_decl.ensures).run

pub collect_decl-collect_decls-requires : goal.collect_decl-collect_decls-requires
collect_decl-collect_decls-requires t c = let d = decl-case _ _ c.requires c.decl.ensures c.in-Model.is in let m = model_run _ _ d.listing c.model_decl.ensures in (let l = d.low in let e = m.node in omega arith, m.run)

pub collect_decl-returns-in-Type : goal.collect_decl-returns-in-Type
unfolding joined
collect_decl-returns-in-Type t c = appends-no _ (ap joined (decl-none _ _ c.requires c.decl.ensures (search rules)))

pub collect_decl-returns-in-Rule : goal.collect_decl-returns-in-Rule
collect_decl-returns-in-Rule t c = appends-to (ap joined (decl-case _ _ c.requires c.decl.ensures c.in-Rule.is).whole ∙ (rule_run _ _ (decl-case _ _ c.requires c.decl.ensures c.in-Rule.is).listing c.rule_decl.ensures).whole) c.collect_stmts.ensures

pub collect_decl-returns-in-Model : goal.collect_decl-returns-in-Model
collect_decl-returns-in-Model t c = appends-to (ap joined ((decl-case _ _ c.requires c.decl.ensures c.in-Model.is).whole ∙ (model_run _ _ (decl-case _ _ c.requires c.decl.ensures c.in-Model.is).listing c.model_decl.ensures).whole)) c.collect_decls.ensures

pub collect_decls-loop-decl-init : goal.collect_decls-loop-decl-init
collect_decls-loop-decl-init t c = decls-start _ _ _ c.into_iter-decl-iterator.ensures.into_iter_gives c.requires c.of-decl-items.ensures

pub collect_decls-collect_decl-requires : goal.collect_decls-collect_decl-requires
collect_decls-collect_decl-requires t c = let o = decls-item _ _ c.requires c.loop-decl.invariant c.in-Some.ensures.steps in (let l = o.low in omega arith, o.listing)

pub collect_decls-loop-decl-preserved : goal.collect_decls-loop-decl-preserved
collect_decls-loop-decl-preserved t c = decls-next _ _ c.loop-decl.invariant (decls-item _ _ c.requires c.loop-decl.invariant c.in-Some.ensures.steps) c.collect_decl.ensures

pub collect_decls-returns : goal.collect_decls-returns
collect_decls-returns t c = decls-end _ _ c.loop-decl.invariant c.in-None.ensures.steps
