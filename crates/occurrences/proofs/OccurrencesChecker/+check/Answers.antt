use mathlib.Core.Path.{refl, sym, ap, ◌∙◌}
use native.Mathlib.Omega.{arith}
use Rattle.occurrences.specs.Occurrences.{lone}
use Rattle.occurrences.proofs.CollectRules.{decl-case, decl-none, model_run}
use Rattle.occurrences.proofs.CollectLone.{lone-passed, lone-nothing, checks-start, checks-item, checks-next, checks-found, checks-end}
use borrow.Author.Rules.{rules}
use Rattle.occurrences.proofs.OccurrencesChecker.+check.Goals as goal

pub check_decl-check_rule-requires-clause-listing : goal.check_decl-check_rule-requires-clause-listing
check_decl-check_rule-requires-clause-listing t c = (decl-case _ _ c.requires.listing c.decl.ensures c.in-Rule.is).listing

pub check_decl-check_decls-requires : goal.check_decl-check_decls-requires
check_decl-check_decls-requires t c = let d = decl-case _ _ c.requires.listing c.decl.ensures c.in-Model.is in let m = model_run _ _ d.listing c.model_decl.ensures in (let l = d.low in let e = m.node in omega arith, (m.run, c.requires.clean))

pub check_decl-returns-in-Type : goal.check_decl-returns-in-Type
check_decl-returns-in-Type t c = record { lone = lone-nothing (decl-none _ _ c.requires.listing c.decl.ensures (search rules)); clean = refl }

pub check_decl-returns-in-Rule-clause-lone : goal.check_decl-returns-in-Rule-clause-lone
check_decl-returns-in-Rule-clause-lone t c = c.check_rule.ensures.lone ∙ ap lone (sym (decl-case _ _ c.requires.listing c.decl.ensures c.in-Rule.is).whole)

pub check_decl-returns-in-Model-clause-lone : goal.check_decl-returns-in-Model-clause-lone
check_decl-returns-in-Model-clause-lone t c = let d = decl-case _ _ c.requires.listing c.decl.ensures c.in-Model.is in c.check_decls.ensures.lone ∙ ap lone (sym (d.whole ∙ (model_run _ _ d.listing c.model_decl.ensures).whole))

pub check_decls-loop-decl-init : goal.check_decls-loop-decl-init
check_decls-loop-decl-init t c = checks-start _ _ _ c.into_iter-decl-iterator.ensures.into_iter_gives c.requires.listing c.of-decl-items.ensures

pub check_decls-check_decl-requires : goal.check_decls-check_decl-requires
check_decls-check_decl-requires t c = let o = checks-item _ _ c.loop-decl.invariant c.in-Some.ensures.steps in (let l = o.low in omega arith, (o.listing, c.loop-decl.invariant.clean ∙ c.requires.clean))

pub check_decls-returns-in_err-check_decl-clause-lone : goal.check_decls-returns-in_err-check_decl-clause-lone
check_decls-returns-in_err-check_decl-clause-lone t c = lone-passed _ _ c.from_residual.ensures.1 ∙ checks-found _ _ c.loop-decl.invariant (checks-item _ _ c.loop-decl.invariant c.in-Some.ensures.steps) c.in_err-check_decl.ensures.lone

pub check_decls-loop-decl-preserved : goal.check_decls-loop-decl-preserved
check_decls-loop-decl-preserved t c = checks-next _ _ c.loop-decl.invariant (checks-item _ _ c.loop-decl.invariant c.in-Some.ensures.steps) c.in_ok-check_decl.ensures.lone c.check_decl.ensures.clean

pub check_decls-returns-clause-lone : goal.check_decls-returns-clause-lone
check_decls-returns-clause-lone t c = checks-end _ _ c.loop-decl.invariant c.in-None.ensures.steps
