use borrow.Author.Rules.{rules}
use native.Mathlib.Omega.{arith}
use Rattle.typed.proofs.Lists.{row-short}
use Rattle.rows.proofs.Parts.{appends-no, appends-next}
use Rattle.occurrences.proofs.CollectSteps.{appends-to, two-terms, app-term, term-member, head-member, row_start, term-item, rows_next, rows_end, term_list}
use Rattle.occurrences.proofs.CollectCases.{term-one, term-case, head-case}
use Rattle.occurrences.proofs.OccurrencesChecker.+terms.Goals as goal

pub collect_app_head-collect_ident-requires : goal.collect_app_head-collect_ident-requires
collect_app_head-collect_ident-requires t c = let o = head-case _ _ c.requires c.app_head.ensures c.in-Ident.is in (o.room, o.asks)

pub collect_app_head-collect_term-requires : goal.collect_app_head-collect_term-requires
collect_app_head-collect_term-requires t c = let o = head-member _ _ (head-case _ _ c.requires c.app_head.ensures c.in-Member.is) c.app_head_member.ensures in (let l = o.low in omega arith, o.ready)

pub collect_app_head-collect_term-requires-in-Term : goal.collect_app_head-collect_term-requires-in-Term
collect_app_head-collect_term-requires-in-Term t c = let o = head-case _ _ c.requires c.app_head.ensures c.in-Term.is in (let l = o.low in omega arith, o.ready)

pub collect_app_head-returns-in-Ident : goal.collect_app_head-returns-in-Ident
collect_app_head-returns-in-Ident t c = appends-to (head-case _ _ c.requires c.app_head.ensures c.in-Ident.is).whole c.collect_ident.ensures

pub collect_app_head-returns-in-Member : goal.collect_app_head-returns-in-Member
collect_app_head-returns-in-Member t c = appends-to (head-member _ _ (head-case _ _ c.requires c.app_head.ensures c.in-Member.is) c.app_head_member.ensures).whole c.collect_term.ensures

pub collect_app_head-returns-in-Term : goal.collect_app_head-returns-in-Term
collect_app_head-returns-in-Term t c = appends-to (head-case _ _ c.requires c.app_head.ensures c.in-Term.is).whole c.collect_term-in-Term.ensures

pub collect_term-collect_ident-requires : goal.collect_term-collect_ident-requires
collect_term-collect_ident-requires t c = let o = term-case _ _ c.requires c.term.ensures c.in-Ident.is in (o.room, o.asks)

pub collect_term-collect_app_head-requires : goal.collect_term-collect_app_head-requires
collect_term-collect_app_head-requires t c = let o = app-term _ _ (term-case _ _ c.requires c.term.ensures c.in-App.is) c.app_term.ensures in (let l = o.low in omega arith, o.first)

pub collect_term-collect_term_list-requires : goal.collect_term-collect_term_list-requires
collect_term-collect_term_list-requires t c = let o = app-term _ _ (term-case _ _ c.requires c.term.ensures c.in-App.is) c.app_term.ensures in (let l = o.low2 in omega arith, o.second c.collect_app_head.ensures.appended.count)

pub collect_term-collect_term-requires : goal.collect_term-collect_term-requires
collect_term-collect_term-requires t c = let o = term-member _ _ (term-case _ _ c.requires c.term.ensures c.in-Member.is) c.term_member.ensures in (let l = o.low in omega arith, o.ready)

pub collect_term-collect_term-requires-in-Dom : goal.collect_term-collect_term-requires-in-Dom
collect_term-collect_term-requires-in-Dom t c = let o = term-one _ _ c.requires c.term.ensures (search rules) c.argument-arg.ensures in (let l = o.low in omega arith, o.ready)

pub collect_term-collect_term-requires-in-Comp : goal.collect_term-collect_term-requires-in-Comp
collect_term-collect_term-requires-in-Comp t c = let o = two-terms _ _ (term-case _ _ c.requires c.term.ensures c.in-Comp.is) c.comp_term.ensures in (let l = o.low in omega arith, o.first)

pub collect_term-collect_term-requires-in-Comp-2 : goal.collect_term-collect_term-requires-in-Comp-2
collect_term-collect_term-requires-in-Comp-2 t c = let o = two-terms _ _ (term-case _ _ c.requires c.term.ensures c.in-Comp.is) c.comp_term.ensures in (let l = o.low2 in omega arith, o.second c.collect_term-in-Comp.ensures.appended.count)

pub collect_term-returns-in-Ident : goal.collect_term-returns-in-Ident
collect_term-returns-in-Ident t c = appends-to (term-case _ _ c.requires c.term.ensures c.in-Ident.is).whole c.collect_ident.ensures

pub collect_term-returns-in-Wildcard : goal.collect_term-returns-in-Wildcard
collect_term-returns-in-Wildcard t c = appends-no _ (term-case _ _ c.requires c.term.ensures c.in-Wildcard.is)

pub collect_term-returns-in-App : goal.collect_term-returns-in-App
collect_term-returns-in-App t c = appends-to (app-term _ _ (term-case _ _ c.requires c.term.ensures c.in-App.is) c.app_term.ensures).whole (appends-next c.collect_app_head.ensures c.collect_term_list.ensures)

pub collect_term-returns-in-Member : goal.collect_term-returns-in-Member
collect_term-returns-in-Member t c = appends-to (term-member _ _ (term-case _ _ c.requires c.term.ensures c.in-Member.is) c.term_member.ensures).whole c.collect_term.ensures

pub collect_term-returns-in-Dom : goal.collect_term-returns-in-Dom
collect_term-returns-in-Dom t c = appends-to (term-one _ _ c.requires c.term.ensures (search rules) c.argument-arg.ensures).whole c.collect_term-in-Dom.ensures

pub collect_term-returns-in-Comp : goal.collect_term-returns-in-Comp
collect_term-returns-in-Comp t c = appends-to (two-terms _ _ (term-case _ _ c.requires c.term.ensures c.in-Comp.is) c.comp_term.ensures).whole (appends-next c.collect_term-in-Comp.ensures c.collect_term-in-Comp-2.ensures)

pub collect_term_list-of-term-items-requires : goal.collect_term_list-of-term-items-requires
collect_term_list-of-term-items-requires t c = row-short _ c.term_list.ensures (term_list _ _ c.requires).run.run

pub collect_term_list-loop-term-init : goal.collect_term_list-loop-term-init
collect_term_list-loop-term-init t c =
    let o = term_list _ _ c.requires in
    row_start _ _ _ c.into_iter-term-iterator.ensures.into_iter_gives o.run o.whole c.term_list.ensures c.of-term-items.ensures

pub collect_term_list-collect_term-requires : goal.collect_term_list-collect_term-requires
collect_term_list-collect_term-requires t c = let o = term-item _ _ c.loop-term.invariant c.in-Some.ensures.steps in (let l = o.low in omega arith, o.ready)

pub collect_term_list-loop-term-preserved : goal.collect_term_list-loop-term-preserved
collect_term_list-loop-term-preserved t c = rows_next _ _ c.loop-term.invariant (term-item _ _ c.loop-term.invariant c.in-Some.ensures.steps) c.collect_term.ensures

pub collect_term_list-returns : goal.collect_term_list-returns
collect_term_list-returns t c = rows_end _ _ c.loop-term.invariant c.in-None.ensures.steps
