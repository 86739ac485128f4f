use mathlib.Core.Path.{sym, ap, ◌∙◌}
use native.Mathlib.Omega.{arith}
use mathlib.Core.Bool.{true}
use Rattle.typed.proofs.Enums.{term_is, app-head-is}
use Rattle.typed.proofs.Lists.{begun-row, taken, none-left, row-short}
use Rattle.bindings.specs.Errors.{rows_seq}
use Rattle.environment.specs.Reading.{seen}
use Rattle.environment.specs.Reading.{table_in}
use Rattle.rows.proofs.Parts.{appends-as, appends-no, left-start, left-next, left_end, appends-next, left-room}
use Rattle.bindings.proofs.Leaves.{fits-as, fits-first, fits-rest}
use Rattle.bindings.proofs.Cases.{dom-or-cod}
use Rattle.bindings.proofs.Epic.{app-down, two_down, head-none, head-receiver, head-term, epic-ident, epic-app, epic-member, epic-id, epic-comp, epic-wild, epic-below, terms-list, terms-more, seq-none}
use Rattle.bindings.proofs.Looked.{term_asks}
use Rattle.bindings.proofs.BindingsChecker.+epic.Goals as goal

pub check_epic_app_head-check_epic_term-requires : goal.check_epic_app_head-check_epic_term-requires
check_epic_app_head-check_epic_term-requires t c = let s = app-head-is _ c.requires.is c.app_head.ensures c.in-Member.is in let o = head-receiver _ _ c.requires.is s.number s.child c.app_head_member.ensures.first in (let l = o.low in omega arith, record { is = o.is; fits = fits-as _ o.same c.requires.fits })

pub check_epic_app_head-check_epic_term-requires-in-Term : goal.check_epic_app_head-check_epic_term-requires-in-Term
check_epic_app_head-check_epic_term-requires-in-Term t c = let s = app-head-is _ c.requires.is c.app_head.ensures c.in-Term.is in let o = head-term _ _ c.requires.is s.number s.child in (let l = o.low in omega arith, record { is = o.is; fits = fits-as _ o.same c.requires.fits })

pub check_epic_app_head-returns-in-Ident : goal.check_epic_app_head-returns-in-Ident
check_epic_app_head-returns-in-Ident t c = appends-no _ (head-none _ _ c.requires.is (app-head-is _ c.requires.is c.app_head.ensures c.in-Ident.is).number)

pub check_epic_app_head-returns-in-Member : goal.check_epic_app_head-returns-in-Member
check_epic_app_head-returns-in-Member t c = let s = app-head-is _ c.requires.is c.app_head.ensures c.in-Member.is in let o = head-receiver _ _ c.requires.is s.number s.child c.app_head_member.ensures.first in appends-as (sym o.same) c.check_epic_term.ensures

pub check_epic_app_head-returns-in-Term : goal.check_epic_app_head-returns-in-Term
check_epic_app_head-returns-in-Term t c = let s = app-head-is _ c.requires.is c.app_head.ensures c.in-Term.is in let o = head-term _ _ c.requires.is s.number s.child in appends-as (sym o.same) c.check_epic_term-in-Term.ensures

pub check_epic_term-check_epic_ident-requires : goal.check_epic_term-check_epic_ident-requires
check_epic_term-check_epic_ident-requires t c = let s = term_is _ c.requires.is c.term.ensures c.in-Ident.is in (fits-as _ (epic-ident _ _ c.requires.is s.number s.child) c.requires.fits, term_asks _ c.requires.is s.number s.child)

pub check_epic_term-check_epic_term-requires : goal.check_epic_term-check_epic_term-requires
check_epic_term-check_epic_term-requires t c = let s = term_is _ c.requires.is c.term.ensures c.in-Member.is in let o = epic-member _ _ c.requires.is s.number s.child c.term_member.ensures.first in (let l = o.low in omega arith, record { is = o.is; fits = fits-as _ o.same c.requires.fits })

pub check_epic_term-check_epic_app_head-requires : goal.check_epic_term-check_epic_app_head-requires
check_epic_term-check_epic_app_head-requires t c = let s = term_is _ c.requires.is c.term.ensures c.in-App.is in let o = app-down _ _ (epic-app _ _ c.requires.is s.number s.child) c.app_term.ensures in (let l = o.low in omega arith, record { is = o.is; fits = fits-first _ _ _ o.same c.requires.fits })

pub check_epic_term-check_epic_terms-requires : goal.check_epic_term-check_epic_terms-requires
check_epic_term-check_epic_terms-requires t c = let s = term_is _ c.requires.is c.term.ensures c.in-App.is in let o = app-down _ _ (epic-app _ _ c.requires.is s.number s.child) c.app_term.ensures in (let l = o.low2 in omega arith, record { is = o.is2; fits = fits-rest _ o.same c.requires.fits c.check_epic_app_head.ensures })

pub check_epic_term-check_epic_term-requires-in-Id : goal.check_epic_term-check_epic_term-requires-in-Id
check_epic_term-check_epic_term-requires-in-Id t c = let s = term_is _ c.requires.is c.term.ensures c.in-Id.is in let o = epic-id _ _ c.requires.is s.number s.child c.id_term.ensures in (let l = o.low in omega arith, record { is = o.is; fits = fits-as _ o.same c.requires.fits })

pub check_epic_term-check_epic_term-requires-in-Comp : goal.check_epic_term-check_epic_term-requires-in-Comp
check_epic_term-check_epic_term-requires-in-Comp t c = let s = term_is _ c.requires.is c.term.ensures c.in-Comp.is in let o = two_down _ _ (epic-comp _ _ c.requires.is s.number s.child) c.comp_term.ensures in (let l = o.low in omega arith, record { is = o.is; fits = fits-first _ _ _ o.same c.requires.fits })

pub check_epic_term-check_epic_term-requires-in-Comp-2 : goal.check_epic_term-check_epic_term-requires-in-Comp-2
check_epic_term-check_epic_term-requires-in-Comp-2 t c = let s = term_is _ c.requires.is c.term.ensures c.in-Comp.is in let o = two_down _ _ (epic-comp _ _ c.requires.is s.number s.child) c.comp_term.ensures in (let l = o.low2 in omega arith, record { is = o.is2; fits = fits-rest _ o.same c.requires.fits c.check_epic_term-in-Comp.ensures })

pub check_epic_term-returns-in-Ident : goal.check_epic_term-returns-in-Ident
check_epic_term-returns-in-Ident t c = let s = term_is _ c.requires.is c.term.ensures c.in-Ident.is in appends-as (sym (epic-ident _ _ c.requires.is s.number s.child)) c.check_epic_ident.ensures

pub check_epic_term-returns-in-Member : goal.check_epic_term-returns-in-Member
check_epic_term-returns-in-Member t c = let s = term_is _ c.requires.is c.term.ensures c.in-Member.is in let o = epic-member _ _ c.requires.is s.number s.child c.term_member.ensures.first in appends-as (sym o.same) c.check_epic_term.ensures

pub check_epic_term-returns-in-Wildcard : goal.check_epic_term-returns-in-Wildcard
check_epic_term-returns-in-Wildcard t c = appends-no _ (epic-wild _ _ c.requires.is (term_is _ c.requires.is c.term.ensures c.in-Wildcard.is))

pub check_epic_term-returns-in-App : goal.check_epic_term-returns-in-App
check_epic_term-returns-in-App t c = let s = term_is _ c.requires.is c.term.ensures c.in-App.is in let o = app-down _ _ (epic-app _ _ c.requires.is s.number s.child) c.app_term.ensures in appends-as (sym o.same) (appends-next c.check_epic_app_head.ensures c.check_epic_terms.ensures)

pub check_epic_term-returns-in-Dom : goal.check_epic_term-returns-in-Dom
check_epic_term-returns-in-Dom t c = appends-no _ (epic-below _ _ c.requires.is (dom-or-cod _ c.requires.is c.term.ensures c.in-Dom.in-Dom-own.keys5))

pub check_epic_term-returns-in-Id : goal.check_epic_term-returns-in-Id
check_epic_term-returns-in-Id t c = let s = term_is _ c.requires.is c.term.ensures c.in-Id.is in let o = epic-id _ _ c.requires.is s.number s.child c.id_term.ensures in appends-as (sym o.same) c.check_epic_term-in-Id.ensures

pub check_epic_term-returns-in-Comp : goal.check_epic_term-returns-in-Comp
check_epic_term-returns-in-Comp t c = let s = term_is _ c.requires.is c.term.ensures c.in-Comp.is in let o = two_down _ _ (epic-comp _ _ c.requires.is s.number s.child) c.comp_term.ensures in appends-as (sym o.same) (appends-next c.check_epic_term-in-Comp.ensures c.check_epic_term-in-Comp-2.ensures)

pub check_epic_terms-of-arg-items-requires : goal.check_epic_terms-of-arg-items-requires
check_epic_terms-of-arg-items-requires t c = row-short _ c.term_list.ensures (terms-list _ (table_in c.args.self.now.scopes) c.requires.is).0

pub check_epic_terms-loop-arg-init : goal.check_epic_terms-loop-arg-init
check_epic_terms-loop-arg-init t c =
    let r = terms-list _ (table_in c.args.self.now.scopes) c.requires.is in
    let o = begun-row c.into_iter-arg-iterator.ensures.into_iter_gives c.term_list.ensures r.0 c.of-arg-items.ensures in
    (o.within, left-start _ (r.1 ∙ ap (seen rows_seq c.args.self.now.scopes true c.args.args.0.0) o.trees) c.requires.fits)

pub check_epic_terms-check_epic_term-requires : goal.check_epic_terms-check_epic_term-requires
check_epic_terms-check_epic_term-requires t c =
    let o = taken c.loop-arg.invariant.0 c.in-Some.ensures.steps.0 c.in-Some.ensures.steps.1 in
    (let l = o.low in omega arith, record { is = o.is; fits = left-room _ _ c.loop-arg.invariant.1 (terms-more _ _ _ _ o.is o.trees) })

pub check_epic_terms-loop-arg-preserved : goal.check_epic_terms-loop-arg-preserved
check_epic_terms-loop-arg-preserved t c =
    let o = taken c.loop-arg.invariant.0 c.in-Some.ensures.steps.0 c.in-Some.ensures.steps.1 in
    (o.rest, left-next c.loop-arg.invariant.1 (terms-more _ _ _ _ o.is o.trees) c.check_epic_term.ensures)

pub check_epic_terms-returns : goal.check_epic_terms-returns
check_epic_terms-returns t c = left_end c.loop-arg.invariant.1 (seq-none _ _ true _ (none-left c.loop-arg.arg-iterator c.in-None.ensures.steps))
