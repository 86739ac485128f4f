use borrow.Author.Rules.{rules}
use mathlib.Core.Path.{◌≡◌, refl, sym, ap, subst, ◌∙◌}
use native.Mathlib.Omega.{arith}
use Rattle.ast.specs.Kinds.{kind_of}
use Rattle.ordered.specs.Promises.{Ready}
use Rattle.ordered.proofs.Steps.{one, two, member_of, term-wrapped, head-wrapped}
use Rattle.ordered.proofs.Lists.{inside_room, head_member_of, list_of, left-start, left-next, left-end, item-ready}
use Rattle.ordered.proofs.Idents.{as-variable, one-ends, two_ends, other-ends, head-ends, wild-ends, name-ends, member-ends, head-member-ends}
use Rattle.typed.proofs.Enums.{term_is, app-head-is, no-ident}
use Rattle.typed.proofs.Lists.{begun-row, taken, none-left, row-short}
use Rattle.environment.specs.Builder.{walked_of}
use Rattle.environment.proofs.Asking.{loud_fields}
use Rattle.environment.proofs.Steps.{keeps_same}
use Rattle.ordered.specs.Walk.{names, walk_seq}
use Rattle.ordered.proofs.Ends.{ends_as, ends_in, plain-ends}
use Rattle.ordered.proofs.+terms.Goals as goal
use Rattle.ordered.proofs.+terms.Goals.{walk_app_head-in-Member, walk_app_head-in-Term}

pub walk_app_head-walk_head_ident-requires : goal.walk_app_head-walk_head_ident-requires
walk_app_head-walk_head_ident-requires t c = let k = app-head-is _ c.requires.0.is c.app_head.ensures c.in-Ident.is in (c.requires, record { first = k.number; second = k.child })

pub walk_app_head-walk_app_head_member-exit-requires : goal.walk_app_head-walk_app_head_member-exit-requires
walk_app_head-walk_app_head_member-exit-requires t c = let k = app-head-is _ c.requires.0.is c.app_head.ensures c.in-Member.is in let o = head-wrapped _ c.requires.0 k refl in (let l = o.low in omega arith, (o.ready, c.requires.1))

pub walk_app_head-walk_term-exit-requires : goal.walk_app_head-walk_term-exit-requires
walk_app_head-walk_term-exit-requires t c = let k = app-head-is _ c.requires.0.is c.app_head.ensures c.in-Term.is in let o = head-wrapped _ c.requires.0 k refl in (let l = o.low in omega arith, (o.ready, c.requires.1))

pub walk_app_head-returns-clause-walk : goal.walk_app_head-returns-clause-walk
walk_app_head-returns-clause-walk t c =
    let k : c.match-app_head.builder.image.now ≡ c.args.builder.now.image.now = search rules in
    let l = rw k at c.leave.ensures.walk in
    elim c.match-app_head.branch [
      | walk_app_head-in-Member w ↦
          let k = app-head-is _ c.requires.0.is c.app_head.ensures w.in-Member.is in
          head-ends _ c.requires.0 k refl (ends_in _ w.builder-is w.exit-is refl w.walk_app_head_member-exit.ensures.walk) l c.leave.ensures.env
      | walk_app_head-in-Term w ↦
          let k = app-head-is _ c.requires.0.is c.app_head.ensures w.in-Term.is in
          head-ends _ c.requires.0 k refl (ends_in _ w.builder-is w.exit-is refl w.walk_term-exit.ensures.walk) l c.leave.ensures.env
    ]

pub walk_app_head_member-walk_term-scope-requires : goal.walk_app_head_member-walk_term-scope-requires
walk_app_head_member-walk_term-scope-requires t c = let o = head_member_of _ c.requires.0 c.app_head_member.ensures.first in (let l = o.low in omega arith, (o.first, c.requires.1))

pub walk_one_term-walk_term-after-requires : goal.walk_one_term-walk_term-after-requires
walk_one_term-walk_term-after-requires t c = let o = one _ c.requires.0.0 c.requires.1 in (let l = o.low in omega arith, (o.first, c.requires.0.1))

pub walk_one_term-returns-clause-walk : goal.walk_one_term-returns-clause-walk
walk_one_term-returns-clause-walk t c = one-ends _ c.requires.0.0 c.requires.1 c.walk_term-after.ensures.walk (cc) c.leave.ensures.env

pub walk_term-walk_ident_term-requires : goal.walk_term-walk_ident_term-requires
walk_term-walk_ident_term-requires t c = let k = term_is _ c.requires.0.is c.term.ensures c.in-Ident.is in ((as-variable _ c.requires.0, c.requires.1), record { first = k.number; second = k.child })

pub walk_term_member-walk_term-after-requires : goal.walk_term_member-walk_term-after-requires
walk_term_member-walk_term-after-requires t c = let o = member_of _ c.requires.0 c.term_member.ensures.first c.term_member.ensures.second in (let l = o.low in omega arith, (o.first, c.requires.1))

pub walk_term_member-returns-clause-walk : goal.walk_term_member-returns-clause-walk
walk_term_member-returns-clause-walk t c = member-ends _ c.requires.0 c.term_member.ensures.first c.term_member.ensures.second c.walk_term-after.ensures.walk (rw c.walk_term-after.ensures.keeps.image at c.leave-named.ensures.walk) c.leave-named.ensures.env (cc) c.leave.ensures.env

pub walk_two_terms-walk_term-after_first-requires : goal.walk_two_terms-walk_term-after_first-requires
walk_two_terms-walk_term-after_first-requires t c = let o = two _ c.requires.0.0 c.requires.1.first c.requires.1.second in (let l = o.low in omega arith, (o.first, c.requires.0.1))

pub walk_two_terms-walk_term-after-requires : goal.walk_two_terms-walk_term-after-requires
walk_two_terms-walk_term-after-requires t c = let o = two _ c.requires.0.0 c.requires.1.first c.requires.1.second in (let l = o.low2 in omega arith, rw c.walk_term-after_first.ensures.keeps.image (subst (Ready _ _ _) (sym c.walk_term-after_first.ensures.walk.same) o.second, c.walk_term-after_first.ensures.walk.stands))

pub walk_two_terms-returns-clause-walk : goal.walk_two_terms-returns-clause-walk
walk_two_terms-returns-clause-walk t c = two_ends _ c.requires.0.0 c.requires.1.first c.requires.1.second c.walk_term-after_first.ensures.walk (rw c.walk_term-after_first.ensures.keeps.image at c.walk_term-after.ensures.walk) (cc) c.leave.ensures.env

pub walk_term-walk_term_case-exit-requires : goal.walk_term-walk_term_case-exit-requires
walk_term-walk_term_case-exit-requires t c = (omega arith, (c.requires, λ z. no-ident _ c.requires.0.is c.term.ensures c.in_default.not-Ident (sym z)))

pub walk_term-returns-clause-walk : goal.walk_term-returns-clause-walk
walk_term-returns-clause-walk t c = other-ends _ c.requires.0 (λ z. no-ident _ c.requires.0.is c.term.ensures c.in_default.not-Ident (sym z)) c.walk_term_case-exit.ensures.walk (cc) c.leave.ensures.env

pub walk_term_case-walk_app_head-after_head-requires : goal.walk_term_case-walk_app_head-after_head-requires
unfolding kind_of
walk_term_case-walk_app_head-after_head-requires t c =
    let o = term-wrapped _ c.requires.0.0 (term_is _ c.requires.0.0.is c.term.ensures c.in-App.is) refl in
    let i = two _ o.ready c.app_term.ensures.first c.app_term.ensures.second in
    (let l = o.low in let m = i.low in omega arith, (i.first, c.requires.0.1))

pub walk_term_case-walk_term_list-after_args-requires : goal.walk_term_case-walk_term_list-after_args-requires
unfolding kind_of
walk_term_case-walk_term_list-after_args-requires t c =
    let o = term-wrapped _ c.requires.0.0 (term_is _ c.requires.0.0.is c.term.ensures c.in-App.is) refl in
    let i = two _ o.ready c.app_term.ensures.first c.app_term.ensures.second in
    (let l = o.low in let m = i.low2 in omega arith, rw c.walk_app_head-after_head.ensures.keeps.image (subst (Ready _ _ _) (sym c.walk_app_head-after_head.ensures.walk.same) i.second, c.walk_app_head-after_head.ensures.walk.stands))

pub walk_term_case-walk_term_member-requires : goal.walk_term_case-walk_term_member-requires
unfolding kind_of
walk_term_case-walk_term_member-requires t c =
    let o = term-wrapped _ c.requires.0.0 (term_is _ c.requires.0.0.is c.term.ensures c.in-Member.is) refl in
    (let l = o.low in omega arith, (o.ready, c.requires.0.1))

pub walk_term_case-walk_one_term-requires : goal.walk_term_case-walk_one_term-requires
unfolding kind_of
walk_term_case-walk_one_term-requires t c =
    let o = term-wrapped _ c.requires.0.0 (term_is _ c.requires.0.0.is c.term.ensures c.in-Dom.is) refl in
    (let l = o.low in omega arith, ((o.ready, c.requires.0.1), c.dom_term.ensures))

pub walk_term_case-walk_one_term-requires-in-Cod : goal.walk_term_case-walk_one_term-requires-in-Cod
unfolding kind_of
walk_term_case-walk_one_term-requires-in-Cod t c =
    let o = term-wrapped _ c.requires.0.0 (term_is _ c.requires.0.0.is c.term.ensures c.in-Cod.is) refl in
    (let l = o.low in omega arith, ((o.ready, c.requires.0.1), c.cod_term.ensures))

pub walk_term_case-walk_one_term-requires-in-Id : goal.walk_term_case-walk_one_term-requires-in-Id
unfolding kind_of
walk_term_case-walk_one_term-requires-in-Id t c =
    let o = term-wrapped _ c.requires.0.0 (term_is _ c.requires.0.0.is c.term.ensures c.in-Id.is) refl in
    (let l = o.low in omega arith, ((o.ready, c.requires.0.1), c.id_term.ensures))

pub walk_term_case-walk_two_terms-requires : goal.walk_term_case-walk_two_terms-requires
unfolding kind_of
walk_term_case-walk_two_terms-requires t c =
    let o = term-wrapped _ c.requires.0.0 (term_is _ c.requires.0.0.is c.term.ensures c.in-Comp.is) refl in
    (let l = o.low in omega arith, ((o.ready, c.requires.0.1), c.comp_term.ensures))

pub walk_term_case-returns-in-Ident-clause-walk : goal.walk_term_case-returns-in-Ident-clause-walk
walk_term_case-returns-in-Ident-clause-walk t c = wild-ends _ c.requires.0.0.is c.requires.1 c.term.ensures (search rules) c.requires.0.1

pub walk_term_case-returns-in-App-clause-walk : goal.walk_term_case-returns-in-App-clause-walk
unfolding kind_of
walk_term_case-returns-in-App-clause-walk t c =
    let o = term-wrapped _ c.requires.0.0 (term_is _ c.requires.0.0.is c.term.ensures c.in-App.is) refl in
    ends_as _ {f = walked_of c.leave.new.self c.leave.result} o.inner (two_ends _ o.ready c.app_term.ensures.first c.app_term.ensures.second c.walk_app_head-after_head.ensures.walk (rw c.walk_app_head-after_head.ensures.keeps.image at c.walk_term_list-after_args.ensures.walk) (cc) c.leave.ensures.env)

pub walk_term_case-returns-in-Member-clause-walk : goal.walk_term_case-returns-in-Member-clause-walk
unfolding kind_of
walk_term_case-returns-in-Member-clause-walk t c =
    let o = term-wrapped _ c.requires.0.0 (term_is _ c.requires.0.0.is c.term.ensures c.in-Member.is) refl in
    ends_as _ o.inner c.walk_term_member.ensures.walk

pub walk_term_case-returns-in-Dom-clause-walk : goal.walk_term_case-returns-in-Dom-clause-walk
unfolding kind_of
walk_term_case-returns-in-Dom-clause-walk t c =
    let o = term-wrapped _ c.requires.0.0 (term_is _ c.requires.0.0.is c.term.ensures c.in-Dom.is) refl in
    ends_as _ o.inner c.walk_one_term.ensures.walk

pub walk_term_case-returns-in-Cod-clause-walk : goal.walk_term_case-returns-in-Cod-clause-walk
unfolding kind_of
walk_term_case-returns-in-Cod-clause-walk t c =
    let o = term-wrapped _ c.requires.0.0 (term_is _ c.requires.0.0.is c.term.ensures c.in-Cod.is) refl in
    ends_as _ o.inner c.walk_one_term-in-Cod.ensures.walk

pub walk_term_case-returns-in-Id-clause-walk : goal.walk_term_case-returns-in-Id-clause-walk
unfolding kind_of
walk_term_case-returns-in-Id-clause-walk t c =
    let o = term-wrapped _ c.requires.0.0 (term_is _ c.requires.0.0.is c.term.ensures c.in-Id.is) refl in
    ends_as _ o.inner c.walk_one_term-in-Id.ensures.walk

pub walk_term_case-returns-in-Comp-clause-walk : goal.walk_term_case-returns-in-Comp-clause-walk
unfolding kind_of
walk_term_case-returns-in-Comp-clause-walk t c =
    let o = term-wrapped _ c.requires.0.0 (term_is _ c.requires.0.0.is c.term.ensures c.in-Comp.is) refl in
    ends_as _ o.inner c.walk_two_terms.ensures.walk

pub walk_app_head_member-of-name-items-requires : goal.walk_app_head_member-of-name-items-requires
walk_app_head_member-of-name-items-requires t c = row-short _ c.app_head_member.ensures.list (head_member_of _ c.requires.0 c.app_head_member.ensures.first).run

pub walk_app_head_member-loop-name-init : goal.walk_app_head_member-loop-name-init
walk_app_head_member-loop-name-init t c =
    let p = head_member_of _ c.requires.0 c.app_head_member.ensures.first in
    let a = c.walk_term-scope.ensures in
    let o = begun-row c.into_iter-name-iterator.ensures.into_iter_gives c.app_head_member.ensures.list p.run (rw a.keeps.image at c.of-name-items.ensures) in
    (o.within, left-start (p.inner ∙ ap (walk_seq _ names _) (sym a.walk.same)) o.trees a.walk.stands a.keeps)

pub walk_app_head_member-loop-name-preserved : goal.walk_app_head_member-loop-name-preserved
walk_app_head_member-loop-name-preserved t c =
    let w = c.loop-name.invariant in
    let o = taken w.0 c.in-Some.ensures.steps.0 c.in-Some.ensures.steps.1 in
    (o.rest, left-next o.trees w.1 c.leave-scope.ensures.keeps (name-ends _ o.is (rw w.1.keeps.image at c.leave-scope.ensures.walk) c.leave-scope.ensures.env w.1.stands))

pub walk_app_head_member-returns-clause-walk : goal.walk_app_head_member-returns-clause-walk
walk_app_head_member-returns-clause-walk t c =
    head-member-ends _ c.requires.0 (left-end (none-left c.loop-name.name-iterator c.in-None.ensures.steps) c.loop-name.invariant.1) (cc) c.leave_bare.ensures.env

pub walk_term_list-of-term-items-requires : goal.walk_term_list-of-term-items-requires
unfolding kind_of
walk_term_list-of-term-items-requires t c = row-short _ c.term_list.ensures (list_of _ c.requires.0).run

pub walk_term_list-loop-term-init : goal.walk_term_list-loop-term-init
unfolding kind_of
walk_term_list-loop-term-init t c =
    let p = list_of _ c.requires.0 in
    let o = begun-row c.into_iter-term-iterator.ensures.into_iter_gives c.term_list.ensures p.run c.of-term-items.ensures in
    (o.within, left-start p.inner o.trees c.requires.1 (keeps_same _))

pub walk_term_list-walk_term-cur-requires : goal.walk_term_list-walk_term-cur-requires
unfolding kind_of
walk_term_list-walk_term-cur-requires t c =
    let w = c.loop-term.invariant in
    let o = taken w.0 c.in-Some.ensures.steps.0 c.in-Some.ensures.steps.1 in
    (let l = o.low in omega arith, rw w.1.keeps.image (item-ready o w.1 (inside_room _ c.requires.0), w.1.stands))

pub walk_term_list-loop-term-preserved : goal.walk_term_list-loop-term-preserved
walk_term_list-loop-term-preserved t c =
    let w = c.loop-term.invariant in
    let o = taken w.0 c.in-Some.ensures.steps.0 c.in-Some.ensures.steps.1 in
    (o.rest, left-next o.trees w.1 c.walk_term-cur.ensures.keeps (rw w.1.keeps.image at c.walk_term-cur.ensures.walk))

pub walk_term_list-returns-clause-walk : goal.walk_term_list-returns-clause-walk
unfolding kind_of loud_fields
walk_term_list-returns-clause-walk t c =
    plain-ends _ refl c.requires.0 (left-end (none-left c.loop-term.term-iterator c.in-None.ensures.steps) c.loop-term.invariant.1) (cc) c.leave.ensures.env
