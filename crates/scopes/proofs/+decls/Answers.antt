use borrow.Author.Rules.{rules}
use mathlib.Core.Path.{◌≡◌, refl, sym, ◌∙◌}
use native.Mathlib.Omega.{arith}
use Rattle.ast.specs.Kinds.{kind_of}
use Rattle.scopes.proofs.Decls.{decl-visits}
use Rattle.scopes.proofs.Entries.{names-begin, enter_item, handed-on}
use Rattle.environment.specs.Stands.{here}
use Rattle.scopes.proofs.Visiting.{sig_one, sig_two, rule_run, type-visit, passed-back, passed_in, passed-visits, list-begin, visit_item, visit-ended, visits-as, list-stop}
use Rattle.scopes.proofs.Models.{model_visit}
use Rattle.scopes.proofs.+decls.Goals as goal
use Rattle.scopes.proofs.+decls.Goals.{visit_decl-in-Type, visit_decl-in-Pred, visit_decl-in-Func, visit_decl-in-Const, visit_decl-in-Rule, visit_decl-in-Enum}

pub visit_decl-walk_arg_decl_list-end-requires : goal.visit_decl-walk_arg_decl_list-end-requires
unfolding kind_of
visit_decl-walk_arg_decl_list-end-requires t c = let o = decl-visits _ c.decl.ensures c.requires.0 _ c.in-Pred.is in ((sig_one _ o.ready c.pred_decl.ensures.second).first, c.requires.1)

pub visit_decl-walk_arg_decl_list-after_args-requires : goal.visit_decl-walk_arg_decl_list-after_args-requires
visit_decl-walk_arg_decl_list-after_args-requires t c = let o = decl-visits _ c.decl.ensures c.requires.0 _ c.in-Func.is in ((sig_two _ o.ready c.func_decl.ensures.second c.func_decl.ensures.third).first, c.requires.1)

pub visit_decl-walk_type_expr-end-requires : goal.visit_decl-walk_type_expr-end-requires
visit_decl-walk_type_expr-end-requires t c = let o = decl-visits _ c.decl.ensures c.requires.0 _ c.in-Func.is in let h = c.walk_arg_decl_list-after_args.ensures.walk in rw c.walk_arg_decl_list-after_args.ensures.keeps.image ((sig_two _ o.ready c.func_decl.ensures.second c.func_decl.ensures.third).second h, h.stands)

pub visit_decl-walk_type_expr-end-requires-in-Const : goal.visit_decl-walk_type_expr-end-requires-in-Const
unfolding kind_of
visit_decl-walk_type_expr-end-requires-in-Const t c = let o = decl-visits _ c.decl.ensures c.requires.0 _ c.in-Const.is in ((sig_one _ o.ready c.const_decl.ensures.second).first, c.requires.1)

pub visit_decl-walk_stmt_block-end-requires : goal.visit_decl-walk_stmt_block-end-requires
visit_decl-walk_stmt_block-end-requires t c = let o = decl-visits _ c.decl.ensures c.requires.0 _ c.in-Rule.is in ((rule_run _ o.ready c.rule_decl.ensures.list).run, c.requires.1)

pub visit_decl-visit_enum_decl-requires : goal.visit_decl-visit_enum_decl-requires
visit_decl-visit_enum_decl-requires t c = let o = decl-visits _ c.decl.ensures c.requires.0 _ c.in-Enum.is in (o.ready, c.requires.1)

pub visit_decl-visit_model_decl-requires : goal.visit_decl-visit_model_decl-requires
visit_decl-visit_model_decl-requires t c = let o = decl-visits _ c.decl.ensures c.requires.0 _ c.in-Model.is in (let l = o.low in let m = c.requires.0 in omega arith, (o.ready, c.requires.1))

pub visit_decl-returns-in-Model-clause-walk : goal.visit_decl-returns-in-Model-clause-walk
visit_decl-returns-in-Model-clause-walk t c = let o = decl-visits _ c.decl.ensures c.requires.0 _ c.in-Model.is in visits-as _ (sym o.whole) c.visit_model_decl.ensures.walk

-- the branches stand here and in the next answer: the record that both goals share goes only by a name of Rattle's own
pub visit_decl-put_back-requires : goal.visit_decl-put_back-requires
unfolding kind_of
visit_decl-put_back-requires t c =
    let k : c.match-decl.builder.image.now ≡ c.args.builder.now.image.now = search rules in
    rw k (passed-back _ (elim c.match-decl.branch [
      | visit_decl-in-Type w ↦ let o = decl-visits _ c.decl.ensures c.requires.0 _ w.in-Type.is in passed_in _ w.builder-is w.end-is (o.passed (record { stands = c.requires.1; path = here; whole = type-visit _ _ o.ready.is }))
      | visit_decl-in-Pred w ↦ let o = decl-visits _ c.decl.ensures c.requires.0 _ w.in-Pred.is in passed_in _ w.builder-is w.end-is (o.passed ((sig_one _ o.ready w.pred_decl.ensures.second).passed c.requires.1 w.walk_arg_decl_list-end.ensures.walk))
      | visit_decl-in-Func w ↦ let o = decl-visits _ c.decl.ensures c.requires.0 _ w.in-Func.is in passed_in _ w.builder-is w.end-is (o.passed ((sig_two _ o.ready w.func_decl.ensures.second w.func_decl.ensures.third).passed c.requires.1 w.walk_arg_decl_list-after_args.ensures.walk (rw w.walk_arg_decl_list-after_args.ensures.keeps.image at w.walk_type_expr-end.ensures.walk)))
      | visit_decl-in-Const w ↦ let o = decl-visits _ c.decl.ensures c.requires.0 _ w.in-Const.is in passed_in _ w.builder-is w.end-is (o.passed ((sig_one _ o.ready w.const_decl.ensures.second).passed c.requires.1 w.walk_type_expr-end-in-Const.ensures.walk))
      | visit_decl-in-Rule w ↦ let o = decl-visits _ c.decl.ensures c.requires.0 _ w.in-Rule.is in passed_in _ w.builder-is w.end-is (o.passed ((rule_run _ o.ready w.rule_decl.ensures.list).passed c.requires.1 w.walk_stmt_block-end.ensures.walk))
      | visit_decl-in-Enum w ↦ let o = decl-visits _ c.decl.ensures c.requires.0 _ w.in-Enum.is in passed_in _ w.builder-is w.end-is (o.passed (record { stands = w.visit_enum_decl.ensures.stands; path = here; whole = sym w.visit_enum_decl.ensures.walk }))
    ]))

pub visit_decl-returns-clause-walk : goal.visit_decl-returns-clause-walk
unfolding kind_of
visit_decl-returns-clause-walk t c =
    let k : c.match-decl.builder.image.now ≡ c.args.builder.now.image.now = search rules in
    let b = rw k at c.put_back.ensures in
    passed-visits _ _ c.requires.0.fits
    (elim c.match-decl.branch [
      | visit_decl-in-Type w ↦ let o = decl-visits _ c.decl.ensures c.requires.0 _ w.in-Type.is in passed_in _ w.builder-is w.end-is (o.passed (record { stands = c.requires.1; path = here; whole = type-visit _ _ o.ready.is }))
      | visit_decl-in-Pred w ↦ let o = decl-visits _ c.decl.ensures c.requires.0 _ w.in-Pred.is in passed_in _ w.builder-is w.end-is (o.passed ((sig_one _ o.ready w.pred_decl.ensures.second).passed c.requires.1 w.walk_arg_decl_list-end.ensures.walk))
      | visit_decl-in-Func w ↦ let o = decl-visits _ c.decl.ensures c.requires.0 _ w.in-Func.is in passed_in _ w.builder-is w.end-is (o.passed ((sig_two _ o.ready w.func_decl.ensures.second w.func_decl.ensures.third).passed c.requires.1 w.walk_arg_decl_list-after_args.ensures.walk (rw w.walk_arg_decl_list-after_args.ensures.keeps.image at w.walk_type_expr-end.ensures.walk)))
      | visit_decl-in-Const w ↦ let o = decl-visits _ c.decl.ensures c.requires.0 _ w.in-Const.is in passed_in _ w.builder-is w.end-is (o.passed ((sig_one _ o.ready w.const_decl.ensures.second).passed c.requires.1 w.walk_type_expr-end-in-Const.ensures.walk))
      | visit_decl-in-Rule w ↦ let o = decl-visits _ c.decl.ensures c.requires.0 _ w.in-Rule.is in passed_in _ w.builder-is w.end-is (o.passed ((rule_run _ o.ready w.rule_decl.ensures.list).passed c.requires.1 w.walk_stmt_block-end.ensures.walk))
      | visit_decl-in-Enum w ↦ let o = decl-visits _ c.decl.ensures c.requires.0 _ w.in-Enum.is in passed_in _ w.builder-is w.end-is (o.passed (record { stands = w.visit_enum_decl.ensures.stands; path = here; whole = sym w.visit_enum_decl.ensures.walk }))
    ])
    b.walk b.stands

pub visit_model_decl-walk_decls-requires : goal.visit_model_decl-walk_decls-requires
visit_model_decl-walk_decls-requires t c = let m = model_visit _ c.requires.0 c.model_decl.ensures.list c.new_scope-body_scope.ensures.walk (rw c.new_scope-body_scope.ensures.keeps.image at c.insert_unordered.ensures.walk) in (let q = m.own in let l = c.requires.0 in omega arith, rw (c.insert_unordered.ensures.keeps.image, c.new_scope-body_scope.ensures.keeps.image) (m.list, m.opens (c.insert_unordered.ensures.env ∙ c.new_scope-body_scope.ensures.env) c.requires.1))

pub visit_model_decl-returns-in_err-walk_decls-clause-walk : goal.visit_model_decl-returns-in_err-walk_decls-clause-walk
visit_model_decl-returns-in_err-walk_decls-clause-walk t c = let m = model_visit _ c.requires.0 c.model_decl.ensures.list c.new_scope-body_scope.ensures.walk (rw c.new_scope-body_scope.ensures.keeps.image at c.insert_unordered.ensures.walk) in m.stop _ refl (rw (c.insert_unordered.ensures.keeps.image, c.new_scope-body_scope.ensures.keeps.image) at c.in_err-walk_decls.ensures.walk) refl (handed-on _ _ c.from_residual.ensures.1)

pub visit_model_decl-leave_scope-requires : goal.visit_model_decl-leave_scope-requires
visit_model_decl-leave_scope-requires t c = let m = model_visit _ c.requires.0 c.model_decl.ensures.list c.new_scope-body_scope.ensures.walk (rw c.new_scope-body_scope.ensures.keeps.image at c.insert_unordered.ensures.walk) in rw (c.in_ok-walk_decls.ensures.keeps.image, c.insert_unordered.ensures.keeps.image, c.new_scope-body_scope.ensures.keeps.image) (m.leaves refl (rw (c.insert_unordered.ensures.keeps.image, c.new_scope-body_scope.ensures.keeps.image) at c.in_ok-walk_decls.ensures.walk) c.requires.1)

pub visit_model_decl-returns-clause-walk : goal.visit_model_decl-returns-clause-walk
visit_model_decl-returns-clause-walk t c = let m = model_visit _ c.requires.0 c.model_decl.ensures.list c.new_scope-body_scope.ensures.walk (rw c.new_scope-body_scope.ensures.keeps.image at c.insert_unordered.ensures.walk) in m.back_in refl (rw (c.insert_unordered.ensures.keeps.image, c.new_scope-body_scope.ensures.keeps.image) at c.in_ok-walk_decls.ensures.walk) refl c.requires.1 (rw (c.in_ok-walk_decls.ensures.keeps.image, c.insert_unordered.ensures.keeps.image, c.new_scope-body_scope.ensures.keeps.image) at c.leave_scope.ensures.stands) c.leave_scope.ensures.table

pub walk_decls-loop-decl-init : goal.walk_decls-loop-decl-init
walk_decls-loop-decl-init t c = names-begin c.requires c.into_iter-decl-iterator.ensures.into_iter_gives c.of-decl-items.ensures

pub walk_decls-enter_decl-requires : goal.walk_decls-enter_decl-requires
walk_decls-enter_decl-requires t c = let o = enter_item c.loop-decl.invariant c.in-Some.ensures.steps in (o.is, o.entering)

pub walk_decls-returns-in_err-enter_decl-clause-walk : goal.walk_decls-returns-in_err-enter_decl-clause-walk
walk_decls-returns-in_err-enter_decl-clause-walk t c = list-stop _ _ _ _ refl ((enter_item c.loop-decl.invariant c.in-Some.ensures.steps).stop _ refl c.in_err-enter_decl.ensures.walk refl) (handed-on _ _ c.from_residual.ensures.1)

pub walk_decls-loop-decl-preserved : goal.walk_decls-loop-decl-preserved
walk_decls-loop-decl-preserved t c = (enter_item c.loop-decl.invariant c.in-Some.ensures.steps).more refl c.in_ok-enter_decl.ensures.keeps c.in_ok-enter_decl.ensures.walk

pub walk_decls-loop-decl-2-init : goal.walk_decls-loop-decl-2-init
walk_decls-loop-decl-2-init t c = list-begin c.requires.0 c.loop-decl.invariant c.in-None.ensures.steps c.into_iter-decl-iterator-2.ensures.into_iter_gives c.of-decl-items-2.ensures

pub walk_decls-visit_decl-requires : goal.walk_decls-visit_decl-requires
walk_decls-visit_decl-requires t c = let o = visit_item c.loop-decl-2.invariant c.in-Some-decl.ensures.steps in (let l = o.low in omega arith, (o.ready, o.stands))

pub walk_decls-returns-in_err-visit_decl-clause-walk : goal.walk_decls-returns-in_err-visit_decl-clause-walk
walk_decls-returns-in_err-visit_decl-clause-walk t c =
    (visit_item c.loop-decl-2.invariant c.in-Some-decl.ensures.steps).stop _ refl c.in_err-visit_decl.ensures.walk (handed-on _ _ c.from_residual-in_err-visit_decl.ensures.1)

pub walk_decls-loop-decl-2-preserved : goal.walk_decls-loop-decl-2-preserved
walk_decls-loop-decl-2-preserved t c = (visit_item c.loop-decl-2.invariant c.in-Some-decl.ensures.steps).more refl c.in_ok-visit_decl.ensures.keeps c.in_ok-visit_decl.ensures.walk

pub walk_decls-returns-clause-walk : goal.walk_decls-returns-clause-walk
walk_decls-returns-clause-walk t c = visit-ended c.loop-decl-2.invariant c.in-None-decl.ensures.steps
