use mathlib.Core.Path.{refl}
use Rattle.ast.specs.Kinds.{kind_of}
use Rattle.environment.proofs.Steps.{keeps-then}
use Rattle.scopes.proofs.Visiting.{visit_item, enum-short, enum-begin, sig_one, passed-visits, visit-ended}
use Rattle.scopes.proofs.visit_enum_decl.Goals as goal

pub of-ctor-items-requires : goal.of-ctor-items-requires
of-ctor-items-requires c = enum-short _ c.requires.0.is c.enum_decl.ensures.list

pub loop-ctor-init : goal.loop-ctor-init
loop-ctor-init c = enum-begin c.requires c.enum_decl.ensures.list c.into_iter-ctor-iterator.ensures.into_iter_gives c.of-ctor-items.ensures

pub walk_arg_decl_list-after_args-requires : goal.walk_arg_decl_list-after_args-requires
unfolding kind_of
walk_arg_decl_list-after_args-requires c = let o = visit_item c.loop-ctor.invariant c.in-Some.ensures.steps in ((sig_one _ o.ready c.ctor_decl.ensures.second).first, o.stands)

pub put_back-requires : goal.put_back-requires
unfolding kind_of
put_back-requires c =
    let o = visit_item c.loop-ctor.invariant c.in-Some.ensures.steps in
    let p = (sig_one _ o.ready c.ctor_decl.ensures.second).passed o.stands c.walk_arg_decl_list-after_args.ensures.walk in
    rw c.walk_arg_decl_list-after_args.ensures.keeps.image (p.stands, p.path)

pub loop-ctor-preserved : goal.loop-ctor-preserved
unfolding kind_of
loop-ctor-preserved c =
    let o = visit_item c.loop-ctor.invariant c.in-Some.ensures.steps in
    let p = (sig_one _ o.ready c.ctor_decl.ensures.second).passed o.stands c.walk_arg_decl_list-after_args.ensures.walk in
    let b = rw c.walk_arg_decl_list-after_args.ensures.keeps.image at c.put_back.ensures in
    o.more refl (keeps-then c.walk_arg_decl_list-after_args.ensures.keeps c.put_back.ensures.keeps) (passed-visits _ _ o.ready.fits p b.walk b.stands)

pub returns-clause-walk : goal.returns-clause-walk
returns-clause-walk c = (visit-ended c.loop-ctor.invariant c.in-None.ensures.steps).same
