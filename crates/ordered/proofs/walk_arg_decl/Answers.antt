use borrow.Author.Rules.{rules}
use mathlib.Core.Path.{◌≡◌, refl, sym, ap, ◌∙◌}
use native.Mathlib.Omega.{arith}
use Rattle.typed.specs.Nodes.{name_word}
use Rattle.environment.proofs.Asking.{arg-named}
use Rattle.ordered.proofs.Args.{arg_of}
use Rattle.ordered.proofs.Ends.{ends_in, arg-ends, arg-ends-bare, arg-room}
use Rattle.ordered.proofs.walk_arg_decl.Goals as goal
use Rattle.ordered.proofs.walk_arg_decl.Goals.{in-Some, in-None}

pub walk_type_expr-after_type-requires : goal.walk_type_expr-after_type-requires
walk_type_expr-after_type-requires c = ((arg_of _ c.requires.0 c.arg_decl-name.ensures.second).first, c.requires.1)

pub introduce-exit-requires : goal.introduce-exit-requires
introduce-exit-requires c =
    let r = arg-room _ c.requires.0 c.arg_decl-name.ensures.second (λ z. let y = sym (c.arg_decl-name.ensures.first ∙ z) ∙ ap name_word c.in-Some.is in omega arith) c.walk_type_expr-after_type.ensures.walk.same in
    rw c.walk_type_expr-after_type.ensures.keeps.image (c.walk_type_expr-after_type.ensures.walk.stands, arg-named _ c.requires.0.is (let y = sym (ap name_word c.in-Some.is) ∙ c.arg_decl-name.ensures.first in omega arith), r.0, r.1)

pub returns-clause-walk : goal.returns-clause-walk
returns-clause-walk c =
    let k : c.match-name.builder.image.now ≡ c.args.builder.now.image.now = search rules in
    let l = rw k at c.leave.ensures.walk in
    elim c.match-name.branch [
      | in-Some w ↦
          arg-ends _ c.requires.0 c.arg_decl-name.ensures.second (λ z. let y = sym (c.arg_decl-name.ensures.first ∙ z) ∙ ap name_word w.in-Some.is in omega arith) c.walk_type_expr-after_type.ensures.walk
          (ends_in _ w.builder-is w.exit-is refl (let i = rw c.walk_type_expr-after_type.ensures.keeps.image at w.introduce-exit.ensures in record { same = i.walk; stands = i.stands }))
          l c.leave.ensures.env
      | in-None w ↦
          arg-ends-bare _ c.requires.0 c.arg_decl-name.ensures.second (sym c.arg_decl-name.ensures.first ∙ ap name_word w.in-None.is)
          (ends_in _ w.builder-is w.exit-is refl c.walk_type_expr-after_type.ensures.walk)
          l c.leave.ensures.env
    ]
