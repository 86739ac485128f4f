use mathlib.Core.Path.{sym, ap, ◌∙◌}
use native.Mathlib.Omega.{arith}
use Rattle.typed.specs.Nodes.{name_word}
use Rattle.environment.proofs.Asking.{arg-named}
use Rattle.bindings.proofs.Marking.{mark-unnamed, mark-new, mark-again}
use Rattle.bindings.proofs.BindingsChecker.mark_argument.Goals as goal

pub returns-in_default : goal.returns-in_default
returns-in_default c = mark-unnamed _ _ _ _ _ c.arg_decl-name.ensures.first (ap name_word c.in_default.is)

pub stamp-requires : goal.stamp-requires
stamp-requires c =
    ((arg-named _ c.requires.0 (sym (ap name_word c.in-Some.is) ∙ c.arg_decl-name.ensures.first)).below, let l = c.requires.1 in omega arith)

pub returns-then-not-stamp : goal.returns-then-not-stamp
returns-then-not-stamp c = mark-again _ _ _ _ _ _ c.arg_decl-name.ensures.first (ap name_word c.in-Some.is) c.stamp.ensures c.if-not-stamp.true c.mark.ensures

pub returns-else-not-stamp : goal.returns-else-not-stamp
returns-else-not-stamp c = mark-new _ _ _ _ _ _ c.arg_decl-name.ensures.first (ap name_word c.in-Some.is) c.stamp.ensures c.if-not-stamp.false
