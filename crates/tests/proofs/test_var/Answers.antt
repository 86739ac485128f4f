use mathlib.Core.Path.{sym, ap, ◌∙◌}
use Rattle.ast.specs.Tests.{is_var}
use Rattle.typed.specs.Nodes.{term_word}
use Rattle.std.proofs.lemmas.Bool.{or_parts}
use Rattle.tests.proofs.Whole.{the-other, var-if, var-other, var-none, var-then}
use Rattle.tests.proofs.test_var.Goals as goal

pub returns-then-not-if_var-is_kind : goal.returns-then-not-if_var-is_kind
returns-then-not-if_var-is_kind c =
    let n = or_parts _ _ c.if-not-if_var-is_kind.true in
    sym (var-other _ _ (sym c.is_kind-if_var.ensures ∙ n.0) (sym c.is_kind.ensures ∙ n.1))

pub returns-then-if_var : goal.returns-then-if_var
returns-then-if_var c = c.test_term.ensures ∙ ap (is_var _) c.var_if_atom.ensures.first ∙ sym (var-if _ _ (sym c.is_kind-if_var.ensures ∙ c.if-if_var.true))

pub returns-in-Some : goal.returns-in-Some
returns-in-Some c =
    let t = the-other _ _ c.if-not-if_var-is_kind.false c.if-if_var.false in
    c.test_term-in-Some.ensures
    ∙ sym (var-then _ _ (sym c.is_kind-if_var.ensures ∙ c.if-if_var.false) (sym c.is_kind.ensures ∙ t) _ (sym (ap term_word c.in-Some.is) ∙ c.defined_then_atom.ensures.first))

pub returns-in-None : goal.returns-in-None
returns-in-None c =
    let t = the-other _ _ c.if-not-if_var-is_kind.false c.if-if_var.false in
    sym (var-none _ _ (sym c.is_kind-if_var.ensures ∙ c.if-if_var.false) (sym c.is_kind.ensures ∙ t) (sym (ap term_word c.in-None.is) ∙ c.defined_then_atom.ensures.first))
