use mathlib.Core.Path.{◌≡◌, sym, ap, ◌∙◌}
use native.Mathlib.Omega.{arith}
use Prim.Native.Nat.{◌-◌}
use borrow.Author.Tests.{eqb-true, eqb-false}
use Rattle.ast.specs.Image.{kind_at}
use Rattle.ast.specs.Image as image
use Rattle.error.proofs.Refused.{refusal-some, passed-on}
use Rattle.tests.proofs.Whole.{tree-open, tree-top, tree-parents, tree-vars}
use Rattle.tests.proofs.test_tree.Goals as goal
use Rattle.tests.proofs.test_tree.Goals.{then-end-image-via-then-end-image, then-end-image-via-else-end-image+then-not-is_kind}

pub returns-then-end-image : goal.returns-then-end-image
unfolding image.last
returns-then-end-image c =
    let some = c.args.image.now.within.some in
    let n = c.args.image.now.within.head.nodes_are in
    let o = c.args.image.now.within.head.operands_are in
    let q : c.args.image.now.sizes.nodes - 1 ≡ image.last c.args.image.now.image.now = omega arith in
    sym (elim c.then-end-image.branch [
      | then-end-image-via-then-end-image w ↦ tree-open _ _ (omega arith) c.requires.end (λ e. w.if-end-image.true (e ∙ sym o))
      | then-end-image-via-else-end-image+then-not-is_kind w ↦
          tree-top _ _ (omega arith) c.requires.end (w.if-end-image.false ∙ o) (λ e. eqb-false _ _ (sym w.is_kind.ensures ∙ w.if-not-is_kind.true) (ap (kind_at c.args.image.now.image.now) q ∙ e))
    ])

pub returns-in_err-test_parents : goal.returns-in_err-test_parents
unfolding image.last
returns-in_err-test_parents c = let q : c.args.image.now.sizes.nodes - 1 ≡ image.last c.args.image.now.image.now = (let n = c.args.image.now.within.head.nodes_are in omega arith) in passed-on _ _ c.from_residual.ensures.1 ∙ (sym (tree-parents _ _ (let s = c.args.image.now.within in let h = c.args.image.now.within.head.nodes_are in omega arith) c.requires.end (c.if-end-image.false ∙ c.args.image.now.within.head.operands_are) (ap (kind_at c.args.image.now.image.now) (sym q) ∙ eqb-true _ _ (sym c.is_kind.ensures ∙ c.if-not-is_kind.false)) _ (sym c.in_err-test_parents.ensures) (refusal-some _)))

pub returns : goal.returns
unfolding image.last
returns c = let q : c.args.image.now.sizes.nodes - 1 ≡ image.last c.args.image.now.image.now = (let n = c.args.image.now.within.head.nodes_are in omega arith) in c.test_vars.ensures ∙ sym (tree-vars _ _ (let s = c.args.image.now.within in let h = c.args.image.now.within.head.nodes_are in omega arith) c.requires.end (c.if-end-image.false ∙ c.args.image.now.within.head.operands_are) (ap (kind_at c.args.image.now.image.now) (sym q) ∙ eqb-true _ _ (sym c.is_kind.ensures ∙ c.if-not-is_kind.false)) (sym c.in_ok-test_parents.ensures))
