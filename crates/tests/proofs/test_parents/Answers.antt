use mathlib.Core.Path.{sym, ap, ◌∙◌}
use native.Mathlib.Omega.{arith}
use Prim.Native.Nat.{◌-◌}
use Rattle.std.proofs.Math.ListN.{get_or-map}
use Rattle.std.proofs.lemmas.List.{length-take-le, get_or-take}
use Rattle.ast.specs.Times.{times_number}
use Rattle.ast.specs.declared.times.Times.TheVariants as times
use Rattle.tests.proofs.Fields.{is-once, not_once}
use Rattle.ast.specs.Image as images
use Rattle.ast.proofs.Runs.{seen_next, seen_first, seen_end, once, not-once}
use Rattle.tests.proofs.Whole.{parents-are}
use Rattle.tests.proofs.test_parents.Goals as goal
use Rattle.tests.proofs.test_parents.Goals.{then-ne, else-ne}

pub loop-claim-preserved : goal.loop-claim-preserved
unfolding images.last
loop-claim-preserved c =
    let e = c.args.image.now.within.head.nodes_are in
    let some = c.args.image.now.within.some in
    let few = c.args.image.now.within.few in
    let long = length-take-le (c.args.image.now.sizes.nodes - 1) c.args.claims.now (let h = c.told-claims in omega arith) in
    let v = c.loop-claim-test.true in
    let seen = c.loop-claim.invariant in
    let g = get_or-map times_number c.args.claims.now c.loop-claim.claim-index times.Never in
    let t = get_or-take (c.args.image.now.sizes.nodes - 1) c.args.claims.now c.loop-claim.claim-index times.Never (omega arith) in
    elim c.if-ne.branch [
      | then-ne w ↦ rw w.parents-is (seen_first _ _ _ _ _ seen (omega arith) (not-once _ _ _ (omega arith) c.requires (λ q. not_once _ (sym c.ne.ensures ∙ w.if-ne.true) (ap times_number t ∙ sym g ∙ q))) (λ z. omega arith))
      | else-ne w ↦ rw w.parents-is (seen_next _ _ _ _ _ seen (omega arith) (once _ _ _ (omega arith) c.requires (g ∙ ap times_number (sym t) ∙ is-once _ (sym c.ne.ensures ∙ w.if-ne.false))))
    ]

pub returns : goal.returns
unfolding images.last
returns c =
    let e = c.args.image.now.within.head.nodes_are in
    let few = c.args.image.now.within.few in
    let long = length-take-le (c.args.image.now.sizes.nodes - 1) c.args.claims.now (let h = c.told-claims in omega arith) in
    sym (parents-are _ ∙ seen_end _ _ _ _ _ c.loop-claim.invariant (let u = c.loop-claim-test.false in omega arith))
