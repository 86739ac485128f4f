use mathlib.Core.Path.{sym, ap, ap₂, ◌∙◌}
use mathlib.Core.List.{List, ◌++◌}
use Prim.Native.Nat.{ℕ}
use native.Mathlib.Omega.{arith}
use lib.ListN.{drop}
use Rattle.std.proofs.lemmas.List.{length-take-le}
use Rattle.ast.specs.Answer.{Answer}
use Rattle.error.proofs.Refused.{refusal-some}
use Rattle.index.proofs.Tests.{answered, call-refused, call-made, index-passed, front-room}
use Rattle.index.proofs.index.Goals as goal

pub returns-in_err-test_index : goal.returns-in_err-test_index
returns-in_err-test_index c =
    call-refused _ _ _ _ c.in_err-test_index.ensures (refusal-some _)
    ∙ ap (λ (a : Answer). record { answer = a; index = c.args.index.now }) (sym (answered _ _ c.from_residual.ensures.1))

pub slice_bounds-fill-end : goal.slice_bounds-fill-end
slice_bounds-fill-end c = let f = index-passed _ _ _ c.in_ok-test_index.ensures in let e = c.words_for.ensures in let l = f.2 in omega arith

pub slice_bounds-fill-end-2 : goal.slice_bounds-fill-end-2
slice_bounds-fill-end-2 c =
    let f = index-passed _ _ _ c.in_ok-test_index.ensures in let e = c.words_for.ensures in let l = f.2 in sym (length-take-le c.words_for.result c.args.index.now (omega arith))

pub fill-requires : goal.fill-requires
fill-requires c =
    let f = index-passed _ _ _ c.in_ok-test_index.ensures in let e = c.words_for.ensures in let l = f.2 in front-room _ _ _ f.0 f.1 _ e (omega arith)

pub returns : goal.returns
returns c =
    call-made _ _ _ c.in_ok-test_index.ensures _ c.get.ensures _ (ap₂ (λ (ws : List ℕ) (n : ℕ). ws ++ drop n c.args.index.now) c.fill.ensures c.words_for.ensures)
