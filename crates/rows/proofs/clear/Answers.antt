use mathlib.Core.Path.{ap, ◌∙◌}
use mathlib.Core.List.{List, ◌++◌}
use Prim.Native.Nat.{ℕ}
use lib.ListN.{drop, replicate}
use Rattle.std.proofs.lemmas.List.{length-take-le}
use Rattle.rows.specs.Rows.{cleared}
use Rattle.rows.proofs.clear.Goals as goal

pub returns : goal.returns
unfolding cleared
returns c =
    ap (λ (ws : List ℕ). ws ++ drop c.args.n c.args.words.now)
    (c.fill.ensures.after (λ y e. e) ∙ ap (λ (k : ℕ). replicate k 0) (length-take-le c.args.n c.args.words.now c.requires))
