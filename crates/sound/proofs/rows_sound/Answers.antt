use mathlib.Core.Path.{refl, ap, ◌∙◌}
use native.Mathlib.Nat.{sub-zero}
use Rattle.std.proofs.Common.{rules, tests}
use lib.Dec.{eqb}
use Rattle.std.proofs.lemmas.Iterator.{YieldsList-from_range}
use Rattle.std.proofs.lemmas.Iterator.Search.{all_from_yields_List}
use Rattle.ast.specs.Tests.{need}
use Rattle.sound.specs.Sound.{row_sound}
use Rattle.sound.proofs.Sounds.{needs-run, row-need}
use Rattle.sound.proofs.rows_sound.Goals as goal

pub returns : goal.returns
returns c =
    let test = λ (j : _). eqb (row_sound c.args.image.now c.args.table.now j) 0 in
    ap (need 16) (all_from_yields_List test _ _ _ c.all.ensures.ran (YieldsList-from_range 0 c.args.symbols c.args.symbols refl (sub-zero _)) (λ x b q k. search (rules, tests)))
    ∙ needs-run _ test (row-need _ _) _ _
