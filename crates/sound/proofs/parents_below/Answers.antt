use mathlib.Core.Path.{refl, ap, ◌∙◌}
use Prim.Native.Nat.{◌-◌}
use Rattle.std.proofs.Common.{rules, tests}
use lib.Dec.{ltb}
use lib.ListN.{get_or}
use Rattle.std.proofs.lemmas.Iterator.{YieldsList-from_range}
use Rattle.std.proofs.lemmas.Iterator.Search.{all_from_yields_List}
use Rattle.ast.specs.Image.{nodes}
use Rattle.ast.specs.Tests.{need}
use Rattle.table.specs.Layout.{parent_place}
use Rattle.sound.specs.Sound.{parent_below}
use Rattle.sound.proofs.Sounds.{needs-run}
use Rattle.sound.proofs.parents_below.Goals as goal

pub returns : goal.returns
unfolding parent_below
returns c =
    let test = λ (s : _). ltb (get_or c.args.table.now (parent_place (nodes c.args.image.now) s) 0) s in
    ap (need 16) (all_from_yields_List test _ _ _ c.all.ensures.ran (YieldsList-from_range 1 c.args.scopes (c.args.scopes - 1) refl refl) (λ x b q k. search (rules, tests)))
    ∙ needs-run _ test (λ i. refl) _ _
