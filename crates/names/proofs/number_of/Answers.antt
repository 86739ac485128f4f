use mathlib.Core.Path.{refl, sym, ap, ◌∙◌}
use native.Mathlib.Nat.{sub-zero}
use lib.Dec.{eqb}
use Rattle.std.specs.Cmp.Lexicographic.{pointwise}
use Rattle.std.proofs.Common.{rules, tests}
use Rattle.std.proofs.lemmas.Iterator.{YieldsList-from_range}
use Rattle.std.proofs.lemmas.Iterator.Search.{find_from_yields_List}
use Rattle.ast.specs.Image.{name_bytes}
use Rattle.ast.proofs.Accepted.{named}
use Rattle.names.specs.Number.{number_in}
use Rattle.names.proofs.Numbers.{number_same, number-find}
use Rattle.names.proofs.number_of.Goals as goal

pub invariant_of-names : goal.invariant_of-names
invariant_of-names c = record { rising_all = (named _ c.args.image.now.accepted).rising_all }

pub returns : goal.returns
returns c =
    let test = λ (i : _). pointwise eqb (name_bytes c.args.image.now.sized.image.now i) c.args.name.now in
    sym (number_same c.find.result)
    ∙ ap number_in (find_from_yields_List test _ _ _ c.find.ensures.ran (YieldsList-from_range 0 c.args.image.now.sized.sizes.names c.args.image.now.sized.sizes.names refl (sub-zero _)) (λ x b q k. search (rules, tests)))
    ∙ number-find c.args.image.now.sized.image.now c.args.name.now _ c.args.image.now.sized.within.head.names_are
