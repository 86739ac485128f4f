use mathlib.Core.Path.{sym, ap, ◌∙◌}
use lib.ListN.{set}
use Rattle.std.proofs.lemmas.List.{map-set}
use Rattle.std.proofs.Math.ListN.{get_or-map}
use Rattle.ast.specs.Promises.{bump}
use Rattle.ast.specs.Times.{times_number, counts}
use Rattle.ast.specs.declared.times.Times.TheVariants as times
use Rattle.occurrences.proofs.count_binding.Goals as goal

pub returns-then-binding-lt2048 : goal.returns-then-binding-lt2048
returns-then-binding-lt2048 c =
    map-set times_number c.args.times.now c.args.binding c.more.result
    ∙ ap (set (counts c.args.times.now) c.args.binding) (c.more.ensures ∙ ap bump (sym (get_or-map times_number c.args.times.now c.args.binding times.Never)))
