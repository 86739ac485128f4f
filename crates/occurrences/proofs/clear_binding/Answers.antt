use Rattle.std.proofs.lemmas.List.{map-set}
use Rattle.ast.specs.Times.{times_number}
use Rattle.ast.specs.declared.times.Times.TheVariants as times
use Rattle.occurrences.proofs.clear_binding.Goals as goal

pub returns-then-binding-lt2048 : goal.returns-then-binding-lt2048
returns-then-binding-lt2048 c = map-set times_number c.args.times.now c.args.binding times.Never
