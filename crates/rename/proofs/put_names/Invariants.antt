use Rattle.rename.proofs.RowLists.{Putting}
use Rattle.rows.specs.Rows.{shown}
use Rattle.rename.proofs.put_names.Given as goal

abbrev pub invariant-loop-node : goal.invariant-loop-node
invariant-loop-node l = Putting l.initial.image l.initial.binding.0 l.initial.name (shown l.initial.list) l.initial.new l.node-iterator l.new
