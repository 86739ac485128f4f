use Rattle.typed.proofs.Lists.{Within}
use Rattle.bindings.specs.Errors.{repeated_in}
use Rattle.bindings.specs.Promises.{marked}
use Rattle.bindings.proofs.Marking.{Marking}
use Rattle.bindings.proofs.BindingsChecker.mark_list.Given as goal

abbrev pub invariant-loop-arg : goal.invariant-loop-arg
invariant-loop-arg l =
    Within l.self.scopes.image.now 10 l.fn.list.0.0 l.arg-iterator
    × Marking l.self.scopes.image.now l.fn.list.0.0 (marked (repeated_in l.self.scopes.image.now l.fn.list.0.0) l.initial.marks) l.arg-iterator l.marks l.stamps
