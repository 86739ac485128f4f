use Rattle.typed.specs.Items.{trees_of}
use Rattle.typed.proofs.Lists.{Within}
use Rattle.environment.specs.Builder.{walked_of}
use Rattle.ordered.specs.Walk.{occurs}
use Rattle.ordered.specs.Promises.{inside}
use Rattle.ordered.proofs.Lists.{Left}
use Rattle.ordered.proofs.walk_arg_decl_list.Given as goal

abbrev pub invariant-loop-arg : goal.invariant-loop-arg
invariant-loop-arg l =
    Within l.fn.builder.image.now 10 l.fn.list.0.0 l.arg-iterator
    × Left occurs (inside l.fn.builder.image.now occurs l.fn.list.0.0 (walked_of l.fn.builder l.fn.current)) (trees_of l.arg-iterator) l.fn.builder l.builder l.cur
