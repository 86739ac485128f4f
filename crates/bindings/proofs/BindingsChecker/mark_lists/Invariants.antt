use mathlib.Core.Path.{◌≡◌}
use Rattle.bindings.specs.Errors.{repeated_to}
use Rattle.bindings.specs.Promises.{marked, Earlier}
use Rattle.bindings.proofs.BindingsChecker.mark_lists.Given as goal

abbrev pub invariant-loop-m : goal.invariant-loop-m
invariant-loop-m l = (l.marks ≡ marked (repeated_to l.self.scopes.image.now l.m) l.initial.marks) × Earlier l.m l.stamps
