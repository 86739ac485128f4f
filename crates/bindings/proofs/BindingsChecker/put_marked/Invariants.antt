use Prim.Native.Nat.{◌*◌}
use Rattle.rows.proofs.Parts.{Left}
use Rattle.bindings.specs.Errors.{strict_rows}
use Rattle.bindings.proofs.Marking.{strict_left}
use Rattle.bindings.proofs.BindingsChecker.put_marked.Given as goal

abbrev pub invariant-loop-group : goal.invariant-loop-group
invariant-loop-group l = Left (strict_rows l.self.scopes.image.now) (strict_left l.self.scopes.image.now (l.group * 32)) l.initial.rows l.rows
