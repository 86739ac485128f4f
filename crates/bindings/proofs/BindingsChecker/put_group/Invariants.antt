use Prim.Native.Nat.{◌+◌, ◌*◌}
use Rattle.std.specs.Prelude.{min}
use Rattle.ast.specs.Image.{nodes}
use Rattle.rows.proofs.Parts.{Left}
use Rattle.bindings.specs.Promises.{span_rows, group_rows}
use Rattle.bindings.proofs.BindingsChecker.put_group.Given as goal

abbrev pub invariant-loop-m : goal.invariant-loop-m
invariant-loop-m l =
    Left (group_rows l.self.scopes.image.now l.fn.group) (span_rows l.self.scopes.image.now l.m (min (l.fn.group * 32 + 32) (nodes l.self.scopes.image.now))) l.initial.rows l.rows
