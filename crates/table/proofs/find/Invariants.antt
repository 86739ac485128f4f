use mathlib.Core.Path.{◌≡◌}
use Prim.Native.Nat.{◌-◌, ◌≤◌}
use Rattle.table.specs.Table.{find_from}
use Rattle.table.proofs.find.Given as goal

abbrev pub invariant-loop-j : goal.invariant-loop-j
invariant-loop-j l =
    (l.j ≤ l.symbols) × (find_from l.image l.symbols l.table 0 l.scope.0 l.name ≡ find_from l.image (l.symbols - l.j) l.table l.j l.scope.0 l.name)
