use Prim.Native.Nat.{◌+◌, ◌-◌}
use Rattle.ast.specs.KindNumbers.{kind_number}
use Rattle.ast.specs.Times.{counts}
use Rattle.tests.specs.Grid.{admitted}
use Rattle.tests.proofs.Fields.{BlocksLeft}
use Rattle.tests.proofs.Row.lists.Given as goal

abbrev pub invariant-loop-i : goal.invariant-loop-i
invariant-loop-i l = BlocksLeft l.self.image.now.image.now l.self.node.0 (admitted (kind_number l.parent) l.place) l.count (l.self.at + 1) (counts l.initial.claims) (l.count - l.i) l.row (counts l.claims)
