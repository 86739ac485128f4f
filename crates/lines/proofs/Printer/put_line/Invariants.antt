use Prim.Native.Nat.{◌*◌}
use lib.ListN.{take}
use Rattle.lines.specs.Out.{Wrote}
use Rattle.lines.proofs.Puts.{fields}
use Rattle.lines.proofs.Printer.put_line.Given as goal

abbrev pub invariant-loop-n : goal.invariant-loop-n
invariant-loop-n l = Wrote (fields (take l.n-index l.values)) (11 * l.n-index) l.initial.self l.self
