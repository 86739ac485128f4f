use lib.ListN.{take}
use Rattle.lines.specs.Out.{Wrote}
use Rattle.lines.proofs.Printer.put_text.Given as goal

abbrev pub invariant-loop-byte : goal.invariant-loop-byte
invariant-loop-byte l = Wrote (take l.byte-index l.text) l.byte-index l.initial.self l.self
