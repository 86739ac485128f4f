use mathlib.Core.Path.{refl}
use native.Mathlib.Omega.{arith}
use Rattle.lines.proofs.Puts.{wrote_none, wrote_more}
use Rattle.lines.proofs.Printer.put_text.Goals as goal

pub loop-byte-init : goal.loop-byte-init
loop-byte-init c = wrote_none _

pub loop-byte-preserved : goal.loop-byte-preserved
loop-byte-preserved c = wrote_more c.args.text.now (omega arith) refl c.loop-byte.invariant c.put_byte.ensures
