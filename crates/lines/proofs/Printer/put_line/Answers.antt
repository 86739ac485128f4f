use mathlib.Core.Path.{refl}
use native.Mathlib.Omega.{arith}
use Rattle.lines.proofs.Puts.{wrote_none, wrote-next, wrote_as, wrote_field, wrote_numbers}
use Rattle.lines.proofs.Printer.put_line.Goals as goal

pub loop-n-init : goal.loop-n-init
loop-n-init c = wrote_none _

pub loop-n-preserved : goal.loop-n-preserved
loop-n-preserved c = wrote_field c.args.values.now (omega arith) refl c.loop-n.invariant c.put_byte.ensures c.put_number.ensures

pub returns : goal.returns
returns c = wrote_as refl (omega arith) (wrote-next c.put_text.ensures (wrote_numbers c.args.values.now (omega arith) c.loop-n.invariant c.put_byte-2.ensures))
