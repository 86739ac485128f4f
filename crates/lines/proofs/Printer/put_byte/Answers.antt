use mathlib.Core.Path.{refl, sym}
use native.Mathlib.Omega.{arith}
use Rattle.lines.proofs.Puts.{put-there, put-past, wrote_byte}
use Rattle.lines.proofs.Printer.put_byte.Goals as goal

pub returns-then-self : goal.returns-then-self
returns-then-self c = wrote_byte c.args.byte refl (sym (put-there c.args.byte c.args.self.now.place c.args.self.now.bytes.now (omega arith)))

pub returns-else-self : goal.returns-else-self
returns-else-self c = wrote_byte c.args.byte refl (sym (put-past c.args.byte c.args.self.now.place c.args.self.now.bytes.now (omega arith)))
