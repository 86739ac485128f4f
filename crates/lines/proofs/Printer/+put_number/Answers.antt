use mathlib.Core.Path.{sym, ap, ◌∙◌}
use mathlib.Core.List.{[], ◌∷◌}
use Prim.Native.Nat.{ℕ}
use native.Mathlib.Omega.{arith}
use Rattle.lines.proofs.Puts.{digits-small, wrote_as, wrote_digit}
use Rattle.lines.proofs.Printer.+put_number.Goals as goal

pub returns-then-n-lt10 : goal.returns-then-n-lt10
returns-then-n-lt10 t c = wrote_as (ap (λ (d : ℕ). d ∷ []) c.digit.ensures ∙ sym (digits-small c.args.n c.if-n-lt10.true)) (omega arith) c.put_byte.ensures

pub returns : goal.returns
returns t c = wrote_digit (let h = c.if-n-lt10.false in omega arith) (omega arith) c.put_number.ensures (wrote_as (ap (λ (d : ℕ). d ∷ []) c.digit-2.ensures) (omega arith) c.put_byte-2.ensures)
