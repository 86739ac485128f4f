use mathlib.Core.Path.{sym, ◌∙◌}
use native.Mathlib.Omega.{arith}
use Rattle.sound.proofs.Sounds.{symbol-out, symbol-none, symbol-named, symbol-yes}
use Rattle.sound.proofs.is_symbol.Goals as goal

pub returns-then-node_count-node : goal.returns-then-node_count-node
returns-then-node_count-node c = sym (symbol-out _ _ (omega arith))

pub returns-in_default : goal.returns-in_default
returns-in_default c = sym (symbol-none _ _ (omega arith) _ c.kind_at.ensures c.in_default.ensures.some)

pub returns-in-Rule : goal.returns-in-Rule
returns-in-Rule c = c.has_name.ensures ∙ sym (symbol-named _ _ (omega arith) _ c.kind_at.ensures _ c.in-Some.ensures.number c.in-Some.ensures.some c.in-Rule.is)

pub returns-in_default-symbol : goal.returns-in_default-symbol
returns-in_default-symbol c =
    sym (symbol-yes _ _ (omega arith) _ c.kind_at.ensures _ c.in-Some.ensures.number c.in-Some.ensures.some c.in_default-symbol.not-Rule c.in_default-symbol.not-Arg)
