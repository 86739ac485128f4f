use mathlib.Core.Path.{sym, ap, ◌∙◌}
use borrow.Author.Tests.{le-ltb}
use Rattle.ast.specs.Tests.{need}
use Rattle.sound.specs.Sound.{is_symbol}
use Rattle.sound.proofs.Sounds.{needed, row_out, row_in}
use Rattle.ast.proofs.Scans.{need-out}
use Rattle.sound.proofs.row_sound.Goals as goal

pub returns-then-symbol_scope-get : goal.returns-then-symbol_scope-get
returns-then-symbol_scope-get c =
    let s = c.symbol_scope.ensures in
    let g = c.get.ensures in
    needed _ _ (ap (need 16) (c.is_symbol.ensures ∙ ap (is_symbol c.args.image.now) c.symbol_node.ensures) ∙ sym (row_in _ _ _ (rw (s, g) at c.if-symbol_scope-get.true)))

pub returns-else-symbol_scope-get : goal.returns-else-symbol_scope-get
returns-else-symbol_scope-get c =
    let s = c.symbol_scope.ensures in
    let g = c.get.ensures in
    needed _ _ (need-out 16 _ (le-ltb _ _ c.if-symbol_scope-get.false) ∙ sym (row_out _ _ _ (rw (s, g) at c.if-symbol_scope-get.false)))
