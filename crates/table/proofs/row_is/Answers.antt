use mathlib.Core.Path.{sym, ap, ◌∙◌}
use Prim.Native.Nat.{ℕ}
use lib.Dec.{eqb}
use borrow.Author.Tests.{eqb-true, eqb-false}
use Rattle.ast.specs.Image.{name_of}
use Rattle.table.proofs.Finds.{row_in, row_out}
use Rattle.table.proofs.row_is.Goals as goal

pub returns-then-eq : goal.returns-then-eq
returns-then-eq c =
    let a = c.args in
    ap (λ (m : ℕ). eqb m a.name) (c.name_of.ensures ∙ ap (name_of a.image.now) c.symbol_node.ensures)
    ∙ sym (row_in _ _ a.j a.scope.0 a.name (sym c.symbol_scope.ensures ∙ eqb-true _ _ (sym c.eq.ensures ∙ c.if-eq.true)))

pub returns-else-eq : goal.returns-else-eq
returns-else-eq c = c.if-eq.false ∙ sym (row_out _ _ _ _ _ (λ e. eqb-false _ _ (sym c.eq.ensures ∙ c.if-eq.false) (c.symbol_scope.ensures ∙ e)))
