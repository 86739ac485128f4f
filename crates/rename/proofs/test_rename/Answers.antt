use mathlib.Core.Path.{sym, ap, ◌∙◌}
use mathlib.Core.List.{List}
use Prim.Native.Nat.{ℕ}
use native.Mathlib.Omega.{arith}
use Rattle.rows.specs.Rows.{shown}
use Rattle.rename.specs.Rename.{same_rows, occurrence_list}
use Rattle.rename.proofs.Ways.{no-binding, no-name, other-list, same-list}
use Rattle.rename.proofs.test_rename.Goals as goal

pub returns-then-not-is_binding : goal.returns-then-not-is_binding
returns-then-not-is_binding c = no-binding _ _ _ _ (sym c.if-not-is_binding.true ∙ c.is_binding.ensures)

pub returns-then-sizes_of-name : goal.returns-then-sizes_of-name
returns-then-sizes_of-name c =
    let e = c.sizes_of.ensures.names_are in no-name _ _ _ _ (sym c.if-not-is_binding.false ∙ c.is_binding.ensures) (omega arith)

pub returns-then-not-lists : goal.returns-then-not-lists
returns-then-not-lists c =
    let e = c.sizes_of.ensures.names_are in
    other-list _ _ _ _ (sym c.if-not-is_binding.false ∙ c.is_binding.ensures) (omega arith)
    (sym c.if-not-lists.true ∙ c.lists.ensures ∙ ap (λ (n : List ℕ). same_rows (occurrence_list n) (shown c.args.list)) c.requires)

pub returns : goal.returns
returns c =
    let e = c.sizes_of.ensures.names_are in
    same-list _ _ _ _ (sym c.if-not-is_binding.false ∙ c.is_binding.ensures) (omega arith)
    (sym c.if-not-lists.false ∙ c.lists.ensures ∙ ap (λ (n : List ℕ). same_rows (occurrence_list n) (shown c.args.list)) c.requires)
