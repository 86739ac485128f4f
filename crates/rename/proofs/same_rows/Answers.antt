use mathlib.Core.Path.{refl, ap, ◌∙◌}
use Prim.Native.Nat.{ℕ}
use native.Mathlib.Nat.{sub-zero}
use borrow.Author.Tests.{ne_eqb}
use Rattle.std.proofs.Common.{rules, tests}
use Rattle.std.proofs.lemmas.Iterator.{YieldsList-from_range}
use Rattle.std.proofs.lemmas.Iterator.Search.{all_from_yields_List}
use Rattle.rows.specs.Rows.{read_rows, shown}
use Rattle.rename.specs.Rename.{same_rows}
use Rattle.rename.proofs.RowLists.{alike, rows-all, rows-fewer}
use Rattle.rename.proofs.same_rows.Goals as goal

pub returns-then-own-list : goal.returns-then-own-list
returns-then-own-list c =
    let own = c.args.own in
    let list = c.args.list in
    all_from_yields_List (alike own.nodes own.words.now list.nodes list.words.now) _ _ _ c.all.ensures.ran (YieldsList-from_range 0 own.count own.count refl (sub-zero _)) (λ x b q k. search (rules, tests))
    ∙ rows-all own.nodes own.words.now list.nodes list.words.now own.count 0
    ∙ ap (λ (d : ℕ). same_rows (shown own) (read_rows list.nodes list.words.now d 0)) c.if-own-list.true

pub returns-else-own-list : goal.returns-else-own-list
returns-else-own-list c =
    let own = c.args.own in
    let list = c.args.list in
    ne_eqb _ _ c.if-own-list.false ∙ rows-fewer own.nodes own.words.now list.nodes list.words.now own.count list.count 0 c.if-own-list.false
