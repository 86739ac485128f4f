-- The third demand of document 01, both halves, on what Occurrences leaves: for every image, table and rows for which the call
-- gives no refusal, where no module or model list declares one name twice.
--
-- What a place is, which places are in sight, which are naming, which definitions are fresh, which places are variable
-- occurrences and which two are `Same` is told in specs/Sight.antt by order and nesting alone: that file imports the image and
-- its tree, and nothing that knows scopes or tables. The list's order and "these rows list these occurrences" are told in
-- specs/Listing.antt.
use mathlib.Core.Path.{◌≡◌}
use mathlib.Core.Logic.{◌⊎◌, ◌↔◌}
use mathlib.Core.Bool.{false}
use mathlib.Core.List.{List}
use mathlib.Core.Option.{Option, some}
use Prim.Native.Nat.{ℕ, ◌≤◌}
use lib.ListN.{length}
use Rattle.ast.specs.Answer.{result}
use Rattle.ast.specs.Image.{nodes, kind_at, name_of}
use Rattle.ast.specs.Named.{app_head_kind, ident_term_kind, term_kind}
use Rattle.rows.specs.Rows.{Row, lefts, held}
use Rattle.scopes.specs.Resolve.{walked}
use Rattle.scopes.specs.Calls.{test_rows, RowsOutcome, rows_call}
use Rattle.scopes.specs.Twice.{declared_twice}
use Rattle.scopes.specs.Walk.{done}
use Rattle.scopes.proofs.Calls.{rows-table}
use Rattle.scopes.proofs.Single.{single-done}
use Rattle.table.specs.State.{Walked}
use Rattle.table.specs.Table.{lookup, exit_at}
use Rattle.occurrences.specs.Occurrences.{occurrences}
use Rattle.sight.specs.Sight.{Place, In, outer_const, Same}
use Rattle.ast.specs.Rules.{Rule, module_rules}
use Rattle.sight.proofs.Leaving.{answered, list-few, lists-all, lists-once, row_of, row-kinds, same-bindings}
use Rattle.sight.specs.Listing.{places_of, Occurs, AllRows, Distinct, Unrefused}
use Rattle.sound.specs.Sound.{table_in}
use Rattle.sight.proofs.Answering.{passes}

module _ (img tab rows : List ℕ) where
  -- what the call leaves: its answer, the table's words and the rows' words
  abbrev pub left : RowsOutcome
  left = occurrences img tab rows

  -- the list: the rows that it has written, a count, then N nodes, then N bindings
  abbrev pub list : List Row
  list = held (nodes img) left.rows

  -- the binding: the node that lookup of its name gives, in the table, at the exit of the occurrence's node
  abbrev pub binding : Place → Option ℕ
  binding p = lookup img (table_in img left.table) (exit_at img left.table p.node) (name_of img p.ident)

  module _ (unrefused : Unrefused left.answer) (once : declared_twice img ≡ false) where
    tested : test_rows img tab rows ≡ 0
    unfolding occurrences rows_call
    tested = passes img tab _ (test_rows img tab rows) unrefused

    -- the walk comes to its end
    ended : (e : Walked) × (walked img tab ≡ done e)
    ended = single-done img tab (rows-table img tab rows tested) once

    -- the call hands back how long the list is; there is room for all of it
    pub count : left.answer ≡ result 0 (length list)
    count = answered img tab rows tested ended.0 ended.1

    pub few : length list ≤ nodes img
    few = list-few img tab rows tested ended.0 ended.1

    -- (a) The list holds, rule after rule and in the list's order, exactly the variable occurrences of all rules, each with its
    -- binding, and nothing else;
    pub occurrences-listed : AllRows img binding (module_rules img) list
    occurrences-listed = lists-all img tab rows tested ended.0 ended.1

    -- each once.
    pub each-once : Distinct (lefts list)
    each-once = lists-once img tab rows tested ended.0 ended.1

    -- (a) row by row: a row is in the list exactly if its node is the node of a variable occurrence of some rule, and its second
    -- number is the binding of that occurrence.
    pub row_is : (w : Row) → In w list ↔
        ((r : Rule) × In r (module_rules img)
        × ((p : Place) × In p (places_of r) × (Occurs img r p × (w.left ≡ p.node) × (binding p ≡ some w.right))))
    row_is w = row_of img tab rows tested ended.0 ended.1 w

    -- The nodes are Terms and AppHeads, the bindings IdentTerms.
    pub row-kind : (w : Row) → In w list → ((kind_at img w.left ≡ term_kind) ⊎ (kind_at img w.left ≡ app_head_kind)) × (kind_at img w.right ≡ ident_term_kind)
    row-kind w i = row-kinds img tab rows tested ended.0 ended.1 w i

    -- (b) For every two variable occurrences of one rule, with their rows in the list, the listed bindings are equal exactly when
    -- the two carry one name and some naming place of it stands at or before both and is in sight of both, and no fresh
    -- definition of it stands after that place, at or before one of the two and in sight of that one.
    pub equal-exactly : (r : Rule) → In r (module_rules img)
        → (p q : Place) → In p (places_of r) → In q (places_of r) → Occurs img r p → Occurs img r q
        → (w v : Row) → In w list → In v list → w.left ≡ p.node → v.left ≡ q.node
        → (w.right ≡ v.right) ↔ Same (name_of img) (outer_const img r) (places_of r) p q
    equal-exactly r i p q j k o u w v x y m n = same-bindings img tab rows tested ended.0 ended.1 r i p q j k o u w v x y m n
