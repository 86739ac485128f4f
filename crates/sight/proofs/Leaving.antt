-- What Occurrences leaves where it refuses nothing and no name is declared twice: the resolver's table, and the list.
use mathlib.Core.Path.{◌≡◌, sym, ◌∙◌, ap, ap₂, subst, fun_ext}
use mathlib.Core.Logic.{◌⊎◌, inl, inr, ◌↔◌}
use mathlib.Core.List.{List}
use mathlib.Core.Option.{Option, some}
use Prim.Native.Nat.{ℕ, ◌≤◌}
use lib.ListN.{length}
use borrow.Author.Tests.{eqb-true}
use Rattle.ast.specs.Answer.{result}
use Rattle.ast.specs.Image.{nodes, kind_at, name_of}
use Rattle.ast.specs.Tests.{verdict}
use Rattle.rows.specs.Rows.{Row, row, lefts, held}
use Rattle.scopes.specs.Resolve.{walked, headed, counted}
use Rattle.scopes.specs.Calls.{test_rows, RowsOutcome}
use Rattle.scopes.specs.Walk.{done}
use Rattle.table.specs.State.{Walked}
use Rattle.table.specs.Table.{Table, lookup, is_kind, exit_at}
use Rattle.scopes.proofs.Calls.{rows-table, rowed-done, rowed-held, rowed-count}
use Rattle.scopes.proofs.Resolving.{table-accepted}
use Rattle.occurrences.specs.Occurrences.{occurrence_rows, occurrences}
use Rattle.occurrences.proofs.Few.{rows_few}
use Rattle.sight.specs.Sight.{Sort, ordinary, declared, applied, defined, Place, In, outer_const, Same}
use Rattle.ast.specs.Rules.{Rule, module_rules}
use Rattle.sight.specs.Listing.{places_of, Occurs, AllRows, Distinct}
use Rattle.sound.specs.Sound.{table_in}
use Rattle.sight.proofs.Resolving.{resolved, left-lookup}
use Rattle.sight.proofs.RowLaws.{binding_of, RowAt, all-only, all-all, one-row, rows-list, rows-distinct}
use Rattle.sight.proofs.Spots.{owner_kind, ordered}
use Rattle.sight.proofs.WholeModule.{WalkOf, var-is-occurrence, equal-is-same}

module _ (img tab rows : List ℕ) (accepted : test_rows img tab rows ≡ 0) (e : Walked) (single : walked img tab ≡ done e) where
  pub image-accepted : verdict img ≡ 0
  image-accepted = table-accepted img tab (rows-table img tab rows accepted)

  -- the table that the call fills, and its rows: no more than nodes, so that no row is dropped
  abbrev filled : Table
  filled = counted img e.table

  abbrev found_rows : List Row
  found_rows = occurrence_rows img filled

  rows_fit : length found_rows ≤ nodes img
  rows_fit = rows_few img filled image-accepted

  -- what the call leaves, the rows that it has written, and what lookup gives in its table at the exit of a place's node
  abbrev left : RowsOutcome
  left = occurrences img tab rows

  abbrev list : List Row
  list = held (nodes img) left.rows

  abbrev binding : Place → Option ℕ
  binding p = lookup img (table_in img left.table) (exit_at img left.table p.node) (name_of img p.ident)

  walks : (r : Rule) → In r (module_rules img) → WalkOf img r filled
  walks = (resolved img tab e image-accepted single).walks

  pub list-is : list ≡ found_rows
  unfolding occurrences
  list-is = rowed-held img tab rows (occurrence_rows img) accepted single rows_fit

  table_is : left.table ≡ headed img e.table
  unfolding occurrences
  table_is = ap (λ (o : RowsOutcome). o.table) (rowed-done img tab rows (occurrence_rows img) accepted single)

  pub binding-is : (p : Place) → binding p ≡ binding_of img filled p
  binding-is p =
      ap (λ (ws : List ℕ). lookup img (table_in img ws) (exit_at img ws p.node) (name_of img p.ident)) table_is
      ∙ left-lookup img tab e image-accepted single (exit_at img (headed img e.table) p.node) (name_of img p.ident)

  pub list-few : length list ≤ nodes img
  list-few = subst (λ (l : List Row). length l ≤ nodes img) (sym list-is) rows_fit

  pub answered : left.answer ≡ result 0 (length list)
  unfolding occurrences
  answered = rowed-count img tab rows (occurrence_rows img) accepted single rows_fit

  pub lists-all : AllRows img binding (module_rules img) list
  lists-all =
      subst (λ (f : Place → Option ℕ). AllRows img f (module_rules img) list) (sym (fun_ext binding-is))
      (subst (λ (l : List Row). AllRows img (binding_of img filled) (module_rules img) l) (sym list-is) (rows-list img filled image-accepted walks))

  pub lists-once : Distinct (lefts list)
  lists-once = subst (λ (l : List Row). Distinct (lefts l)) (sym list-is) (rows-distinct img filled image-accepted walks)

  -- which rows are in the list
  pub row_of : (w : Row) → In w list ↔ ((r : Rule) × In r (module_rules img) × ((p : Place) × In p (places_of r) × RowAt img binding r p w))
  row_of w = (
    (λ i. all-only img binding lists-all w i),
    (λ h.
        let r = h.0 in
        let p = h.2.0 in
        let a = h.2.2 in
        let g = all-all img binding lists-all r h.1 p h.2.1 a.0 in
        let g₁ = g.1 in
        let a₂ = a.2 in
        let b : g.0 ≡ w.right = cc in
        subst (λ (v : Row). In v list) (ap₂ row (sym a.1) b) g.2),
  )

  -- the listed binding of a variable occurrence
  listed-binding : (r : Rule) → In r (module_rules img) → (p : Place) → In p (places_of r) → Occurs img r p
      → (w : Row) → In w list → w.left ≡ p.node → binding p ≡ some w.right
  listed-binding r i p j o w k q =
      let g = all-all img binding lists-all r i p j o in
      let z = one-row list lists-once w (row p.node g.0) k g.2 q in
      g.1 ∙ ap (λ (v : Row). some v.right) (sym z)

  -- two listed bindings are equal exactly where the places are the same by sight
  pub same-bindings : (r : Rule) → In r (module_rules img) → (p q : Place) → In p (places_of r) → In q (places_of r) → Occurs img r p → Occurs img r q
      → (w v : Row) → In w list → In v list → w.left ≡ p.node → v.left ≡ q.node
      → (w.right ≡ v.right) ↔ Same (name_of img) (outer_const img r) (places_of r) p q
  same-bindings r i p q j k o u w v x y m n =
      let a = listed-binding r i p j o w x m in
      let b = listed-binding r i q k u v y n in
      let c = binding-is p in
      let d = binding-is q in
      let s = equal-is-same img filled r (walks r i) p q j k o in (
        (λ h. let g : binding_of img filled p ≡ binding_of img filled q = cc in s.0 g),
        (λ h. let g = s.1 h in cc),
      )

  owner-kinds : (σ : Sort) (k : ℕ) → k ≡ owner_kind σ → (k ≡ 12) ⊎ (k ≡ 15)
  owner-kinds ordinary k e = inl e
  owner-kinds declared k e = inl e
  owner-kinds applied k e = inr e
  owner-kinds (defined a) k e = inl e

  -- a Term or an AppHead, with an IdentTerm
  pub row-kinds : (w : Row) → In w list → ((kind_at img w.left ≡ 12) ⊎ (kind_at img w.left ≡ 15)) × (kind_at img w.right ≡ 13)
  unfolding is_kind
  row-kinds w i = go ((row_of w).0 i)
    where
      go : ((r : Rule) × In r (module_rules img) × ((p : Place) × In p (places_of r) × RowAt img binding r p w))
          → ((kind_at img w.left ≡ 12) ⊎ (kind_at img w.left ≡ 15)) × (kind_at img w.right ≡ 13)
      go (r, j, (p, k, (o, l, b))) =
          let m = ordered img r.statements (walks r j).1.body in
          let v = (var-is-occurrence img filled r (walks r j) p k).1 o in (
            owner-kinds p.sort (kind_at img w.left) (ap (kind_at img) l ∙ m.kinds p (m.all p k)),
            eqb-true (kind_at img w.right) 13 (ap (is_kind img 13) (sym b ∙ binding-is p) ∙ v),
          )
