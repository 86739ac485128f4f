-- Lookup by a name's bytes meets lookup by its number: the number of a name's own bytes is the name, and so Lookup, on the table that
-- Occurrences leaves, gives each listed binding, in a scope of it.
use Rattle.scopes.proofs.Namings.{symbol-below}
use Rattle.names.proofs.Names.{same_true}
use mathlib.Core.Path.{◌≡◌, refl, sym, ap, subst, ◌∙◌}
use mathlib.Core.Bool.{Bool, true, false}
use mathlib.Core.List.{List, [], ◌∷◌}
use mathlib.Core.Option.{Option, some}
use Prim.Native.Nat.{ℕ, zero, suc, ◌+◌, ◌<◌, ◌≤◌}
use native.Mathlib.Decide.{ℕ_discrete}
use native.Mathlib.Nat.{zero-add}
use native.Mathlib.Omega.{arith}
use lib.Dec.{leb}
use lib.ListN.{length}
use borrow.Author.Tests.{eq-eqb, lt-ltb, le-leb}
use Rattle.ast.specs.Answer.{Answer, refused, located}
use Rattle.ast.specs.Image.{nodes, names, kind_at, name_of, name_bytes}
use Rattle.ast.specs.Kinds.{kind_of}
use Rattle.ast.specs.Rows.{fields_at}
use Rattle.ast.specs.Rules.{Rule, module_rules}
use Rattle.ast.specs.Tests.{same, need, verdict}
use Rattle.ast.proofs.Accepted.{skip}
use Rattle.ast.proofs.Acceptance.{names-differ, name_below}
use Rattle.names.specs.Number.{number_from, number_of}
use Rattle.table.specs.Layout.{node_place, table_length}
use Rattle.table.specs.Rising.{node_at}
use Rattle.table.specs.State.{Walked}
use Rattle.table.specs.Table.{Table, Found, symbol_of, found, exit_at}
use Rattle.table.proofs.Below.{FoundRow, lookup-row}
use Rattle.rows.specs.Rows.{Row}
use Rattle.sound.specs.Sound.{scopes_in, is_symbol, table_in}
use Rattle.scopes.specs.Calls.{test_rows, RowsOutcome, rows_call}
use Rattle.scopes.specs.Lookup.{test_lookup, symbol_answer, found_by, lookup_call}
use Rattle.scopes.specs.Resolve.{test_table, walked, headed, counted}
use Rattle.scopes.specs.Twice.{declared_twice}
use Rattle.scopes.specs.Walk.{done}
use Rattle.scopes.proofs.Calls.{rows-table, rowed-done}
use Rattle.scopes.proofs.Resolving.{table-accepted, walked-ended, zeroed-long, headed-sound, headed-word, headed-length, headed-scopes}
use Rattle.scopes.proofs.Single.{single-done}
use Rattle.occurrences.specs.Occurrences.{occurrence_rows, occurrences}
use Rattle.sight.specs.Listing.{places_of, Occurs, Unrefused}
use Rattle.sight.specs.Sight.{Place, In}
use Rattle.sight.proofs.Answering.{passes}
use Rattle.sight.proofs.Demand as demand
use Rattle.sight.proofs.Resolving.{resolved, left-table}
use Rattle.sight.proofs.WholeModule.{exit_below}

-- the number of a name's own bytes ------------------------------------------------------------------------------------------
pub same_self : (xs : List ℕ) → same xs xs ≡ true
unfolding same
same_self [] = refl
same_self (x ∷ xs) = ap (λ (b : Bool). elim b [ true ↦ same xs xs | false ↦ false ]) (eq-eqb x x refl) ∙ same_self xs

module _ (img : List ℕ) (accepted : verdict img ≡ 0) where
  from-own : (x : ℕ) → x < names img → (c i : ℕ) → i ≤ x → x < i + c → number_from img c i (name_bytes img x) ≡ some x
  unfolding number_from
  from-own x l zero i h k = absurd (omega arith)
  from-own x l (suc c) i h k = go (ℕ_discrete i x) (λ a b. from-own x l c (i + 1) a b)
    where
      More : Type 0
      More = i + 1 ≤ x → x < i + 1 + c → number_from img c (i + 1) (name_bytes img x) ≡ some x

      other : (b : Bool) → same (name_bytes img i) (name_bytes img x) ≡ b → (i ≡ x → ⊥) → More
          → elim b [ true ↦ some i | false ↦ number_from img c (i + 1) (name_bytes img x) ] ≡ some x
      other true p n f = absurd (names-differ img accepted i x (omega arith) l n (same_true (name_bytes img i) (name_bytes img x) p))
      other false p n f = f (omega arith) (omega arith)

      go : Dec (i ≡ x) → More → elim (same (name_bytes img i) (name_bytes img x)) [ true ↦ some i | false ↦ number_from img c (i + 1) (name_bytes img x) ] ≡ some x
      go (yes e) f =
          ap (λ (b : Bool). elim b [ true ↦ some i | false ↦ number_from img c (i + 1) (name_bytes img x) ])
          (ap (λ (j : ℕ). same (name_bytes img j) (name_bytes img x)) e ∙ same_self (name_bytes img x))
          ∙ ap some e
      go (no n) f = other (same (name_bytes img i) (name_bytes img x)) refl n f

  pub number-own : (x : ℕ) → x < names img → number_of img (name_bytes img x) ≡ some x
  unfolding number_of
  number-own x l = from-own x l (names img) 0 (omega arith) (let z = zero-add (names img) in omega arith)

-- Lookup, where it refuses nothing, of a name by its own bytes ---------------------------------------------------------------
lookup-own : (img tab : List ℕ) (s x : ℕ) (f : Found) → verdict img ≡ 0 → test_lookup img tab s ≡ 0 → x < names img → found img (table_in img tab) s x ≡ some f
    → lookup_call img tab s (name_bytes img x) ≡ located f.scope (symbol_of (kind_at img f.node)) f.node
unfolding lookup_call found_by symbol_answer
lookup-own img tab s x f a t l h =
    ap (λ (r : ℕ). elim r as (λ _. Answer) [ zero ↦ symbol_answer img (found_by img tab s (number_of img (name_bytes img x))) | suc q ↦ refused (suc q) ]) t
    ∙ ap (λ (o : Option ℕ). symbol_answer img (found_by img tab s o)) (number-own img a x l)
    ∙ ap (symbol_answer img) h

module _ (img tab rows : List ℕ) where
  abbrev left : RowsOutcome
  left = occurrences img tab rows

  module _ (unrefused : Unrefused left.answer) (once : declared_twice img ≡ false) where
    tested : test_rows img tab rows ≡ 0
    unfolding occurrences rows_call
    tested = passes img tab _ (test_rows img tab rows) unrefused

    passed : test_table img tab ≡ 0
    passed = rows-table img tab rows tested

    accepted : verdict img ≡ 0
    accepted = table-accepted img tab passed

    ended : (e : Walked) × (walked img tab ≡ done e)
    ended = single-done img tab passed once

    table_is : left.table ≡ headed img ended.0.table
    unfolding occurrences
    table_is = ap (λ (o : RowsOutcome). o.table) (rowed-done img tab rows (occurrence_rows img) tested ended.1)

    long : table_length (nodes img) ≤ length ended.0.table.words
    long = let z = (walked-ended img tab passed ended.0 ended.1).long in let y = zeroed-long img tab in omega arith

    -- the refusals of Lookup pass on the table that is left, at any of its scopes
    lookup-passes : (s : ℕ) → s < ended.0.table.scopes → test_lookup img (headed img ended.0.table) s ≡ 0
    unfolding test_lookup test_table need
    lookup-passes s l =
        let vs = headed img ended.0.table in
        let k = headed-scopes img ended.0.table long in
        let m = headed-length img ended.0.table in
        skip _ _ (skip _ _ accepted ∙ ap (need 13) (fits vs (let z = long in omega arith)))
        ∙ skip _ _ (headed-sound img _ ended.0 (zeroed-long img tab) (walked-ended img tab passed ended.0 ended.1))
        ∙ ap (need 17) (lt-ltb s (scopes_in img vs) (omega arith))
      where
        fits : (vs : List ℕ) → table_length (nodes img) ≤ length vs → leb (table_length (nodes img)) (length vs) ≡ true
        fits vs h = le-leb _ _ h

    -- a row's node is a node
    below : (w : Row) (x : ℕ) (m : Found) → m.node ≡ w.right → FoundRow img left.table (table_in img left.table).symbols x m → w.right < nodes img
    below w x m r f =
        let d = walked-ended img tab passed ended.0 ended.1 in
        let t = left-table img tab passed ended.1 in
        let g = f.within in
        symbol-below img w.right
        (ap (is_symbol img) (sym (ap (λ (h : Found). h.node) f.is ∙ r) ∙ ap (λ (vs : List ℕ). node_at (nodes img) vs f.row) table_is ∙ headed-word img ended.0.table (node_place (nodes img) f.row) (omega arith))
        ∙ d.good.symbols f.row (subst (λ (y : ℕ). f.row < y) (ap (λ (vs : List ℕ). (table_in img vs).symbols) table_is ∙ ap (λ (u : Table). u.symbols) t) g))

    -- each listed occurrence, by the bytes of its name
    pub bindings-by-bytes : (r : Rule) → In r (module_rules img) → (p : Place) → In p (places_of r) → Occurs img r p
        → (w : Row) → In w (demand.list img tab rows) → demand.binding img tab rows p ≡ some w.right
        → (s : ℕ) × (lookup_call img left.table (exit_at img left.table p.node) (name_bytes img (name_of img p.ident)) ≡ located s 9 w.right)
    unfolding symbol_of fields_at kind_of
    bindings-by-bytes r i p j o w k e =
        let t = ended.0.table in
        let kind = (demand.row-kind img tab rows unrefused once w k).1 in
        let (m, q, n, f) = lookup-row img (table_in img left.table) (exit_at img left.table p.node) (name_of img p.ident) w.right e in (
          m.scope,
          lookup-own img left.table (exit_at img left.table p.node) (name_of img p.ident) m accepted
              (subst (λ (vs : List ℕ). test_lookup img vs (exit_at img vs p.node) ≡ 0) (sym table_is)
              (lookup-passes _ (exit_below img (counted img t) r ((resolved img tab ended.0 accepted ended.1).walks r i) p j)))
              (subst (λ (x : ℕ). x < names img) (ap (name_of img) (sym n) ∙ f.named) (name_below img accepted w.right (below w _ m n f) [] (ap (λ (c : ℕ). (kind_of c).fields) kind)))
              q
              ∙ ap (λ (b : ℕ). located m.scope (symbol_of (kind_at img b)) b) n
              ∙ ap (λ (c : ℕ). located m.scope (symbol_of c) w.right) kind,
        )
