-- What document 01 says of every lent word, for every call that writes: "unused places are 0", "words past .. are untouched", and that a
-- refusal alters nothing. Each call is an instance of one law.
use mathlib.Core.Path.{◌≡◌, refl, sym, subst, ◌∙◌}
use mathlib.Core.List.{List}
use mathlib.Core.Option.{Option, none, some}
use Prim.Native.Nat.{ℕ, ◌≤◌, ◌<◌}
use native.Mathlib.Omega.{arith}
use lib.ListN.{length, get_or, drop}
use Rattle.sound.specs.Sound.{table_in}
use Rattle.ast.specs.Answer.{Answer, refused, twice, result, located, other}
use Rattle.ast.specs.Image.{nodes}
use Rattle.ast.specs.Tests.{verdict}
use Rattle.rows.specs.Rows.{Row}
use Rattle.table.specs.Layout.{table_length}
use Rattle.table.specs.State.{Walked}
use Rattle.table.specs.Table.{Table}
use Rattle.scopes.specs.Resolve.{test_table, zeroed, walked, headed, Way, refuses, stops, fills, way, answer_by, table_by, table_call, resolve, Unused, parent, scope, symbol}
use Rattle.scopes.specs.Calls.{test_rows, rows_by, rows_call}
use Rattle.scopes.specs.Walk.{done}
use Rattle.scopes.proofs.Calls.{Went, went, rows-table, rows_long}
use Rattle.scopes.proofs.Resolving.{past-kept, long_kept, table-accepted, walked-ended, zeroed-long, headed-word, headed-scopes, headed-symbols}
use Rattle.bindings.specs.Errors.{error_rows, errors}
use Rattle.bindings.proofs.Bound.{rows_few}
use Rattle.bindings.proofs.Calls.{errors-rows}
use Rattle.sorted.specs.Sorted.{placed, sorted}
use Rattle.sorted.proofs.Calls.{placed-few}
use Rattle.occurrences.specs.Occurrences.{occurrence_rows, occurrences, lone_answer, lone, rows_by_rule, once}
use Rattle.occurrences.proofs.Few as list
use Rattle.ast.specs.Rules.{module_rules}
use Rattle.calls.specs.Left.{Refuses, Stops, Fills, TableLeft, RowsLeft}
use Rattle.rows.proofs.Words.{cleared-zero, written_count, written-unused, written-past, written-long}

-- the unused places of a table with its counts in front
module _ (img tab : List ℕ) (passes : test_table img tab ≡ 0) (e : Walked) (ends : walked img tab ≡ done e) where
  headed-unused : (i : ℕ) → Unused img (table_in img (headed img e.table)) i → get_or (headed img e.table) i 0 ≡ 0
  unfolding zeroed
  headed-unused i u =
      let d = walked-ended img tab passes e ends in
      let l : table_length (nodes img) ≤ length e.table.words = (let z = d.long in let y = zeroed-long img tab in omega arith) in
      let a = headed-scopes img e.table l in
      let b = headed-symbols img e.table l in
      let v = used i (as-counted a b u) in
      headed-word img e.table i v.1 ∙ d.unused (as-counted a b u) ∙ cleared-zero (table_length (nodes img)) tab i v.0
    where
      as-counted : {i : ℕ} → (table_in img (headed img e.table)).scopes ≡ e.table.scopes → (table_in img (headed img e.table)).symbols ≡ e.table.symbols
          → Unused img (table_in img (headed img e.table)) i → Unused img e.table i
      as-counted a b (parent k l h) = parent k (omega arith) h
      as-counted a b (scope j l h) = scope j (omega arith) h
      as-counted a b (symbol j l h) = symbol j (omega arith) h

      used : (i : ℕ) → Unused img e.table i → (i < table_length (nodes img)) × (3 ≤ i)
      used _ (parent k l h) = (omega arith, omega arith)
      used _ (scope j l h) = (omega arith, omega arith)
      used _ (symbol j l h) = (omega arith, omega arith)

-- an answer about a filled table is no refusal, and not "twice"
filled-unrefused : (a : Answer) → Fills a → Refuses a → ⊥
filled-unrefused (result x y) g h = h
filled-unrefused (located s k n) g h = h
filled-unrefused (other x y) g h = h
filled-unrefused (refused x) g h = g
filled-unrefused (twice x y z) g h = g

filled-unstopped : (a : Answer) → Fills a → Stops a → ⊥
filled-unstopped (result x y) g h = h
filled-unstopped (located s k n) g h = h
filled-unstopped (other x y) g h = h
filled-unstopped (refused x) g h = g
filled-unstopped (twice x y z) g h = g

-- a call that is lent a table: by its refusal, and what it says of a table that it has filled
module _ (img tab : List ℕ) {r : ℕ} (tested : r ≡ 0 → test_table img tab ≡ 0) (f : Table → Answer) (says : (t : Table) → Fills (f t)) where
  pub table-left : TableLeft img tab (answer_by f (way img tab r)) (table_by img tab (way img tab r))
  unfolding answer_by table_by zeroed
  table-left = go (way img tab r) (went img tab r) (long_kept img tab tested) (past-kept img tab tested)
    where
      go : (w : Way) → Went img tab r w → length (table_by img tab w) ≡ length tab → drop (table_length (nodes img)) (table_by img tab w) ≡ drop (table_length (nodes img)) tab → TableLeft img tab (answer_by f w) (table_by img tab w)
      go (refuses k) h l p = record { untouched = λ u. refl; long = l; past = p; zeros = λ u. absurd u; unused = λ u. absurd u }
      go (stops x a b) h l p =
          record { untouched = λ u. absurd u; long = l; past = p; zeros = λ u i k. cleared-zero (table_length (nodes img)) tab i k; unused = λ u. absurd u }
      go (fills t) (q, (e, h, s)) l p =
          record {
            untouched = λ u. absurd (filled-unrefused (f t) (says t) u);
            long = l;
            past = p;
            zeros = λ u. absurd (filled-unstopped (f t) (says t) u);
            unused = λ u i k. subst (λ (v : Table). Unused img (table_in img v.words) i → get_or v.words i 0 ≡ 0) (sym s) (headed-unused img tab (tested q) e h i) k;
          }

-- a call that is lent rows too: whatever rows it finds in a table that it has filled, at most N
module _ (img tab rows : List ℕ) {r : ℕ} (tested : r ≡ 0 → test_rows img tab rows ≡ 0) (f : Table → List Row) (few : verdict img ≡ 0 → (t : Table) → length (f t) ≤ nodes img) where
  pub rows-table-left : TableLeft img tab (rows_call img tab rows r f).answer (rows_call img tab rows r f).table
  unfolding rows_call
  rows-table-left = table-left img tab (λ q. rows-table img tab rows (tested q)) (λ t. result 0 (length (f t))) (λ t. tt)

  pub rows_left : RowsLeft img rows (rows_call img tab rows r f).answer (rows_call img tab rows r f).rows
  unfolding rows_call answer_by rows_by
  rows_left = go (way img tab r) (went img tab r)
    where
      go : (w : Way) → Went img tab r w → RowsLeft img rows (answer_by (λ t. result 0 (length (f t))) w) (rows_by img rows f w)
      go (refuses k) h = record { untouched = λ u. refl; stopped = λ u. absurd u; long = refl; past = refl; unused = λ u. absurd u }
      go (stops x a b) h = record { untouched = λ u. absurd u; stopped = λ u. refl; long = refl; past = refl; unused = λ u. absurd u }
      go (fills t) (q, h) =
          let l = few (table-accepted img tab (rows-table img tab rows (tested q))) t in
          record {
            untouched = λ u. absurd u;
            stopped = λ u. absurd u;
            long = written-long (nodes img) (f t) rows l (rows_long img tab rows (tested q));
            past = written-past (nodes img) (f t) rows l;
            unused = λ u i m k. written-unused (nodes img) (f t) rows l i (let z = written_count (nodes img) (f t) rows l in omega arith) k;
          }

lone-fills : (o : Option Row) → Fills (lone_answer o)
unfolding lone_answer
lone-fills none = tt
lone-fills (some w) = tt

-- the calls ----------------------------------------------------------------------------------------------------------------
module _ (img tab : List ℕ) where
  pub resolve_left : TableLeft img tab (resolve img tab).answer (resolve img tab).table
  unfolding resolve table_call
  resolve_left = table-left img tab (λ q. q) (λ t. result t.scopes t.symbols) (λ t. tt)

  pub once-left : TableLeft img tab (once img tab).answer (once img tab).table
  unfolding once table_call
  once-left = table-left img tab (λ q. q) (λ t. lone_answer (lone (rows_by_rule img t (module_rules img)))) (λ t. lone-fills (lone (rows_by_rule img t (module_rules img))))

  module _ (rows : List ℕ) where
    pub occurrences-table-left : TableLeft img tab (occurrences img tab rows).answer (occurrences img tab rows).table
    unfolding occurrences
    occurrences-table-left = rows-table-left img tab rows (λ q. q) (occurrence_rows img) (λ a t. list.rows_few img t a)

    pub occurrences-rows-left : RowsLeft img rows (occurrences img tab rows).answer (occurrences img tab rows).rows
    unfolding occurrences
    occurrences-rows-left = rows_left img tab rows (λ q. q) (occurrence_rows img) (λ a t. list.rows_few img t a)

    module _ (mode : ℕ) where
      pub errors-table-left : TableLeft img tab (errors img tab rows mode).answer (errors img tab rows mode).table
      unfolding errors
      errors-table-left = rows-table-left img tab rows (errors-rows img tab rows mode) (λ t. error_rows img t mode) (λ a t. rows_few img a t mode)

      pub errors-rows-left : RowsLeft img rows (errors img tab rows mode).answer (errors img tab rows mode).rows
      unfolding errors
      errors-rows-left = rows_left img tab rows (errors-rows img tab rows mode) (λ t. error_rows img t mode) (λ a t. rows_few img a t mode)

      pub sorted-table-left : TableLeft img tab (sorted img tab rows mode).answer (sorted img tab rows mode).table
      unfolding sorted
      sorted-table-left = rows-table-left img tab rows (errors-rows img tab rows mode) (λ t. placed img (error_rows img t mode)) (placed-few img mode)

      pub sorted-rows-left : RowsLeft img rows (sorted img tab rows mode).answer (sorted img tab rows mode).rows
      unfolding sorted
      sorted-rows-left = rows_left img tab rows (errors-rows img tab rows mode) (λ t. placed img (error_rows img t mode)) (placed-few img mode)
