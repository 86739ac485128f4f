-- The calls that resolve: their refusals, the way that each goes, and what it leaves, whatever it says of a table that it has filled and
-- whatever rows that table has.
use mathlib.Core.Path.{◌≡◌, refl, sym, ap, ap₂, ◌∙◌}
use mathlib.Core.List.{List}
use Prim.Native.Nat.{ℕ, zero, suc, ◌<◌, ◌≤◌}
use native.Mathlib.Omega.{arith}
use lib.Dec.{leb→le}
use lib.ListN.{length}
use borrow.Author.Tests.{le-leb, lt-leb}
use Rattle.std.specs.Prelude.{Result, Ok, Err, IsErrAnd}
use Rattle.error.specs.Refusals.{ByRefusal, ByTwice}
use Rattle.error.specs.declared.Refusal.{Refusal}
use Rattle.error.specs.declared.Unresolved.{Unresolved}
use Rattle.error.specs.declared.Unresolved.TheVariants.{Refused, Twice}
use Rattle.error.specs.declared.SymbolDeclaredTwice.{SymbolDeclaredTwice}
use Rattle.ast.specs.Answer.{Answer, refused, twice as twice_answer, result}
use Rattle.ast.specs.Image.{nodes}
use Rattle.ast.specs.Tests.{need}
use Rattle.ast.proofs.Accepted.{both, skip, stop, needed}
use Rattle.table.specs.State.{Walked}
use Rattle.table.specs.Table.{Table}
use Rattle.rows.specs.Rows.{Row, rows_length, written, Wrote, held}
use Rattle.rows.proofs.Reading.{held-written}
use Rattle.scopes.specs.Walk.{Listed, done, twice}
use Rattle.scopes.specs.Resolve.{test_table, zeroed, walked, headed, counted, Way, refuses, stops, fills, way_of, way, answer_by, table_by, table_call}
use Rattle.scopes.specs.Calls.{test_rows, RowsOutcome, rows_by, rows_call}
use Rattle.scopes.specs.Answers.{table_of, resolved_way, Resolves}
use Rattle.scopes.specs.declared.Resolved.{Resolved}

-- 1 to 14 -------------------------------------------------------------------------------------------------------------
module _ (img tab rows : List ℕ) where
  pub rows-refused : (code : ℕ) → code ≡ test_table img tab → (code ≡ 0 → ⊥) → code ≡ test_rows img tab rows
  unfolding test_rows
  rows-refused zero q h = absurd (h refl)
  rows-refused (suc r) q h = sym (stop _ _ r (sym q))

  pub rows_short : 0 ≡ test_table img tab → length rows < rows_length (nodes img) → 14 ≡ test_rows img tab rows
  unfolding test_rows need
  rows_short q h = sym (skip _ _ (sym q) ∙ ap (need 14) (lt-leb _ _ h))

  pub rows_fit : 0 ≡ test_table img tab → rows_length (nodes img) ≤ length rows → 0 ≡ test_rows img tab rows
  unfolding test_rows need
  rows_fit q h = sym (skip _ _ (sym q) ∙ ap (need 14) (le-leb _ _ h))

  pub rows-table : test_rows img tab rows ≡ 0 → test_table img tab ≡ 0
  unfolding test_rows
  rows-table e = (both _ _ e).0

  pub rows_long : test_rows img tab rows ≡ 0 → rows_length (nodes img) ≤ length rows
  unfolding test_rows
  rows_long e = leb→le _ _ (needed 13 _ (both _ _ e).1)

-- the way -------------------------------------------------------------------------------------------------------------
module _ (img tab : List ℕ) where
  -- what a way says of the refusal and of the walk
  abbrev pub Went : ℕ → Way → Type 0
  Went r (refuses k) = (r ≡ k) × (k ≡ 0 → ⊥)
  Went r (stops x a b) = (r ≡ 0) × (walked img tab ≡ twice x a b)
  Went r (fills t) = (r ≡ 0) × ((e : Walked) × (walked img tab ≡ done e) × (t ≡ counted img e.table))

  pub went : (r : ℕ) → Went r (way img tab r)
  unfolding way way_of
  went zero = go (walked img tab) refl
    where
      go : (l : Listed) → walked img tab ≡ l → Went 0 (way_of img l)
      go (done e) q = (refl, (e, q, refl))
      go (twice x a b) q = (refl, q)
  went (suc r) = (refl, λ q. omega arith)

  module _ {r : ℕ} where
    pub way-refuses : (k : ℕ) → k ≡ r → (k ≡ 0 → ⊥) → way img tab r ≡ refuses k
    unfolding way
    way-refuses zero q h = absurd (h refl)
    way-refuses (suc k) q h = ap (way img tab) (sym q)

    module _ (passes : r ≡ 0) where
      pub way-stops : {x a b : ℕ} → walked img tab ≡ twice x a b → way img tab r ≡ stops x a b
      unfolding way way_of
      way-stops h = ap (way img tab) passes ∙ ap (way_of img) h

      pub way_fills : {e : Walked} → walked img tab ≡ done e → way img tab r ≡ fills (counted img e.table)
      unfolding way way_of
      way_fills h = ap (way img tab) passes ∙ ap (way_of img) h

      -- by what resolving hands back
      way_by : {d : Result Resolved SymbolDeclaredTwice} {ws : List ℕ} → Resolves img tab d ws → {g : Result Resolved SymbolDeclaredTwice} → d ≡ g → way img tab r ≡ resolved_way g ws
      way_by {d} {ws} h q = ap (way img tab) passes ∙ sym h.way_is ∙ ap (λ (x : Result Resolved SymbolDeclaredTwice). resolved_way x ws) q

      table-by : {d : Result Resolved SymbolDeclaredTwice} {ws : List ℕ} → Resolves img tab d ws → {g : Result Resolved SymbolDeclaredTwice} → d ≡ g → table_by img tab (resolved_way g ws) ≡ ws
      table-by {d} {ws} h q = ap (λ (x : Result Resolved SymbolDeclaredTwice). table_by img tab (resolved_way x ws)) (sym q) ∙ ap (table_by img tab) h.way_is ∙ sym h.table_is

-- a call that is lent a table -------------------------------------------------------------------------------------------
module _ (img tab : List ℕ) {r : ℕ} (f : Table → Answer) where
  pub call-refused : (k : ℕ) → k ≡ r → (k ≡ 0 → ⊥) → table_call img tab r f ≡ record { answer = refused k; table = tab }
  unfolding table_call answer_by table_by
  call-refused k q h = ap (λ (w : Way). record { answer = answer_by f w; table = table_by img tab w }) (way-refuses img tab k q h)

  module _ (passes : r ≡ 0) {d : Result Resolved SymbolDeclaredTwice} {ws : List ℕ} (h : Resolves img tab d ws) where
    call_by : {g : Result Resolved SymbolDeclaredTwice} → d ≡ g → table_call img tab r f ≡ record { answer = answer_by f (resolved_way g ws); table = ws }
    unfolding table_call
    call_by {g} q =
        ap (λ (w : Way). record { answer = answer_by f w; table = table_by img tab w }) (way_by img tab passes h q)
        ∙ ap (λ (us : List ℕ). record { answer = answer_by f (resolved_way g ws); table = us }) (table-by img tab passes h q)

    pub call-stopped : {t : SymbolDeclaredTwice} → d ≡ Err t → table_call img tab r f ≡ record { answer = twice_answer t.name t.first.0 t.second.0; table = ws }
    unfolding answer_by
    call-stopped q = call_by q

    pub call-filled : {w : Resolved} → d ≡ Ok w → table_call img tab r f ≡ record { answer = f (table_of w ws); table = ws }
    unfolding answer_by
    call-filled q = call_by q

-- a call that writes rows -----------------------------------------------------------------------------------------------
module _ (img tab rows : List ℕ) (f : Table → List Row) where
  abbrev leaving : Way → RowsOutcome
  leaving w = record { answer = answer_by (λ t. result 0 (length (f t))) w; table = table_by img tab w; rows = rows_by img rows f w }

  module _ {r : ℕ} where
    -- refused: nothing is altered
    pub rowed-refused : (k : ℕ) → k ≡ r → (k ≡ 0 → ⊥) → rows_call img tab rows r f ≡ record { answer = refused k; table = tab; rows = rows }
    unfolding rows_call answer_by table_by rows_by
    rowed-refused k q h = ap leaving (way-refuses img tab k q h)

    module _ (passes : r ≡ 0) where
      -- a name declared twice: zeros in the table, and the rows as they were
      pub rowed-twice : {x a b : ℕ} → walked img tab ≡ twice x a b → rows_call img tab rows r f ≡ record { answer = twice_answer x a b; table = zeroed img tab; rows = rows }
      unfolding rows_call answer_by table_by rows_by
      rowed-twice h = ap leaving (way-stops img tab passes h)

      -- otherwise: the table that the walk ends with, its counts in front, and the rows that it has
      pub rowed-done : {e : Walked} → walked img tab ≡ done e → rows_call img tab rows r f
          ≡ record { answer = result 0 (length (f (counted img e.table))); table = headed img e.table; rows = written (nodes img) (f (counted img e.table)) rows }
      unfolding rows_call answer_by table_by rows_by
      rowed-done h = ap leaving (way_fills img tab passes h)

      -- where they are no more than nodes, they are read back
      pub rowed-held : {e : Walked} → walked img tab ≡ done e → length (f (counted img e.table)) ≤ nodes img
          → held (nodes img) (rows_call img tab rows r f).rows ≡ f (counted img e.table)
      rowed-held h few = ap (λ (o : RowsOutcome). held (nodes img) o.rows) (rowed-done h) ∙ held-written (nodes img) _ rows few

      -- and counted
      pub rowed-count : {e : Walked} → walked img tab ≡ done e → length (f (counted img e.table)) ≤ nodes img
          → (rows_call img tab rows r f).answer ≡ result 0 (length (held (nodes img) (rows_call img tab rows r f).rows))
      rowed-count h few = ap (λ (o : RowsOutcome). o.answer) (rowed-done h) ∙ ap (λ (l : List Row). result 0 (length l)) (sym (rowed-held h few))

      -- by what resolving hands back, as the code has it
      module _ {d : Result Resolved SymbolDeclaredTwice} {ws : List ℕ} (h : Resolves img tab d ws) where
        pub rowed-stopped : {t : SymbolDeclaredTwice} → d ≡ Err t → rows_call img tab rows r f ≡ record { answer = twice_answer t.name t.first.0 t.second.0; table = ws; rows = rows }
        unfolding rows_call answer_by rows_by
        rowed-stopped {t} q =
            ap leaving (way_by img tab passes h q)
            ∙ ap (λ (us : List ℕ). record { answer = twice_answer t.name t.first.0 t.second.0; table = us; rows = rows }) (table-by img tab passes h q)

        pub rowed-filled : {w : Resolved} {k : ℕ} {vs : List ℕ} → d ≡ Ok w → Wrote (nodes img) (f (table_of w ws)) rows k vs
            → rows_call img tab rows r f ≡ record { answer = result 0 k; table = ws; rows = vs }
        unfolding rows_call answer_by table_by rows_by
        rowed-filled {w} q g =
            ap leaving (way_by img tab passes h q)
            ∙ ap₂ (λ (n : ℕ) (us : List ℕ). record { answer = result 0 n; table = ws; rows = us }) (sym g.count) (sym g.words)

-- what `?` hands back ---------------------------------------------------------------------------------------------------
module _ {A : Type 0} where
  pub refused-is : (r : Result A Unresolved) (e : Refusal) → IsErrAnd r (ByRefusal e) → r ≡ Err (Refused e)
  refused-is (Ok a) e h = absurd h
  refused-is (Err u) e h = ap Err h

  pub stopped-is : (r : Result A Unresolved) (t : SymbolDeclaredTwice) → IsErrAnd r (ByTwice t) → r ≡ Err (Twice t)
  stopped-is (Ok a) t h = absurd h
  stopped-is (Err u) t h = ap Err h
