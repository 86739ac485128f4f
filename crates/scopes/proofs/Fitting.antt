-- Every number of an answer fits 16 bits: Resolve, Lookup, and any call that writes no more rows than there are nodes; for all inputs.
use mathlib.Core.Path.{◌≡◌, refl, sym, subst}
use mathlib.Core.Bool.{Bool, true, false, ◌&&◌}
use mathlib.Core.List.{List, [], ◌∷◌}
use mathlib.Core.Option.{Option, none as nothing, some}
use Prim.Native.Nat.{ℕ, zero, suc, ◌<◌, ◌≤◌}
use native.Mathlib.Omega.{arith}
use lib.Dec.{T, leb, leb→le}
use lib.ListN.{length, get_or}
use Rattle.ast.specs.Answer.{Answer, refused, result, Fits}
use Rattle.ast.specs.Image.{nodes, kind_at}
use Rattle.ast.specs.Tests.{need, verdict}
use Rattle.ast.proofs.Accepted.{both, sized}
use Rattle.rows.specs.Rows.{Row}
use Rattle.table.specs.Rising.{node_at}
use Rattle.sound.specs.Sound.{symbols_in, parent_below, row_sound, test_sound}
use Rattle.sound.proofs.Sounds.{sound-is}
use Rattle.table.specs.State.{Walked}
use Rattle.table.specs.Table.{Table, Found, symbol_at, symbol_of, found}
use Rattle.scopes.specs.Lookup.{test_lookup, symbol_answer, found_by, lookup_call}
use Rattle.scopes.specs.Resolve.{test_table, walked, counted, Way, refuses, stops, fills, way, answer_by, table_call, resolve}
use Rattle.scopes.specs.Calls.{test_rows, rows_call}
use Rattle.scopes.specs.Walk.{done}
use Rattle.names.specs.Number.{number_of}
use Rattle.scopes.proofs.Namings.{symbol-below}
use Rattle.scopes.proofs.Calls.{Went, went}
use Rattle.scopes.proofs.Resolving.{walked-ended, table-accepted}
use Rattle.ast.proofs.Refusals.{Low, first-low, need-low, run-low, verdict-low}
use Rattle.table.proofs.Below.{climb-row}
use Rattle.scopes.proofs.Clashing.{twice-fits}

-- refusals ---------------------------------------------------------------------------------------------------------------
pub refused-fits : (r : ℕ) → Low r → Fits (refused r)
unfolding Fits
refused-fits r l = omega arith

module _ (img tab : List ℕ) where
  pub table-low : Low (test_table img tab)
  unfolding test_table
  table-low = first-low _ _ (verdict-low img) (need-low 13 _ (omega arith))

  pub rows-low : (rows : List ℕ) → Low (test_rows img tab rows)
  unfolding test_rows
  rows-low rows = first-low _ _ table-low (need-low 14 _ (omega arith))

  pub sound-low : Low (test_sound img tab)
  unfolding test_sound parent_below row_sound
  sound-low =
      first-low _ _ (sixteen _) (first-low _ _ (sixteen _) (first-low _ _ (sixteen _) (first-low _ _ (sixteen _) (first-low _ _ (sixteen _)
      (first-low _ _ (run-low _ (λ s. sixteen _) _ _) (run-low _ (λ j. first-low _ _ (sixteen _) (sixteen _)) _ _))))))
    where
      sixteen : (b : Bool) → Low (need 16 b)
      sixteen b = need-low 16 b (omega arith)

  pub lookup-low : (s : ℕ) → Low (test_lookup img tab s)
  unfolding test_lookup
  lookup-low s = first-low _ _ table-low (first-low _ _ sound-low (need-low 17 _ (omega arith)))

-- a call that is lent a table: what it says of a table that it has filled fits
pub call_fits : (img tab : List ℕ) {r : ℕ} (f : Table → Answer) → Low r → (r ≡ 0 → test_table img tab ≡ 0) → ((e : Walked) → test_table img tab ≡ 0 → walked img tab ≡ done e → Fits (f (counted img e.table)))
    → Fits (answer_by f (way img tab r))
unfolding answer_by
call_fits img tab {r} f low tested fits = go (way img tab r) (went img tab r)
  where
    go : (w : Way) → Went img tab r w → Fits (answer_by f w)
    go (refuses k) (q, h) = refused-fits k (subst Low q low)
    go (stops x a b) (q, h) = twice-fits img tab x a b (tested q) h
    go (fills t) (q, (e, h, i)) = subst (λ (u : Table). Fits (f u)) (sym i) (fits e (tested q) h)

-- Resolve ----------------------------------------------------------------------------------------------------------------
pub resolve-fits : (img tab : List ℕ) → Fits (resolve img tab).answer
unfolding resolve table_call
resolve-fits img tab = call_fits img tab _ (table-low img tab) (λ p. p) counts
  where
    counts : (e : Walked) → test_table img tab ≡ 0 → walked img tab ≡ done e → Fits (result e.table.scopes e.table.symbols)
    counts e q h = unfold Fits in
        let d = walked-ended img tab q e h in
        let s = sized img (table-accepted img tab q) in
        (omega arith, omega arith)

-- Lookup -----------------------------------------------------------------------------------------------------------------
-- a symbol number is at most 9: one computed check of the table
few : List ℕ → Bool
few [] = true
few (x ∷ xs) = leb x 9 && few xs

few-at : (l : List ℕ) → T (few l) → (k : ℕ) → get_or l k 0 ≤ 9
unfolding few
few-at [] t k = omega arith
few-at (x ∷ xs) t k = go (leb x 9) refl t (few-at xs) k
  where
    go : (b : Bool) → leb x 9 ≡ b → T (b && few xs) → (T (few xs) → (j : ℕ) → get_or xs j 0 ≤ 9) → (j : ℕ) → get_or (x ∷ xs) j 0 ≤ 9
    go true e u f zero = leb→le x 9 (subst T (sym e) tt)
    go true e u f (suc j) = f u j
    go false e u f j = absurd u

symbol-few : (k : ℕ) → symbol_of k ≤ 9
unfolding symbol_of few
symbol-few k = few-at (0 ∷ 0 ∷ 0 ∷ 1 ∷ 2 ∷ 3 ∷ 7 ∷ 4 ∷ 6 ∷ 5 ∷ 8 ∷ 0 ∷ 0 ∷ 9 ∷ []) tt k

module _ (img tab : List ℕ) (s : ℕ) (passes : test_lookup img tab s ≡ 0) where
  -- the table is sound: its rows' nodes are below N, and their scopes below K, which is not above N
  abbrev Low_symbol : Found → Type 0
  Low_symbol f = (f.node < nodes img) × (f.scope < nodes img)

  rows_low : (j : ℕ) → j < symbols_in img tab → Low_symbol (symbol_at img tab j)
  unfolding test_lookup
  rows_low j h =
      let d = sound-is img tab (both _ _ (both _ _ passes).1).0 in
      let few = d.few_scopes in
      let u = d.under j h in
      (symbol-below img (node_at (nodes img) tab j) (d.symbol j h), omega arith)

  accepted-by : verdict img ≡ 0
  unfolding test_lookup
  accepted-by = table-accepted img tab (both _ _ passes).0

  symbol-fits : (o : Option Found) → ((f : Found) → o ≡ some f → Low_symbol f) → Fits (symbol_answer img o)
  unfolding symbol_answer Fits
  symbol-fits nothing h = (omega arith, omega arith)
  symbol-fits (some f) h =
      let l = h f refl in
      let d = sized img accepted-by in
      let a = symbol-few (kind_at img f.node) in
      (omega arith, omega arith, omega arith)

  found-low : (o : Option ℕ) (f : Found) → found_by img tab s o ≡ some f → Low_symbol f
  unfolding found_by found
  found-low nothing f e = absurd (let z : ◌≡◌ {A = ℕ} 0 1 = cc in omega arith)
  found-low (some x) f e =
      let r = climb-row img tab (suc s) (symbols_in img tab) s x f e in
      subst Low_symbol r.is (rows_low r.row r.within)

pub lookup-fits : (img tab : List ℕ) (s : ℕ) (bs : List ℕ) → Fits (lookup_call img tab s bs)
unfolding lookup_call
lookup-fits img tab s bs = go (test_lookup img tab s) refl
  where
    go : (r : ℕ) → test_lookup img tab s ≡ r → Fits (elim r as (λ _. Answer) [ zero ↦ symbol_answer img (found_by img tab s (number_of img bs)) | suc i ↦ refused (suc i) ])
    go zero q = symbol-fits img tab s q (found_by img tab s (number_of img bs)) (found-low img tab s q (number_of img bs))
    go (suc r) q = refused-fits (suc r) (let l = lookup-low img tab s in omega arith)

-- Errors and Occurrences ---------------------------------------------------------------------------------------------------
-- a call that writes rows, no more than nodes
pub rows_fit : (img tab rows : List ℕ) {r : ℕ} (f : Table → List Row) → Low r → (r ≡ 0 → test_table img tab ≡ 0) → (verdict img ≡ 0 → (t : Table) → length (f t) ≤ nodes img)
    → Fits (rows_call img tab rows r f).answer
unfolding rows_call
rows_fit img tab rows f low tested few = call_fits img tab (λ t. result 0 (length (f t))) low tested count
  where
    count : (e : Walked) → test_table img tab ≡ 0 → walked img tab ≡ done e → Fits (result 0 (length (f (counted img e.table))))
    count e q h = unfold Fits in
        let a = table-accepted img tab q in
        let s = sized img a in
        let l = few a (counted img e.table) in
        (omega arith, omega arith)
