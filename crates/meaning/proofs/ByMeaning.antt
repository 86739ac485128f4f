-- What the calls Resolve, Occurrences and Errors leave is what meanings give by the tree alone: for every image, table and rows for which
-- the call gives no refusal, where no module or model list declares one name twice. specs/Meaning.antt knows no scopes and no tables.
use mathlib.Core.Path.{◌≡◌, sym, ◌∙◌, ap, ap₂, subst}
use mathlib.Core.Bool.{false}
use mathlib.Core.List.{List, ◌++◌}
use Prim.Native.Nat.{ℕ}
use Rattle.ast.specs.Image.{nodes, kind_at, name_of}
use Rattle.rows.specs.Rows.{Row, held}
use Rattle.scopes.specs.Calls.{test_rows, rows_call}
use Rattle.occurrences.specs.Occurrences.{occurrences}
use Rattle.ast.specs.Rules.{Rule, module_rules}
use Rattle.ast.specs.Answer.{result}
use Rattle.scopes.specs.Resolve.{test_table, walked, headed, counted, way_of, way, answer_by, table_by, Outcome, table_call, resolve}
use Rattle.scopes.specs.Walk.{Listed, done}
use Rattle.table.specs.State.{Walked}
use Rattle.scopes.specs.Twice.{declared_twice}
use Rattle.scopes.proofs.Calls.{rows-table, rowed-held}
use Rattle.scopes.proofs.Resolving.{table-accepted, own-counts}
use Rattle.scopes.proofs.Single.{single-done}
use Rattle.bindings.specs.Errors.{error_rows, test_errors, errors}
use Rattle.bindings.proofs.Calls.{errors-table, errors-are}
use Rattle.sight.specs.Listing.{Unrefused}
use Rattle.sight.proofs.Answering.{passes}
use Rattle.sight.specs.Sight.{In}
use Rattle.sound.specs.Sound.{scopes_in, table_in}
use Rattle.table.specs.Table.{Table}
use Rattle.bindings.specs.Promises.{of_mode}
use Rattle.bindings.proofs.Bound.{rows_few}
use Rattle.sight.proofs.Demand.{list}
use Rattle.sight.proofs.Leaving.{list-is}
use Rattle.meaning.specs.Meaning.{marks_in, faults_in}
use Rattle.meaning.specs.Meetings.{Meeting, rule_meetings}
use Rattle.meaning.specs.Recorded.{Recorded}
use Rattle.meaning.proofs.Recorded.{rules-recorded}
use Rattle.meaning.proofs.Marks.{by-meaning}
use Rattle.meaning.proofs.Faults.{faults-by-meaning}

-- what Resolve leaves where the walk ends
resolve-done : (img tab : List ℕ) → test_table img tab ≡ 0 → {e : Walked} → walked img tab ≡ done e
    → resolve img tab ≡ record { answer = result e.table.scopes e.table.symbols; table = headed img e.table }
unfolding resolve table_call way way_of answer_by table_by
resolve-done img tab p {e} h =
    ap (λ (r : ℕ). table_call img tab r (λ t. result t.scopes t.symbols)) p
    ∙ ap (λ (l : Listed). record { answer = answer_by (λ t. result t.scopes t.symbols) (way_of img l); table = table_by img tab (way_of img l) }) h

module _ (img tab rows : List ℕ) where
  -- in the table that Resolve leaves: at every node of a rule, lookup at its entry and at its exit
  pub recorded-by-meaning : Unrefused (resolve img tab).answer → declared_twice img ≡ false → (r : Rule) → In r (module_rules img)
      → (w : Meeting) → In w (rule_meetings (name_of img) (kind_at img) r) → Recorded img (table_in img (resolve img tab).table) w
  unfolding resolve table_call
  recorded-by-meaning unrefused once r i w j =
      let p = passes img tab _ (test_table img tab) unrefused in
      let d = single-done img tab p once in
      let t = d.0.table in
      let z = resolve-done img tab p d.1 in
      let words = ap (λ (o : Outcome). o.table) z in
      let c = own-counts img tab t.scopes t.symbols (ap (λ (o : Outcome). o.answer) z) in
      let same : counted img t ≡ table_in img (resolve img tab).table =
      ap₂ (λ (ws : List ℕ) (k : ℕ). record { words = ws; scopes = k; symbols = t.symbols }) (sym words) (sym c.0)
      ∙ ap (λ (y : ℕ). record { words = (resolve img tab).table; scopes = scopes_in img (resolve img tab).table; symbols = y }) (sym c.1) in
      subst (λ (u : Table). Recorded img u w) same
      (rules-recorded img tab d.0 (table-accepted img tab p) d.1 r i w j)

  -- the list that Occurrences leaves
  pub list-by-meaning : Unrefused (occurrences img tab rows).answer → declared_twice img ≡ false → list img tab rows ≡ marks_in img
  unfolding occurrences rows_call
  list-by-meaning unrefused once =
      let u = passes img tab _ (test_rows img tab rows) unrefused in
      let p = rows-table img tab rows u in
      let d = single-done img tab p once in
      list-is img tab rows u d.0 d.1 ∙ by-meaning img tab d.0 (table-accepted img tab p) d.1

  -- the rows that Errors leaves: the plain ones, then those of strict mode
  pub errors-by-meaning : (mode : ℕ) → Unrefused (errors img tab rows mode).answer → declared_twice img ≡ false
      → held (nodes img) (errors img tab rows mode).rows ≡ faults_in img ++ of_mode img mode
  unfolding errors rows_call
  errors-by-meaning mode unrefused once =
      let u = passes img tab _ (test_errors img tab rows mode) unrefused in
      let p = errors-table img tab rows mode u in
      let v = table-accepted img tab p in
      let d = single-done img tab p once in
      rowed-held img tab rows (λ t. error_rows img t mode) u d.1 (rows_few img v _ mode)
      ∙ sym (errors-are img _ mode)
      ∙ ap (λ (k : List Row). k ++ of_mode img mode) (faults-by-meaning img tab d.0 v d.1)
