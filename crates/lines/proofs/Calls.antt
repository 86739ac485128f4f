-- The lines of what the calls hand back: rows that a call has left, its last answer, the whole report.
use mathlib.Core.Path.{◌≡◌, refl, sym, ap, subst, ◌∙◌}
use mathlib.Core.List.{List, [], ◌∷◌, ◌++◌, append-nil, append_assoc}
use Prim.Native.Nat.{ℕ, ◌+◌, ◌*◌, ◌≤◌}
use native.Mathlib.Omega.{arith}
use lib.ListN.{length, take, drop, length-replicate}
use lib.Seq.{length-take-le}
use Rattle.ast.specs.Image.{nodes}
use Rattle.ast.specs.Answer.{Answer, result}
use Rattle.ast.proofs.Accepted.{sized}
use Rattle.error.specs.Refusals.{unresolved_answer}
use Rattle.error.specs.declared.Unresolved.{Unresolved}
use Rattle.error.specs.declared.Unresolved.TheVariants.{Refused, Twice}
use Rattle.rows.specs.Rows.{Row, rows_length, written}
use Rattle.table.specs.Table.{Table}
use Rattle.scopes.specs.Resolve.{Way, refuses, stops, fills, way, answer_by}
use Rattle.scopes.specs.Calls.{lent_table, lent_rows, test_rows, RowsOutcome, rows_by, rows_call}
use Rattle.scopes.proofs.Calls.{rows-table, rows_long, Went, went}
use Rattle.scopes.proofs.Resolving.{table-accepted}
use Rattle.bindings.specs.Errors.{error_rows, errors}
use Rattle.bindings.proofs.Calls.{errors-rows}
use Rattle.occurrences.specs.Occurrences.{occurrence_rows, occurrences}
use Rattle.lines.specs.Report.{Line, error, var, zipped, row_lines, end_lines, error_lines, var_lines}
use Rattle.lines.specs.Bytes.{text, numbers, line_bytes, lines_bytes}
use Rattle.lines.specs.declared.Printer.{Printer}
use Rattle.lines.specs.Out.{out_at, write, rows_from, Wrote, Printed}
use Rattle.lines.proofs.Puts.{wrote_none, wrote-next, wrote_as}
use Rattle.lines.proofs.Whole.{wrote-whole, wrote-within, wrote_kept, zipped-rows, written-few}

-- how many rows a call has left at most
pub record Few (img : List ℕ) (c : ℕ) : Type 0 where
  pub few : c ≤ nodes img
  pub small : nodes img ≤ 2048

rows_few : (img tab rows : List ℕ) (l : List Row) → test_rows img tab rows ≡ 0 → length (written (nodes img) l rows) ≡ length rows → Few img (length l)
rows_few img tab rows l t e =
    let s = sized img (table-accepted img tab (rows-table img tab rows t)) in
    record { few = written-few (nodes img) l rows (rows_long img tab rows t) e; small = s.few_nodes }

-- what a call that writes rows says of them
call-few : (img tab rows : List ℕ) {r : ℕ} (f : Table → List Row) → (r ≡ 0 → test_rows img tab rows ≡ 0) → (a c : ℕ) → result a c ≡ (rows_call img tab rows r f).answer
    → length (rows_call img tab rows r f).rows ≡ length rows → Few img c
unfolding rows_call answer_by rows_by
call-few img tab rows {r} f passed a c = go (way img tab r) (went img tab r)
  where
    go : (w : Way) → Went img tab r w → result a c ≡ answer_by (λ t. result 0 (length (f t))) w → length (rows_by img rows f w) ≡ length rows → Few img c
    go (refuses k) h p q = let z : ◌≡◌ {A = ℕ} 0 1 = cc in absurd (omega arith)
    go (stops x y z) h p q = let z : ◌≡◌ {A = ℕ} 0 1 = cc in absurd (omega arith)
    go (fills t) h p q = let k : c ≡ length (f t) = cc in rw k (rows_few img tab rows (f t) (passed h.0) q)

-- lines ---------------------------------------------------------------------------------------------------------------
lines-append : (l k : List Line) → lines_bytes (l ++ k) ≡ lines_bytes l ++ lines_bytes k
unfolding lines_bytes
lines-append [] k = refl
lines-append (x ∷ l) k = ap (λ (r : List ℕ). line_bytes x ++ r) (lines-append l k) ∙ sym (append_assoc (line_bytes x) (lines_bytes l) (lines_bytes k))

-- no line, one line, lines after lines
pub lines_none : {l : List Line} (most : ℕ) (o : Printer) → l ≡ [] → Wrote (lines_bytes l) most o o
unfolding lines_bytes
lines_none most o e = wrote_as (ap lines_bytes (sym e)) (omega arith) (wrote_none o)

pub lines-one : {l : List Line} {x : Line} {m : ℕ} {o p : Printer} (most : ℕ) → l ≡ x ∷ [] → m ≤ most → Wrote (line_bytes x) m o p → Wrote (lines_bytes l) most o p
unfolding lines_bytes
lines-one {l} {x} most e h f = wrote_as (sym (append-nil (line_bytes x)) ∙ ap lines_bytes (sym e)) h f

pub lines_next : (l k : List Line) {m n : ℕ} {o p q : Printer} → Wrote (lines_bytes l) m o p → Wrote (lines_bytes k) n p q → Wrote (lines_bytes (l ++ k)) (m + n) o q
lines_next l k f g = rw (lines-append l k) (wrote-next f g)

pub lines_more : {l k : List Line} {x : Line} {m n : ℕ} {o p q : Printer} (most : ℕ) → l ≡ x ∷ k → m + n ≤ most → Wrote (line_bytes x) m o p → Wrote (lines_bytes k) n p q → Wrote (lines_bytes l) most o q
unfolding lines_bytes
lines_more most e h f g = wrote_as (ap lines_bytes (sym e)) h (wrote-next f g)

-- what came instead of a result has no rows, and no last line
module _ {ans : Answer} where
  pub no-rows : (f : ℕ → ℕ → Line) (N : ℕ) (ws : List ℕ) (u : Unresolved) → ans ≡ unresolved_answer u → row_lines f N ans ws ≡ []
  unfolding row_lines
  no-rows f N ws (Refused r) e = ap (λ (a : Answer). row_lines f N a ws) e
  no-rows f N ws (Twice t) e = ap (λ (a : Answer). row_lines f N a ws) e

  pub no-end : (u : Unresolved) → ans ≡ unresolved_answer u → end_lines ans ≡ []
  unfolding end_lines
  no-end (Refused r) e = ap end_lines e
  no-end (Twice t) e = ap end_lines e

-- the rows of an answer
rows-lines : (f : ℕ → ℕ → Line) (word : List ℕ) → ((a b : ℕ) → line_bytes (f a b) ≡ word ++ numbers (a ∷ b ∷ [])) → (img ws : List ℕ) (n c a : ℕ) (o p : Printer)
    → n ≡ nodes img → Few img c → length ws ≡ length lent_rows → Wrote (rows_from word ws n c 0) (28 * c) o p → Wrote (lines_bytes (row_lines f (nodes img) (result a c) ws)) 57344 o p
unfolding row_lines
rows-lines f word same img ws n c a o p k few long w =
    let x = few.few in
    let y = few.small in
    let z = length-replicate {A = ℕ} (rows_length 2048) 0 in
    wrote_as
    (sym (zipped-rows f word same ws n c 0 (omega arith))
    ∙ ap (λ (j : ℕ). lines_bytes (zipped f (take c (drop 1 ws)) (take c (drop j ws)))) (let q : 1 + n + 0 ≡ 1 + nodes img = omega arith in q))
    (omega arith)
    w

-- the rows of a call
call-lines : (f : ℕ → ℕ → Line) (word : List ℕ) → ((a b : ℕ) → line_bytes (f a b) ≡ word ++ numbers (a ∷ b ∷ [])) → (img : List ℕ) {r : ℕ} (g : Table → List Row)
    → (r ≡ 0 → test_rows img lent_table lent_rows ≡ 0) → {t ws : List ℕ} {n c : ℕ} {o p : Printer} → rows_call img lent_table lent_rows r g ≡ record { answer = result 0 c; table = t; rows = ws }
    → length ws ≡ length lent_rows → n ≡ nodes img → Wrote (rows_from word ws n c 0) (28 * c) o p
    → Wrote (lines_bytes (row_lines f (nodes img) (rows_call img lent_table lent_rows r g).answer (rows_call img lent_table lent_rows r g).rows)) 57344 o p
call-lines f word same img g passed {ws = ws} {n} {c} {o} {p} e h k w =
    let few = call-few img lent_table lent_rows g passed 0 c (sym (ap (λ (x : RowsOutcome). x.answer) e)) (ap (λ (x : RowsOutcome). length x.rows) e ∙ h) in
    subst (λ (x : RowsOutcome). Wrote (lines_bytes (row_lines f (nodes img) x.answer x.rows)) 57344 o p) (sym e) (rows-lines f word same img ws n c 0 o p k few h w)

module _ (img : List ℕ) {t ws : List ℕ} {n c : ℕ} {o p : Printer} where
  pub error-lines : errors img lent_table lent_rows 1 ≡ record { answer = result 0 c; table = t; rows = ws } → length ws ≡ length lent_rows → n ≡ nodes img
      → Wrote (rows_from (text "error") ws n c 0) (28 * c) o p → Wrote (lines_bytes (error_lines img)) 57344 o p
  unfolding text line_bytes errors
  error-lines = call-lines error (text "error") (λ a b. refl) img (λ t. error_rows img t 1) (errors-rows img lent_table lent_rows 1)

  pub var-lines : occurrences img lent_table lent_rows ≡ record { answer = result 0 c; table = t; rows = ws } → length ws ≡ length lent_rows → n ≡ nodes img
      → Wrote (rows_from (text "var") ws n c 0) (28 * c) o p → Wrote (lines_bytes (var_lines img)) 57344 o p
  unfolding text line_bytes occurrences
  var-lines = call-lines var (text "var") (λ a b. refl) img (occurrence_rows img) (λ e. e)

-- bytes put into a buffer that holds them are printed there
pub printed : (bs ws vs : List ℕ) (r : ℕ) → 114750 ≤ length ws → out_at r vs ≡ write bs (out_at 0 ws) → length bs ≤ 114750 → Printed bs r vs
printed bs ws vs r h f s =
    let w = wrote-within bs ws vs 114750 r f s h in
    let k = wrote_kept bs ws vs 114750 r f s h in
    let l : r ≤ length vs = omega arith in
    record { within = l; counted = sym (length-take-le r vs l); bytes = wrote-whole bs ws vs 114750 r f s h }
