-- The way of Rename: its buffer tests, and what it leaves beside what Occurrences leaves.
use mathlib.Core.Bool.{true, false}
use mathlib.Core.Path.{◌≡◌, refl, sym, ap, ap₂, ◌∙◌}
use mathlib.Core.List.{List, ◌++◌}
use Prim.Native.Nat.{ℕ, zero, suc, ◌<◌, ◌≤◌}
use native.Mathlib.Omega.{arith}
use lib.Dec.{leb→le}
use lib.ListN.{length, drop}
use borrow.Author.Tests.{le-leb, lt-leb, le-ltb, lt-ltb}
use Rattle.std.specs.Prelude.{Result, Ok, Err, IsErrAnd}
use Rattle.std.specs.Result.{result_unwrap_or}
use Rattle.error.specs.Refusals.{unresolved_answer}
use Rattle.error.specs.declared.Unresolved.{Unresolved}
use Rattle.error.specs.declared.Unresolved.TheVariants.{Refused, Twice}
use Rattle.ast.specs.Answer.{Answer, refused, twice, result, located, other}
use Rattle.ast.specs.Image.{nodes, names}
use Rattle.ast.specs.Tests.{◌▸◌, need}
use Rattle.ast.proofs.Accepted.{both, skip, stop, stop-at, needed}
use Rattle.ast.proofs.Scans.{▸-zero, need-in, need-out}
use Rattle.ast.proofs.Refusals.{Low, first-low, need-low}
use Rattle.rows.specs.Rows.{Row, read_rows}
use Rattle.scopes.specs.Answers.{rowed_answer}
use Rattle.scopes.specs.Calls.{lent_table, lent_rows, test_rows, RowsOutcome}
use Rattle.scopes.proofs.Calls.{rowed-refused}
use Rattle.scopes.proofs.Fitting.{rows-low}
use Rattle.occurrences.specs.Occurrences.{occurrence_rows, occurrences}
use Rattle.rename.specs.Rename.{renamed, is_binding, same_rows, occurrence_list, list_left, test_buffers, test_rename, out_after, answer_after, after_list, after_buffers, rename}

module _ (img tab rows out : List ℕ) where
  -- an output that is long enough adds no test; one that is not is 14, where the others refuse nothing
  pub output-long : length img ≤ length out → test_buffers img tab rows out ≡ test_rows img tab rows
  unfolding test_buffers need
  output-long h = ap (λ (b : ℕ). test_rows img tab rows ▸ b) (ap (need 14) (le-leb _ _ h)) ∙ ▸-zero (test_rows img tab rows)

  pub output_short : 0 ≡ test_rows img tab rows → length out < length img → 14 ≡ test_buffers img tab rows out
  unfolding test_buffers need
  output_short q h = sym (skip _ _ (sym q) ∙ ap (need 14) (lt-leb _ _ h))

  pub rows-first : (k : ℕ) → k ≡ test_rows img tab rows → (k ≡ 0 → ⊥) → k ≡ test_buffers img tab rows out
  unfolding test_buffers
  rows-first k q h = sym (stop-at _ _ k (sym q) h)

  module _ (i x : ℕ) where
    -- a buffer is refused: nothing alters
    pub refused-before : (k : ℕ) → k ≡ test_buffers img tab rows out → (k ≡ 0 → ⊥) → rename img tab rows i x out ≡ record { answer = refused k; table = tab; rows = rows; out = out }
    unfolding rename after_buffers
    refused-before zero q h = absurd (h refl)
    refused-before (suc r) q h = ap (after_buffers img tab rows i x out) (sym q)

    -- otherwise the call does what Occurrences does, and then what is told by its answer
    pub rename-long : length img ≤ length out → rename img tab rows i x out ≡ after_list img i x out (occurrences img tab rows) (occurrences img tab rows).answer
    unfolding rename occurrences
    rename-long h = ap (after_buffers img tab rows i x out) (output-long h) ∙ go (test_rows img tab rows) refl
      where
        go : (r : ℕ) → test_rows img tab rows ≡ r → after_buffers img tab rows i x out r ≡ after_list img i x out (occurrences img tab rows) (occurrences img tab rows).answer
        go zero q = unfold after_buffers in refl
        go (suc r) q = unfold after_buffers after_list in
            sym (ap (λ (o : RowsOutcome). after_list img i x out o o.answer) (rowed-refused img tab rows (occurrence_rows img) (suc r) (sym q) (λ z. omega arith)))

    -- by what Occurrences hands back and leaves
    module _ (long : length img ≤ length out) {ws vs : List ℕ} where
      rename-by : {a : Answer} → occurrences img tab rows ≡ record { answer = a; table = ws; rows = vs } → rename img tab rows i x out ≡ after_list img i x out (record { answer = a; table = ws; rows = vs }) a
      rename-by e = rename-long long ∙ ap (λ (o : RowsOutcome). after_list img i x out o o.answer) e

      -- what came instead of rows is handed on
      pub handed : (u : Unresolved) → occurrences img tab rows ≡ record { answer = unresolved_answer u; table = ws; rows = vs } → (r : Result ℕ Unresolved) → IsErrAnd r (λ v. v ≡ u)
          → rename img tab rows i x out ≡ record { answer = rowed_answer r; table = ws; rows = vs; out = out }
      unfolding after_list
      handed u e (Err v) h = same u e ∙ ap (λ (w : Unresolved). record { answer = unresolved_answer w; table = ws; rows = vs; out = out }) (sym h)
        where
          same : (w : Unresolved) → occurrences img tab rows ≡ record { answer = unresolved_answer w; table = ws; rows = vs } → rename img tab rows i x out ≡ record { answer = unresolved_answer w; table = ws; rows = vs; out = out }
          same (Refused k) e = rename-by e
          same (Twice k) e = rename-by e
      handed u e (Ok c) h = absurd h

      -- of a list the tests of the rename tell the rest
      pub after-tests : {c n r : ℕ} {bs : List ℕ} → occurrences img tab rows ≡ record { answer = result 0 c; table = ws; rows = vs } → n ≡ nodes img → r ≡ test_rename img (read_rows n vs c 0) i x
          → bs ≡ out_after img (read_rows n vs c 0) i x out r → rename img tab rows i x out ≡ record { answer = answer_after img r; table = ws; rows = vs; out = bs }
      unfolding after_list list_left
      after-tests {c} {n} {r} {bs} e m t o =
          rename-by e
          ∙ ap (λ (k : ℕ). record { answer = answer_after img (test_rename img (read_rows k vs c 0) i x); table = ws; rows = vs; out = out_after img (read_rows k vs c 0) i x out (test_rename img (read_rows k vs c 0) i x) }) (sym m)
          ∙ ap (λ (k : ℕ). record { answer = answer_after img k; table = ws; rows = vs; out = out_after img (read_rows n vs c 0) i x out k }) (sym t)
          ∙ ap (λ (us : List ℕ). record { answer = answer_after img r; table = ws; rows = vs; out = us }) (sym o)

-- a refusal's number is that of its answer, and the output stays
pub answer-refused : (img : List ℕ) (k : ℕ) → (k ≡ 0 → ⊥) → answer_after img k ≡ refused k
answer-refused img zero z = absurd (z refl)
answer-refused img (suc r) z = refl

pub out-kept : (img : List ℕ) (l : List Row) (i x : ℕ) (out : List ℕ) (k : ℕ) → (k ≡ 0 → ⊥) → out ≡ out_after img l i x out k
unfolding out_after
out-kept img l i x out zero z = absurd (z refl)
out-kept img l i x out (suc r) z = refl

-- where Occurrences answers with a result, no buffer is refused
pub listed-passed : (img tab rows : List ℕ) {c : ℕ} {ws vs : List ℕ} → occurrences img tab rows ≡ record { answer = result 0 c; table = ws; rows = vs } → test_rows img tab rows ≡ 0
unfolding occurrences
listed-passed img tab rows {c} e = go (test_rows img tab rows) refl
  where
    go : (r : ℕ) → test_rows img tab rows ≡ r → test_rows img tab rows ≡ 0
    go zero q = q
    go (suc r) q =
        let f = sym (rowed-refused img tab rows (occurrence_rows img) (suc r) (sym q) (λ z. omega arith)) ∙ e in
        let a : refused (suc r) ≡ result 0 c = ap (λ (o : RowsOutcome). o.answer) f in
        let z : ◌≡◌ {A = ℕ} 0 1 = cc in absurd (omega arith)

-- the list that the code reads of what Occurrences leaves in words of zeros
pub own-list : (img : List ℕ) (r : Result ℕ Unresolved) {t ws : List ℕ} {n c : ℕ} → occurrences img lent_table lent_rows ≡ record { answer = rowed_answer r; table = t; rows = ws } → n ≡ nodes img
    → c ≡ result_unwrap_or r 0 → read_rows n ws c 0 ≡ occurrence_list img
unfolding occurrence_list list_left
own-list img (Ok k) {ws = ws} e m q = ap₂ (λ (n c : ℕ). read_rows n ws c 0) m q ∙ sym (ap (list_left img) e)
own-list img (Err (Refused k)) {ws = ws} e m q = ap₂ (λ (n c : ℕ). read_rows n ws c 0) m q ∙ unfold read_rows in sym (ap (list_left img) e)
own-list img (Err (Twice k)) {ws = ws} e m q = ap₂ (λ (n c : ℕ). read_rows n ws c 0) m q ∙ unfold read_rows in sym (ap (list_left img) e)

-- what holds of every refusal and of what Occurrences answers, with the output as it was, and of a new image's length as a result, with that image in
-- front, holds of the answer and the output
module _ (img tab rows : List ℕ) (i x : ℕ) (out : List ℕ) (P : Answer → List ℕ → Type 0) (refusals : (r : ℕ) → Low r → P (refused r) out) where
  buffers-low : Low (test_buffers img tab rows out)
  unfolding test_buffers
  buffers-low = first-low _ _ (rows-low img tab rows) (need-low 14 _ (omega arith))

  rename-low : (l : List Row) → Low (test_rename img l i x)
  unfolding test_rename
  rename-low l = first-low _ _ (need-low 19 _ (omega arith)) (first-low _ _ (need-low 20 _ (omega arith)) (need-low 21 _ (omega arith)))

  abbrev Given : Type 0
  Given = (l : List Row) → P (result 0 (length img)) (renamed img l i x ++ drop (length img) out)

  after-is : (o : RowsOutcome) (a : Answer) → P a out → Given → P (after_list img i x out o a).answer (after_list img i x out o a).out
  unfolding after_list
  after-is o (refused r) p q = p
  after-is o (twice y a b) p q = p
  after-is o (located s k n) p q = p
  after-is o (other a b) p q = p
  after-is o (result a c) p q = go (test_rename img (list_left img o) i x) (rename-low (list_left img o))
    where
      go : (r : ℕ) → Low r → P (answer_after img r) (out_after img (list_left img o) i x out r)
      go zero l = unfold out_after in q (list_left img o)
      go (suc r) l = unfold out_after in refusals (suc r) l

  pub call-is : P (occurrences img tab rows).answer out → (test_rows img tab rows ≡ 0 → length img ≤ length out → Given) → P (rename img tab rows i x out).answer (rename img tab rows i x out).out
  unfolding rename test_buffers
  call-is p q = go (test_buffers img tab rows out) refl buffers-low
    where
      go : (r : ℕ) → test_buffers img tab rows out ≡ r → Low r → P (after_buffers img tab rows i x out r).answer (after_buffers img tab rows i x out r).out
      go zero e l = let b = both _ _ e in unfold after_buffers in after-is (occurrences img tab rows) (occurrences img tab rows).answer p (q b.0 (leb→le _ _ (needed 13 _ b.1)))
      go (suc r) e l = unfold after_buffers in refusals (suc r) l

-- 19 to 21
module _ (img : List ℕ) (l : List Row) (i x : ℕ) where
  pub no-binding : false ≡ is_binding i l → 19 ≡ test_rename img l i x
  unfolding test_rename
  no-binding b = sym (stop _ _ 18 (need-out 19 _ (sym b)))

  module _ (bound : true ≡ is_binding i l) where
    pub no-name : names img ≤ x → 20 ≡ test_rename img l i x
    unfolding test_rename
    no-name h = sym (skip _ _ (need-in 19 _ (sym bound)) ∙ stop _ _ 19 (need-out 20 _ (le-ltb _ _ h)))

    module _ (below : x < names img) where
      pub other-list : false ≡ same_rows (occurrence_list (renamed img l i x)) l → 21 ≡ test_rename img l i x
      unfolding test_rename
      other-list d = sym (skip _ _ (need-in 19 _ (sym bound)) ∙ skip _ _ (need-in 20 _ (lt-ltb _ _ below)) ∙ need-out 21 _ (sym d))

      pub same-list : true ≡ same_rows (occurrence_list (renamed img l i x)) l → 0 ≡ test_rename img l i x
      unfolding test_rename
      same-list e = sym (skip _ _ (need-in 19 _ (sym bound)) ∙ skip _ _ (need-in 20 _ (lt-ltb _ _ below)) ∙ need-in 21 _ (sym e))
