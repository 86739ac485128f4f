-- When a rename is given, by the old image's occurrence list and the new one's, and what the call leaves.
use mathlib.Core.Bool.{Bool, true, false, ◌||◌}
use mathlib.Core.Path.{◌≡◌, refl, sym, ap, ap₂, ◌∙◌, subst}
use mathlib.Core.Logic.{inl, inr, ◌↔◌}
use mathlib.Core.List.{List, [], ◌∷◌, ◌++◌}
use mathlib.Core.Option.{some}
use Prim.Native.Nat.{ℕ, zero, suc, ◌<◌, ◌≤◌}
use native.Mathlib.Omega.{arith}
use lib.Dec.{T, not_T, eqb, eqb→eq, ltb→lt}
use lib.ListN.{length, get_or, drop, length-replicate}
use borrow.Author.Tests.{eq-eqb, le-leb}
use Rattle.ast.specs.Answer.{refused, twice, result}
use Rattle.ast.specs.Image.{nodes, names, name_of}
use Rattle.ast.specs.Tests.{verdict}
use Rattle.ast.proofs.Accepted.{both, skip, needed, sized}
use Rattle.ast.proofs.Bools.{is_false}
use Rattle.ast.proofs.Scans.{need-in}
use Rattle.ast.proofs.Vars.{and_both}
use Rattle.table.specs.Layout.{table_length}
use Rattle.rows.specs.Rows.{Row, row, rows_length, read_rows}
use Rattle.rows.proofs.Reading.{read_length}
use Rattle.scopes.specs.Calls.{lent_table, lent_rows, test_rows, RowsOutcome}
use Rattle.scopes.specs.Clash.{Clash, first_clash}
use Rattle.scopes.specs.Resolve.{test_table, zeroed, walked}
use Rattle.scopes.specs.Twice.{declared_twice}
use Rattle.scopes.specs.Walk.{Listed, done, twice as stopped}
use Rattle.scopes.proofs.Calls.{rows-table, rowed-twice}
use Rattle.scopes.proofs.Clashes.{shows}
use Rattle.scopes.proofs.Declaring.{twice-exactly}
use Rattle.scopes.proofs.Resolving.{walked-shown, twice-only}
use Rattle.occurrences.specs.Occurrences.{occurrence_rows, occurrences}
use Rattle.sight.specs.Sight.{In}
use Rattle.sight.proofs.Demand.{count}
use Rattle.meaning.specs.Meaning.{marks_in}
use Rattle.meaning.proofs.ByMeaning.{list-by-meaning}
use Rattle.rename.specs.Rename.{renamed, is_binding, same_rows, list_left, occurrence_list, test_buffers, test_rename, Outcome, out_after, answer_after, after_list, rename}
use Rattle.rename.proofs.Ways as ways
use Rattle.renaming.specs.Bytes.{Bytes}
use Rattle.renaming.specs.Passes.{Passes}
use Rattle.renaming.proofs.Rename.{renamed-alike, renamed-accepted, renamed-twice, renamed-back, renamed-own, name-low}
use Rattle.renaming.proofs.Sights.{image-of, unrefused}

-- the list ---------------------------------------------------------------------------------------------------------------
list-answered : (img : List ℕ) (o : RowsOutcome) (a c : ℕ) → o.answer ≡ result a c → list_left img o ≡ read_rows (nodes img) o.rows c 0
unfolding list_left
list-answered img o a c e = rw (e, list_left)

-- the list that Occurrences leaves is the one by meanings
pub list-left : (img tab rows : List ℕ) → test_rows img tab rows ≡ 0 → declared_twice img ≡ false → list_left img (occurrences img tab rows) ≡ marks_in img
list-left img tab rows passed once =
    let u = unrefused img tab rows passed once in
    let ws = (occurrences img tab rows).rows in
    list-answered img (occurrences img tab rows) 0 _ (count img tab rows u once)
    ∙ ap (λ (c : ℕ). read_rows (nodes img) ws c 0) (read_length (nodes img) ws (get_or ws 0 0) 0)
    ∙ list-by-meaning img tab rows u once

-- words that are enough for any image
lent-passed : (img tab rows : List ℕ) → verdict img ≡ 0 → table_length 2048 ≤ length tab → rows_length 2048 ≤ length rows → test_rows img tab rows ≡ 0
unfolding test_rows test_table
lent-passed img tab rows v h k =
    let s = sized img v in
    skip _ _ (skip _ _ v ∙ need-in 13 _ (le-leb _ _ (omega arith))) ∙ need-in 14 _ (le-leb _ _ (omega arith))

-- so is the occurrence list of every image that is accepted and declares nothing twice
pub list-of : (img : List ℕ) → verdict img ≡ 0 → declared_twice img ≡ false → occurrence_list img ≡ marks_in img
unfolding occurrence_list
list-of img v once =
    list-left img lent_table lent_rows
    (lent-passed img lent_table lent_rows v (let l = length-replicate {A = ℕ} (table_length 2048) 0 in omega arith) (let l = length-replicate {A = ℕ} (rows_length 2048) 0 in omega arith)) once

-- lists are equal row by row exactly if they are equal
pub same-rows : (l k : List Row) → T (same_rows l k) → l ≡ k
unfolding same_rows
same-rows [] [] t = refl
same-rows [] (v ∷ k) t = absurd t
same-rows (w ∷ l) [] t = absurd t
same-rows (w ∷ l) (v ∷ k) t =
    let a = and_both _ (same_rows l k) t in
    let b = and_both (eqb w.left v.left) (eqb w.right v.right) a.0 in
    ap₂ ◌∷◌ (ap₂ row (eqb→eq _ _ b.0) (eqb→eq _ _ b.1)) (same-rows l k a.1)

pub rows-same : (l : List Row) → same_rows l l ≡ true
unfolding same_rows
rows-same [] = refl
rows-same (w ∷ l) = rw (eq-eqb w.left w.left refl, eq-eqb w.right w.right refl, rows-same l)

-- a binding of the list is the second number of some row
pub binding-row : (i : ℕ) (l : List Row) → T (is_binding i l) → (w : Row) × In w l × (w.right ≡ i)
unfolding is_binding
binding-row i [] t = absurd t
binding-row i (w ∷ l) t = go (eqb w.right i) (eqb→eq w.right i) t (binding-row i l)
  where
    go : (b : Bool) → (T b → w.right ≡ i) → T (b || is_binding i l) → (T (is_binding i l) → (v : Row) × In v l × (v.right ≡ i)) → (v : Row) × In v (w ∷ l) × (v.right ≡ i)
    go true f t g = (w, inl refl, f tt)
    go false f t g = let r = g t in (r.0, inr r.1, r.2)

pub row-binding : (i : ℕ) (l : List Row) (w : Row) → In w l → w.right ≡ i → is_binding i l ≡ true
unfolding is_binding
row-binding i [] w h e = absurd h
row-binding i (v ∷ l) w (inl q) e = rw (eq-eqb v.right i (ap (λ (u : Row). u.right) (sym q) ∙ e))
row-binding i (v ∷ l) w (inr k) e = rw (row-binding i l w k e) (or-true (eqb v.right i))
  where
    or-true : (b : Bool) → (b || true) ≡ true
    or-true true = refl
    or-true false = refl

-- what a rename asks -----------------------------------------------------------------------------------------------------
module _ (img : List ℕ) (accepted : verdict img ≡ 0) (once : declared_twice img ≡ false) (i x : ℕ) where
  abbrev new : List ℕ
  new = renamed img (marks_in img) i x

  -- the new image's list, as the call finds it
  new-list : x < names img → occurrence_list new ≡ marks_in new
  new-list l = list-of new (renamed-accepted img accepted i x l) (renamed-twice img accepted i x l ∙ once)

  -- it is given exactly if that holds
  pub passes-exactly : (test_rename img (marks_in img) i x ≡ 0) ↔ Passes img i x
  unfolding test_rename
  passes-exactly = (
    (λ e.
        let a = both _ _ e in
        let b = both _ _ a.1 in
        let l = ltb→lt _ _ (needed 19 _ b.0) in
        record { bound = binding-row i (marks_in img) (needed 18 _ a.0); below = l; lists = sym (new-list l) ∙ same-rows _ _ (needed 20 _ b.1) }),
    (λ p.
        let w = p.bound in
        sym (ways.same-list img (marks_in img) i x (sym (row-binding i (marks_in img) w.0 w.1 w.2)) p.below
        (sym (ap (λ (l : List Row). same_rows l (marks_in img)) (new-list p.below ∙ p.lists) ∙ rows-same (marks_in img))))),
  )

  -- else the refusal is 19 where i is the binding of no row
  pub no-binding : ((w : Row) → In w (marks_in img) → w.right ≡ i → ⊥) → test_rename img (marks_in img) i x ≡ 19
  no-binding none =
      let b = is_binding i (marks_in img) in
      sym (ways.no-binding img (marks_in img) i x (sym (is_false b (not_T b (λ t. let r = binding-row i (marks_in img) t in none r.0 r.1 r.2)))))

  module _ (w : Row) (k : In w (marks_in img)) (e : w.right ≡ i) where
    -- and 20 where x is no name number
    pub no-name : names img ≤ x → test_rename img (marks_in img) i x ≡ 20
    no-name l = sym (ways.no-name img (marks_in img) i x (sym (row-binding i (marks_in img) w k e)) l)

    -- and 21 where the lists differ
    pub differs : x < names img → (marks_in new ≡ marks_in img → ⊥) → test_rename img (marks_in img) i x ≡ 21
    differs l z =
        let b = same_rows (occurrence_list new) (marks_in img) in
        sym (ways.other-list img (marks_in img) i x (sym (row-binding i (marks_in img) w k e)) l (sym (is_false b (not_T b (λ t. z (sym (new-list l) ∙ same-rows _ _ t))))))

-- a rename that is given can be taken back, and gives the old image; and renaming to its own name is given, and copies the image
module _ (img : List ℕ) (accepted : verdict img ≡ 0) (bytes : Bytes img) (i : ℕ) where
  -- back to the binding's name
  pub back-given : (x : ℕ) → Passes img i x
      → Passes (renamed img (marks_in img) i x) i (name_of img i)
      × (renamed (renamed img (marks_in img) i x) (marks_in (renamed img (marks_in img) i x)) i (name_of img i) ≡ img)
  back-given x p =
      let w = p.bound.0 in
      let back = renamed-back img accepted i x p.below bytes p.lists in (
        record {
          bound = (w, subst (In w) (sym p.lists) p.bound.1, p.bound.2);
          below = rw (renamed-alike img accepted i x p.below).names-are (name-low img accepted i w p.bound.1 p.bound.2);
          lists = ap marks_in back ∙ sym p.lists;
        },
        back,
      )

  -- to its own name
  pub own-given : (w : Row) → In w (marks_in img) → w.right ≡ i → Passes img i (name_of img i) × (renamed img (marks_in img) i (name_of img i) ≡ img)
  own-given w k e =
      let l = name-low img accepted i w k e in
      let own = renamed-own img accepted i l bytes in
      (record { bound = (w, k, e); below = l; lists = ap marks_in own }, own)

-- what the call leaves ---------------------------------------------------------------------------------------------------
module _ (img tab rows : List ℕ) (i x : ℕ) (out : List ℕ) where
  -- a buffer is refused: nothing alters
  pub refused-before : (r : ℕ) → test_buffers img tab rows out ≡ suc r → rename img tab rows i x out ≡ record { answer = refused (suc r); table = tab; rows = rows; out = out }
  refused-before r e = ways.refused-before img tab rows out i x (suc r) (sym e) (λ z. omega arith)

  module _ (buffers : test_buffers img tab rows out ≡ 0) where
    passed : test_rows img tab rows ≡ 0
    unfolding test_buffers
    passed = (both _ _ buffers).0

    leaves : rename img tab rows i x out ≡ after_list img i x out (occurrences img tab rows) (occurrences img tab rows).answer
    unfolding rename
    leaves = rw (buffers, rename)

    clash-on : (c : Clash) → first_clash img ≡ some c → rename img tab rows i x out ≡ record { answer = twice c.name c.first c.second; table = zeroed img tab; rows = rows; out = out }
    unfolding after_list occurrences shows
    clash-on c e =
        leaves
        ∙ ap (λ (o : RowsOutcome). after_list img i x out o o.answer)
        (rowed-twice img tab rows (occurrence_rows img) passed (go (walked img tab) refl (walked-shown img tab (rows-table img tab rows passed))))
      where
        go : (l : Listed) → walked img tab ≡ l → shows (walked img tab) ≡ first_clash img → walked img tab ≡ stopped c.name c.first c.second
        go (done f) q s = let z = ap shows (sym q) ∙ s ∙ e in cc
        go (stopped y a b) q s =
            let z = ap shows (sym q) ∙ s ∙ e in
            let w : record { name = y; first = a; second = b } ≡ c = cc in
            q ∙ ap (λ (d : Clash). stopped d.name d.first d.second) w

    -- some list declares a name twice: the first clash is passed on, with zeros in the table, and the rows and the output as they were
    pub passed-on : declared_twice img ≡ true
        → (c : Clash) × (first_clash img ≡ some c) × (rename img tab rows i x out ≡ record { answer = twice c.name c.first c.second; table = zeroed img tab; rows = rows; out = out })
    passed-on d =
        let t = (twice-exactly img tab (rows-table img tab rows passed)).1 d in
        let c : Clash = record { name = t.0; first = t.1; second = t.2 } in
        let e = twice-only img tab t.0 t.1 t.2 t.3 in (c, e, clash-on c e)

    module _ (once : declared_twice img ≡ false) where
      -- by the number of the tests after that, which of these it leaves
      abbrev left_by : List Row → ℕ → Outcome
      left_by l r =
          record {
            answer = answer_after img r;
            table = (occurrences img tab rows).table;
            rows = (occurrences img tab rows).rows;
            out = out_after img l i x out r;
          }

      tells : rename img tab rows i x out ≡ left_by (marks_in img) (test_rename img (marks_in img) i x)
      unfolding after_list
      tells =
          leaves
          ∙ ap (after_list img i x out (occurrences img tab rows)) (count img tab rows (unrefused img tab rows passed once) once)
          ∙ ap (λ (l : List Row). left_by l (test_rename img l i x)) (list-left img tab rows passed once)

      accepted : verdict img ≡ 0
      accepted = image-of img tab rows passed

      -- a rename that passes: the new image and its length, with the bytes past it as they were; table and rows are the old image's
      pub given : Passes img i x
          → rename img tab rows i x out
          ≡ record {
            answer = result 0 (length img);
            table = (occurrences img tab rows).table;
            rows = (occurrences img tab rows).rows;
            out = renamed img (marks_in img) i x ++ drop (length img) out;
          }
      unfolding out_after
      given p = tells ∙ ap (left_by (marks_in img)) ((passes-exactly img accepted once i x).1 p)

      -- one that does not: its refusal, table and rows the same, the output as it was
      pub refuses : (r : ℕ) → test_rename img (marks_in img) i x ≡ suc r
          → rename img tab rows i x out ≡ record { answer = refused (suc r); table = (occurrences img tab rows).table; rows = (occurrences img tab rows).rows; out = out }
      unfolding out_after
      refuses r e = tells ∙ ap (left_by (marks_in img)) e

      -- the call gives a result exactly if the rename passes
      pub given-exactly : ((rename img tab rows i x out).answer ≡ result 0 (length img)) ↔ Passes img i x
      given-exactly = (
        (λ e. (passes-exactly img accepted once i x).0 (zero-of (test_rename img (marks_in img) i x) (sym (ap (λ (o : Outcome). o.answer) tells) ∙ e))),
        (λ p. ap (λ (o : Outcome). o.answer) tells ∙ ap (answer_after img) ((passes-exactly img accepted once i x).1 p)),
      )
        where
          zero-of : (r : ℕ) → answer_after img r ≡ result 0 (length img) → r ≡ 0
          zero-of zero e = refl
          zero-of (suc r) e = cc
