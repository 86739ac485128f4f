-- Document 01's sentences on rows 1 to 4, on the words that Errors leaves: for every image, table and rows for which the call gives no
-- refusal, where no module or model list declares one name twice.
use mathlib.Core.Path.{◌≡◌, sym, ap, subst, ◌∙◌}
use mathlib.Core.Logic.{⊎_elim, ◌↔◌}
use mathlib.Core.Bool.{Bool, true, false}
use mathlib.Core.List.Memᴰ
use mathlib.Core.List.{List, ◌++◌, Memᴰ}
use Prim.Native.Nat.{ℕ, zero, suc, ◌+◌, ◌≤◌}
use native.Mathlib.Decide.{ℕ_discrete}
use native.Mathlib.Omega.{arith}
use lib.ListN.{length}
use Rattle.ast.specs.Answer.{result}
use Rattle.ast.specs.Image.{nodes}
use Rattle.ast.specs.Tests.{verdict}
use Rattle.table.specs.State.{Walked}
use Rattle.table.specs.Table.{Table}
use Rattle.rows.specs.Rows.{Row, row, when, held}
use Rattle.scopes.specs.Calls.{RowsOutcome, rows_call}
use Rattle.scopes.specs.Resolve.{walked, counted}
use Rattle.scopes.specs.Twice.{among, declared_twice}
use Rattle.scopes.specs.Walk.{done}
use Rattle.scopes.proofs.Calls.{rowed-done, rowed-held, rowed-count}
use Rattle.scopes.proofs.Resolving.{table-accepted}
use Rattle.scopes.proofs.Single.{single-done}
use Rattle.bindings.specs.Errors.{strict_from, strict_rows, plain_rows, error_rows, test_errors, errors}
use Rattle.bindings.specs.Promises.{of_mode}
use Rattle.bindings.proofs.Bound.{rows_few}
use Rattle.bindings.proofs.Calls.{mode-strict, mode-plain, errors-are, errors-table}
use Rattle.sentences.specs.Places.{Introduced, NotNew, NotFresh, Repeated}
use Rattle.sentences.proofs.Repeats as repeats
use Rattle.sentences.proofs.Sentences as sentences
use Rattle.sight.specs.Listing.{Unrefused}
use Rattle.sound.specs.Sound.{table_in}
use Rattle.sight.proofs.Answering.{passes}
use Rattle.sight.proofs.Resolving.{left-table}

-- strict mode adds rows 4 alone
strict-numbers : (img ns : List ℕ) (c n : ℕ) (w : Row) → Memᴰ w (strict_from img ns c n) → w.left ≡ 4
unfolding strict_from when
strict-numbers img ns zero n w m = absurd (Memᴰ.not-nil m)
strict-numbers img ns (suc c) n w m = ⊎_elim (λ h. one (among n ns) h) (strict-numbers img ns c (n + 1) w) (Memᴰ.append_cases (when (among n ns) (row 4 n)) m)
  where
    one : (b : Bool) → Memᴰ w (when b (row 4 n)) → w.left ≡ 4
    one true h = ap (λ (v : Row). v.left) (Memᴰ.eq_of_singleton h)
    one false h = absurd (Memᴰ.not-nil h)

module _ (img tab rows : List ℕ) (mode : ℕ) where
  -- what the call leaves: the rows that it has written, and the table
  abbrev pub left : RowsOutcome
  left = errors img tab rows mode

  abbrev pub list : List Row
  list = held (nodes img) left.rows

  abbrev pub table : Table
  table = table_in img left.table

  module _ (unrefused : Unrefused left.answer) (once : declared_twice img ≡ false) where
    tested : test_errors img tab rows mode ≡ 0
    unfolding errors rows_call
    tested = passes img tab _ (test_errors img tab rows mode) unrefused

    accepted : verdict img ≡ 0
    accepted = table-accepted img tab (errors-table img tab rows mode tested)

    ended : (e : Walked) × (walked img tab ≡ done e)
    ended = single-done img tab (errors-table img tab rows mode tested) once

    table_is : table ≡ counted img ended.0.table
    unfolding errors
    table_is =
        ap (λ (o : RowsOutcome). table_in img o.table) (rowed-done img tab rows (λ t. error_rows img t mode) tested ended.1)
        ∙ left-table img tab (errors-table img tab rows mode tested) ended.1

    -- the plain rows of the table that is left, then those of strict mode
    pub list-is : list ≡ plain_rows img table ++ of_mode img mode
    unfolding errors
    list-is =
        rowed-held img tab rows (λ t. error_rows img t mode) tested ended.1 (rows_few img accepted _ mode)
        ∙ sym (errors-are img _ mode) ∙ ap (λ (t : Table). plain_rows img t ++ of_mode img mode) (sym table_is)

    -- the call hands back how many there are; there is room for all of them
    pub count : left.answer ≡ result 0 (length list)
    unfolding errors
    count = rowed-count img tab rows (λ t. error_rows img t mode) tested ended.1 (rows_few img accepted _ mode)

    pub few : length list ≤ nodes img
    unfolding errors
    few =
        subst (λ (l : List Row). length l ≤ nodes img) (sym (rowed-held img tab rows (λ t. error_rows img t mode) tested ended.1 (rows_few img accepted _ mode)))
        (rows_few img accepted _ mode)

    of-mode : (w : Row) → Memᴰ w (of_mode img mode) → (mode ≡ 1 → ⊥) × Memᴰ w (strict_rows img)
    of-mode w m = go (ℕ_discrete mode 1)
      where
        go : Dec (mode ≡ 1) → (mode ≡ 1 → ⊥) × Memᴰ w (strict_rows img)
        go (yes e) = absurd (Memᴰ.not-nil (subst (Memᴰ w) (mode-plain img mode e) m))
        go (no h) = (h, subst (Memᴰ w) (sym (mode-strict img mode h)) m)

    of-strict : (w : Row) → Memᴰ w (of_mode img mode) → w.left ≡ 4
    unfolding strict_rows
    of-strict w m = strict-numbers img _ (nodes img) 0 w (of-mode w m).1

    -- a plain row is in the list exactly if it is among the plain ones
    plain : (w : Row) → w.left ≤ 3 → Memᴰ w list ↔ Memᴰ w (plain_rows img table)
    plain w l = (
      (λ m. ⊎_elim (λ h. h) (λ h. absurd (let z = of-strict w h in omega arith)) (Memᴰ.append_cases (plain_rows img table) (subst (Memᴰ w) list-is m))),
      (λ m. subst (Memᴰ w) (sym list-is) (Memᴰ.append_left (of_mode img mode) m)),
    )

    -- row 1 stands at exactly the ident terms of a then-atom that introduce their name, except the defined variable and terms under Dom,
    -- Cod or a member predicate's receiver
    pub row-one : (n : ℕ) → Memᴰ (row 1 n) list ↔ Introduced img table n
    row-one n =
        let p = plain (row 1 n) (omega arith) in
        let s = sentences.row-one img table accepted n in
        ((λ m. s.0 (p.0 m)), (λ h. p.1 (s.1 h)))

    -- row 2 at exactly the defined-then variables whose name is a Var at the atom's entry
    pub row-two : (n : ℕ) → Memᴰ (row 2 n) list ↔ NotNew img table n
    row-two n =
        let p = plain (row 2 n) (omega arith) in
        let s = sentences.row-two img table accepted n in
        ((λ m. s.0 (p.0 m)), (λ h. p.1 (s.1 h)))

    -- row 3 at exactly the ident arguments that are a Var at their own entry, directly under a case pattern whose head is an ident that
    -- lookup gives as Ctor
    pub row-three : (n : ℕ) → Memᴰ (row 3 n) list ↔ NotFresh img table n
    row-three n =
        let p = plain (row 3 n) (omega arith) in
        let s = sentences.row-three img table accepted n in
        ((λ m. s.0 (p.0 m)), (λ h. p.1 (s.1 h)))

    -- row 4, in every mode but 1 (which leaves 0 and 2), at exactly the named arguments whose name an earlier one of their list carries
    pub row-four : (n : ℕ) → Memᴰ (row 4 n) list ↔ ((mode ≡ 1 → ⊥) × Repeated img n)
    row-four n = (to, from)
      where
        to : Memᴰ (row 4 n) list → (mode ≡ 1 → ⊥) × Repeated img n
        to m =
            ⊎_elim (λ h. absurd (let z = (sentences.plain-numbers img table accepted (row 4 n) h).1 in omega arith))
            (λ h. let g = of-mode (row 4 n) h in (g.0, (repeats.row-four img accepted n).0 g.1))
            (Memᴰ.append_cases (plain_rows img table) (subst (Memᴰ (row 4 n)) list-is m))

        from : (mode ≡ 1 → ⊥) × Repeated img n → Memᴰ (row 4 n) list
        from (s, h) =
            subst (Memᴰ (row 4 n)) (sym list-is)
            (Memᴰ.append_right (plain_rows img table) (subst (Memᴰ (row 4 n)) (mode-strict img mode s) ((repeats.row-four img accepted n).1 h)))

    -- and there is no row of another number
    pub row-numbers : (w : Row) → Memᴰ w list → (1 ≤ w.left) × (w.left ≤ 4)
    row-numbers w m =
        ⊎_elim (λ h. let z = sentences.plain-numbers img table accepted w h in (z.0, let y = z.1 in omega arith)) (λ h. let z = of-strict w h in (omega arith, omega arith))
        (Memᴰ.append_cases (plain_rows img table) (subst (Memᴰ w) list-is m))
