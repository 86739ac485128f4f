-- Document 02's S-1 on what Sorted leaves, beside what Errors leaves: for every image, table, rows and mode.
use mathlib.Core.Path.{◌≡◌, refl, sym, ◌∙◌, ap, subst}
use mathlib.Core.Logic.{inl, inr}
use mathlib.Core.Bool.{Bool}
use mathlib.Core.List.{List, Permᴰ}
use Prim.Native.Nat.{ℕ, zero, suc, ◌+◌, ◌<◌, ◌≤◌}
use native.Mathlib.Omega.{arith}
use lib.ListN.{get_or}
use borrow.Author.Tests.{leb-true, le-leb, eq-eqb, eqb-true}
use Rattle.ast.specs.Answer.{result}
use Rattle.ast.specs.Image.{nodes}
use Rattle.ast.specs.Location.{location_of}
use Rattle.rows.specs.Rows.{Row, row, read_rows, held}
use Rattle.rows.proofs.Reading.{held-written}
use Rattle.scopes.specs.Calls.{RowsOutcome}
use Rattle.bindings.specs.Errors.{errors}
use Rattle.sight.specs.Sight.{In}
use Rattle.sorted.specs.Sorted.{place, by_place, placed, sorted}
use Rattle.sorted.proofs.Calls.{placed-length, beside}
use Rattle.sorted.proofs.Placing.{place-compares}
use Rattle.calls.specs.Left.{Fills}
use Rattle.calls.specs.Order.{Rises, passing, many, one_place}
use Rattle.calls.proofs.Orders.{sort-same, as-often, sort-rises, sort-stable, one-order}

-- the k-th row of lent words
abbrev row_at : ℕ → List ℕ → ℕ → Row
row_at N ws k = row (get_or ws (1 + k) 0) (get_or ws (1 + N + k) 0)

-- a later row of some that rise has no smaller place
later-in : (N : ℕ) (ws : List ℕ) (c s d : ℕ) → d < c → In (row_at N ws (s + d)) (read_rows N ws c s)
unfolding read_rows
later-in N ws zero s d h = absurd (omega arith)
later-in N ws (suc c) s zero h = inl (ap (row_at N ws) (let z : s + 0 ≡ s = omega arith in z))
later-in N ws (suc c) s (suc d) h =
    inr (subst (λ (k : ℕ). In (row_at N ws k) (read_rows N ws c (s + 1))) (let z : s + 1 + d ≡ s + suc d = omega arith in z) (later-in N ws c (s + 1) d (omega arith)))

rise-at : (img : List ℕ) (N : ℕ) (ws : List ℕ) (c s : ℕ) → Rises (by_place img) (read_rows N ws c s) → (i j : ℕ) → i < j → j < c → place img (row_at N ws (s + i)) ≤ place img (row_at N ws (s + j))
unfolding read_rows
rise-at img N ws c s r i zero l h = absurd (omega arith)
rise-at img N ws zero s r i (suc j) l h = absurd (omega arith)
rise-at img N ws (suc c) s r zero (suc j) l h =
    subst (λ (k : ℕ). place img (row_at N ws k) ≤ place img (row_at N ws (s + suc j))) (let z : s ≡ s + 0 = omega arith in z)
    (subst (λ (k : ℕ). place img (row_at N ws s) ≤ place img (row_at N ws k)) (let z : s + 1 + j ≡ s + suc j = omega arith in z)
    (leb-true (place img (row_at N ws s)) (place img (row_at N ws (s + 1 + j))) (r.0 (row_at N ws (s + 1 + j)) (later-in N ws c (s + 1) j (omega arith)))))
rise-at img N ws (suc c) s r (suc i) (suc j) l h =
    subst (λ (k : ℕ). place img (row_at N ws k) ≤ place img (row_at N ws (s + suc j))) (let z : s + 1 + i ≡ s + suc i = omega arith in z)
    (subst (λ (k : ℕ). place img (row_at N ws (s + 1 + i)) ≤ place img (row_at N ws k)) (let z : s + 1 + j ≡ s + suc j = omega arith in z)
    (rise-at img N ws c (s + 1) r.1 i j (omega arith) (omega arith)))

module _ (img tab rows : List ℕ) (mode : ℕ) where
  -- what Errors leaves, and what Sorted leaves; the rows that the two have written
  abbrev pub errs : RowsOutcome
  errs = errors img tab rows mode

  abbrev pub left : RowsOutcome
  left = sorted img tab rows mode

  abbrev pub old : List Row
  old = held (nodes img) errs.rows

  abbrev pub list : List Row
  list = held (nodes img) left.rows

  record Beside (o p : RowsOutcome) : Type 0 where
    answer : p.answer ≡ o.answer
    table : p.table ≡ o.table
    else : (Fills o.answer → ⊥) → p.rows ≡ o.rows
    ordered : Fills o.answer → held (nodes img) p.rows ≡ placed img (held (nodes img) o.rows)

  both : Beside errs left
  both =
      beside img tab rows mode Beside (λ k. record { answer = refl; table = refl; else = λ f. refl; ordered = λ f. absurd f })
      (λ x a b. record { answer = refl; table = refl; else = λ f. refl; ordered = λ f. absurd f })
      (λ ws l f. record {
        answer = ap (result 0) (placed-length img l);
        table = refl;
        else = λ g. absurd (g tt);
        ordered = λ g.
            held-written (nodes img) (placed img l) rows (let a = placed-length img l in let b = f.few in omega arith)
            ∙ ap (placed img) (sym (held-written (nodes img) l rows f.few));
      })

  -- answer and table are those of Errors, whatever it answers
  pub answer-is : left.answer ≡ errs.answer
  answer-is = both.answer

  pub table_is : left.table ≡ errs.table
  table_is = both.table

  -- where it gives no rows, so are the words of the rows
  pub rows-stay : (Fills errs.answer → ⊥) → left.rows ≡ errs.rows
  rows-stay = both.else

  -- where it gives rows
  module _ (gives : Fills errs.answer) where
    pub list-is : list ≡ placed img old
    list-is = both.ordered gives

    -- they rise by place,
    pub list-rises : Rises (by_place img) list
    unfolding placed
    list-rises = subst (λ (l : List Row). Rises (by_place img) l) (sym list-is) (sort-rises (by_place img) (place-compares img) old)

    -- which is to say, on the words left: the second location words of the nodes rise from row to row;
    pub words-rise : (i j : ℕ) → i < j → j < get_or left.rows 0 0
        → (location_of img (get_or left.rows (1 + nodes img + i) 0)).1 ≤ (location_of img (get_or left.rows (1 + nodes img + j) 0)).1
    unfolding place
    words-rise i j h k =
        subst (λ (x : ℕ). place img (row_at (nodes img) left.rows x) ≤ place img (row_at (nodes img) left.rows j)) (let z : 0 + i ≡ i = omega arith in z)
        (subst (λ (x : ℕ). place img (row_at (nodes img) left.rows (0 + i)) ≤ place img (row_at (nodes img) left.rows x)) (let z : 0 + j ≡ j = omega arith in z)
        (rise-at img (nodes img) left.rows (get_or left.rows 0 0) 0 list-rises i j h k))

    -- they are the same rows, each as often, however rows are told apart;
    pub list-same : Permᴰ list old
    unfolding placed
    list-same = subst (λ (l : List Row). Permᴰ l old) (sym list-is) (sort-same (by_place img) old)

    pub list-often : (t : Row → Bool) → many t list ≡ many t old
    unfolding placed
    list-often t = ap (many t) list-is ∙ as-often (by_place img) t old

    -- those of one place keep their sequence;
    pub list-stable : (w : Row) → passing (one_place img w) list ≡ passing (one_place img w) old
    unfolding placed
    list-stable w =
        ap (passing (one_place img w)) list-is
        ∙ sort-stable (by_place img) (one_place img w) (λ a b p q. let x = eqb-true (place img w) (place img a) p in let y = eqb-true (place img w) (place img b) q in le-leb (place img a) (place img b) (omega arith)) old

    -- and no other list is so
    pub list-unique : (m : List Row) → Rises (by_place img) m → ((w : Row) → passing (one_place img w) m ≡ passing (one_place img w) old) → m ≡ list
    list-unique m r f =
        one-order (by_place img) (place-compares img) (one_place img)
        (λ a b p q. let x = leb-true (place img a) (place img b) p in let y = leb-true (place img b) (place img a) q in eq-eqb (place img a) (place img b) (omega arith))
        m list r list-rises (λ w. f w ∙ sym (list-stable w))
