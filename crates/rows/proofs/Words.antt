-- Words that are written and words that are not: the places past the rows that are put in.
use mathlib.Core.Path.{◌≡◌, refl, ◌∙◌, ap}
use mathlib.Core.List.{List, [], ◌∷◌, ◌++◌}
use Prim.Native.Nat.{ℕ, ◌+◌, ◌<◌, ◌≤◌}
use native.Mathlib.Omega.{arith}
use lib.ListN.{length, get_or, set, drop, replicate, length-set, length-replicate, get_or-replicate, get_or-append}
use lib.Seq.{get_or-set_other, drop-set-lt}
use Rattle.rows.specs.Rows.{Row, lefts, rights, rows_length, filled, written, cleared, put_rows}
use Rattle.rows.proofs.Appends.{clear-length, clear-past, put-length, written_is}

-- a cleared word is 0
pub cleared-zero : (n : ℕ) (ws : List ℕ) (i : ℕ) → i < n → get_or (cleared n ws) i 0 ≡ 0
unfolding cleared
cleared-zero n ws i l =
    get_or-append (replicate n 0) (drop n ws) 0 i (let z = length-replicate {A = ℕ} n 0 in omega arith) ∙ get_or-replicate n i 0 0 l

-- two places in the arrays of rows
put-past : (N c : ℕ) (l : List Row) (ws : List ℕ) (i : ℕ) → c + length l ≤ i → i < N
    → (get_or (put_rows N c l ws) (1 + i) 0 ≡ get_or ws (1 + i) 0) × (get_or (put_rows N c l ws) (1 + N + i) 0 ≡ get_or ws (1 + N + i) 0)
unfolding put_rows
put-past N c [] ws i h k = (refl, refl)
put-past N c (w ∷ l) ws i h k =
    let vs = set ws (1 + c) w.left in
    let g = put-past N (c + 1) l (set vs (1 + N + c) w.right) i (omega arith) k in (
      g.0 ∙ get_or-set_other vs (1 + N + c) (1 + i) w.right 0 (λ q. omega arith) ∙ get_or-set_other ws (1 + c) (1 + i) w.left 0 (λ q. omega arith),
      g.1 ∙ get_or-set_other vs (1 + N + c) (1 + N + i) w.right 0 (λ q. omega arith) ∙ get_or-set_other ws (1 + c) (1 + N + i) w.left 0 (λ q. omega arith),
    )

put-drop : (N c : ℕ) (l : List Row) (ws : List ℕ) → c + length l ≤ N → drop (rows_length N) (put_rows N c l ws) ≡ drop (rows_length N) ws
unfolding put_rows
put-drop N c [] ws h = refl
put-drop N c (w ∷ l) ws h =
    put-drop N (c + 1) l _ (omega arith) ∙ drop-set-lt (rows_length N) (set ws (1 + c) w.left) (1 + N + c) w.right (omega arith)
    ∙ drop-set-lt (rows_length N) ws (1 + c) w.left (omega arith)

-- rows that are written, no more than N: the places past them are 0, the words past 1 + 2N and the length as they were
module _ (N : ℕ) (l : List Row) (old : List ℕ) (few : length l ≤ N) where
  abbrev put : List ℕ
  put = put_rows N 0 l (cleared (rows_length N) old)

  pub written_count : get_or (written N l old) 0 0 ≡ length l
  unfolding written
  written_count = refl

  pub written-unused : (i : ℕ) → length l ≤ i → i < N → (get_or (written N l old) (1 + i) 0 ≡ 0) × (get_or (written N l old) (1 + N + i) 0 ≡ 0)
  written-unused i h k =
      let g = put-past N 0 l (cleared (rows_length N) old) i (omega arith) k in (
        ap (λ (ws : List ℕ). get_or ws (1 + i) 0) (written_is N l old few) ∙ get_or-set_other put 0 (1 + i) (length l) 0 (λ q. omega arith) ∙ g.0 ∙ cleared-zero (rows_length N) old (1 + i) (omega arith),
        ap (λ (ws : List ℕ). get_or ws (1 + N + i) 0) (written_is N l old few) ∙ get_or-set_other put 0 (1 + N + i) (length l) 0 (λ q. omega arith) ∙ g.1
            ∙ cleared-zero (rows_length N) old (1 + N + i) (omega arith),
      )

  pub written-past : drop (rows_length N) (written N l old) ≡ drop (rows_length N) old
  written-past =
      ap (drop (rows_length N)) (written_is N l old few) ∙ drop-set-lt (rows_length N) put 0 (length l) (omega arith)
      ∙ put-drop N 0 l (cleared (rows_length N) old) (omega arith) ∙ clear-past (rows_length N) old

  pub written-long : rows_length N ≤ length old → length (written N l old) ≡ length old
  written-long h =
      ap length (written_is N l old few) ∙ length-set put 0 (length l) ∙ put-length N 0 l (cleared (rows_length N) old) ∙ clear-length (rows_length N) old h

  -- other rows written over them
  pub written_over : (k : List Row) → written N k (written N l old) ≡ written N k old
  unfolding written
  written_over k = ap (λ (ws : List ℕ). length k ∷ (filled N (lefts k) ++ (filled N (rights k) ++ ws))) written-past
