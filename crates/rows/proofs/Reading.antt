-- Rows read back: after they were put in, and after all of them were written.
use mathlib.Core.Path.{◌≡◌, refl, sym, ap, ap₂, ◌∙◌}
use mathlib.Core.List.{List, [], ◌∷◌}
use Prim.Native.Nat.{ℕ, zero, suc, ◌+◌, ◌-◌, ◌<◌, ◌≤◌}
use native.Mathlib.Omega.{arith}
use lib.ListN.{length, get_or, set, length-set}
use lib.Seq.{get_or-set_same, get_or-set_other}
use Rattle.rows.specs.declared.Rows.{Rows}
use Rattle.rows.specs.declared.Written.{Written}
use Rattle.rows.specs.declared.Pairs.{Pairs}
use Rattle.rows.specs.Rows.{Row, row, rows_length, written, put_rows, Appends, read_rows, held, Shows, shown, pairs_left}
use Rattle.rows.proofs.Appends.{clear-long, written_is}

-- a place that no row takes
put_keeps : (N c : ℕ) (l : List Row) (ws : List ℕ) (k : ℕ) → ((d : ℕ) → c ≤ d → d < c + length l → (k ≡ 1 + d → ⊥) × (k ≡ 1 + N + d → ⊥))
    → get_or (put_rows N c l ws) k 0 ≡ get_or ws k 0
unfolding put_rows
put_keeps N c [] ws k h = refl
put_keeps N c (w ∷ l) ws k h =
    put_keeps N (c + 1) l (set (set ws (1 + c) w.left) (1 + N + c) w.right) k (λ d a b. h d (omega arith) (omega arith))
    ∙ get_or-set_other (set ws (1 + c) w.left) (1 + N + c) k w.right 0 (h c (omega arith) (omega arith)).1
    ∙ get_or-set_other ws (1 + c) k w.left 0 (h c (omega arith) (omega arith)).0

read_back : (N c : ℕ) (l : List Row) (ws : List ℕ) → c + length l ≤ N → rows_length N ≤ length ws → read_rows N (put_rows N c l ws) (length l) c ≡ l
unfolding put_rows read_rows
read_back N c [] ws f g = refl
read_back N c (w ∷ l) ws f g =
    ap₂ (λ (a b : ℕ). row a b ∷ read_rows N (put_rows N (c + 1) l us) (length l) (c + 1)) left right
    ∙ ap (λ (k : List Row). w ∷ k) (read_back N (c + 1) l us (omega arith) (let a = length-set vs (1 + N + c) w.right in let b = length-set ws (1 + c) w.left in omega arith))
  where
    vs : List ℕ
    vs = set ws (1 + c) w.left

    us : List ℕ
    us = set vs (1 + N + c) w.right

    left : get_or (put_rows N (c + 1) l us) (1 + c) 0 ≡ w.left
    left =
        put_keeps N (c + 1) l us (1 + c) (λ d a b. (λ q. omega arith, λ q. omega arith))
        ∙ get_or-set_other vs (1 + N + c) (1 + c) w.right 0 (λ q. omega arith)
        ∙ get_or-set_same ws (1 + c) w.left 0 (omega arith)

    right : get_or (put_rows N (c + 1) l us) (1 + N + c) 0 ≡ w.right
    right =
        put_keeps N (c + 1) l us (1 + N + c) (λ d a b. (λ q. omega arith, λ q. omega arith))
        ∙ get_or-set_same vs (1 + N + c) w.right 0 (let a = length-set ws (1 + c) w.left in omega arith)

-- rows that were appended to none are the rows that are read
pub shown-appends : {l : List Row} {start end : Rows} {w : Written} → start.count ≡ 0 → Appends l start end → Shows end w → length l ≤ start.nodes → rows_length start.nodes ≤ length start.words.now
    → shown w ≡ l
shown-appends {l} {start} {end} {w} e a s f g =
    ap₂ (λ (n : ℕ) (us : List ℕ). read_rows n us w.count 0) (s.nodes ∙ a.nodes) (s.words ∙ a.appended.words ∙ ap (λ (c : ℕ). put_rows start.nodes c l start.words.now) e)
    ∙ ap (λ (c : ℕ). read_rows start.nodes (put_rows start.nodes 0 l start.words.now) c 0) (s.count ∙ a.appended.count ∙ (let z : start.count + length l ≡ length l = omega arith in z))
    ∙ read_back start.nodes 0 l start.words.now (omega arith) g

pub read_length : (N : ℕ) (ws : List ℕ) (c i : ℕ) → length (read_rows N ws c i) ≡ c
unfolding read_rows
read_length N ws zero i = refl
read_length N ws (suc c) i = ap suc (read_length N ws c (i + 1))

-- what is left to read after i rows
pub read_more : (N : ℕ) (ws : List ℕ) (c i : ℕ) → i < c → read_rows N ws (c - i) i ≡ row (get_or ws (1 + i) 0) (get_or ws (1 + N + i) 0) ∷ read_rows N ws (c - (i + 1)) (i + 1)
unfolding read_rows
read_more N ws c i h = ap (λ (x : ℕ). read_rows N ws x i) (let z : c - i ≡ suc (c - (i + 1)) = omega arith in z)

pub read-end : (N : ℕ) (ws : List ℕ) (c i : ℕ) → c ≤ i → read_rows N ws (c - i) i ≡ []
unfolding read_rows
read-end N ws c i h = ap (λ (x : ℕ). read_rows N ws x i) (let z : c - i ≡ 0 = omega arith in z)

-- the word in front is no row's
read_behind : (N : ℕ) (ws : List ℕ) (v c i : ℕ) → read_rows N (set ws 0 v) c i ≡ read_rows N ws c i
unfolding read_rows
read_behind N ws v zero i = refl
read_behind N ws v (suc c) i =
    ap₂ (λ (w : Row) (l : List Row). w ∷ l)
    (ap₂ row (get_or-set_other ws 0 (1 + i) v 0 (λ q. omega arith)) (get_or-set_other ws 0 (1 + N + i) v 0 (λ q. omega arith)))
    (read_behind N ws v c (i + 1))

-- rows that are all written are the rows that the words hold
pub held-written : (N : ℕ) (l : List Row) (old : List ℕ) → length l ≤ N → held N (written N l old) ≡ l
unfolding written
held-written N l old few =
    ap (λ (ws : List ℕ). read_rows N ws (length l) 0) (written_is N l old few) ∙ read_behind N _ (length l) (length l) 0
    ∙ read_back N 0 l _ (omega arith) (clear-long (rows_length N) old)

-- the next of the rows that are handed out, where none is left and where one is
module _ (p : Pairs) where
  pub pairs_end : p.rows.count ≤ p.next → pairs_left p ≡ []
  pairs_end h = read-end p.rows.nodes p.rows.words.now p.rows.count p.next h

  pub pairs_more : {a b : ℕ} → p.next < p.rows.count → a ≡ get_or p.rows.words.now (1 + p.next) 0 → b ≡ get_or p.rows.words.now (1 + p.rows.nodes + p.next) 0
      → pairs_left p ≡ row a b ∷ pairs_left (record { rows = p.rows; next = p.next + 1 })
  pairs_more h q e = read_more p.rows.nodes p.rows.words.now p.rows.count p.next h ∙ ap₂ (λ (x y : ℕ). row x y ∷ pairs_left (record { rows = p.rows; next = p.next + 1 })) (sym q) (sym e)
