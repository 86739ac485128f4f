-- From bytes put one after another to the whole report: what fits a buffer stands there, and rows that a call has left are the rows of its answer.
use mathlib.Core.Path.{◌≡◌, refl, sym, ap, ap₂, ◌∙◌}
use mathlib.Core.List.{List, [], ◌∷◌, ◌++◌, append_assoc}
use Prim.Native.Nat.{ℕ, zero, suc, ◌+◌, ◌-◌, ◌<◌, ◌≤◌}
use native.Mathlib.Nat.{add-zero}
use native.Mathlib.Omega.{arith}
use lib.ListN.{length, get_or, take, drop, replicate, length-append, length-drop, length-replicate}
use lib.Seq.{drop-cons, set-append_seam, take-append_seam}
use Rattle.rows.specs.Rows.{Row, lefts, rights, rows_length, filled, written}
use Rattle.rows.proofs.Appends.{lefts-length, rights-length}
use Rattle.lines.specs.Report.{Line, zipped}
use Rattle.lines.specs.Bytes.{numbers, line_bytes, lines_bytes}
use Rattle.lines.specs.Out.{Out, out_at, write, rows_from}
use Rattle.lines.proofs.Puts.{put-there}

-- bytes that fit stand where they were put
write-fits : (bs us ws : List ℕ) → length bs ≤ length ws → write bs (out_at (length us) (us ++ ws)) ≡ out_at (length us + length bs) (us ++ (bs ++ drop (length bs) ws))
unfolding write
write-fits [] us ws h = ap (λ (p : ℕ). out_at p (us ++ ws)) (sym (add-zero (length us)))
write-fits (b ∷ bs) us [] h = absurd (omega arith)
write-fits (b ∷ bs) us (w ∷ ws) h =
    ap (write bs)
    (put-there b (length us) (us ++ (w ∷ ws)) (let e = length-append us (w ∷ ws) in omega arith)
    ∙ ap₂ out_at (sym (length-append us (b ∷ []))) (set-append_seam us w ws b ∙ sym (append_assoc us (b ∷ []) ws)))
    ∙ write-fits bs (us ++ (b ∷ [])) ws (omega arith)
    ∙ ap₂ out_at (let e = length-append us (b ∷ []) in omega arith) (append_assoc us (b ∷ []) (bs ++ drop (length bs) ws))

module _ (bs ws vs : List ℕ) (most r : ℕ) (f : out_at r vs ≡ write bs (out_at 0 ws)) (s : length bs ≤ most) (fits : most ≤ length ws) where
  whole : out_at r vs ≡ out_at (0 + length bs) (bs ++ drop (length bs) ws)
  whole = f ∙ write-fits bs [] ws (omega arith)

  -- the first r bytes are what was put
  pub wrote-whole : take r vs ≡ bs
  wrote-whole =
      ap (λ (o : Out). take o.place o.bytes) whole
      ∙ ap (λ (k : ℕ). take k (bs ++ drop (length bs) ws)) (let e : 0 + length bs ≡ length bs = omega arith in e)
      ∙ take-append_seam bs (drop (length bs) ws)

  pub wrote-within : r ≤ most
  wrote-within = let e = ap (λ (o : Out). o.place) whole in omega arith

  pub wrote_kept : length vs ≡ length ws
  wrote_kept =
      let e = ap (λ (o : Out). length o.bytes) whole in
      let a = length-append bs (drop (length bs) ws) in
      let d = length-drop (length bs) ws in
      omega arith

-- rows as lines are the lines of their words
pub zipped-rows : (f : ℕ → ℕ → Line) (word : List ℕ) → ((a b : ℕ) → line_bytes (f a b) ≡ word ++ numbers (a ∷ b ∷ [])) → (ws : List ℕ) (n c i : ℕ) → 1 + n + i + c ≤ length ws
    → lines_bytes (zipped f (take c (drop (1 + i) ws)) (take c (drop (1 + n + i) ws))) ≡ rows_from word ws n c i
unfolding zipped lines_bytes rows_from
zipped-rows f word same ws n zero i h = refl
zipped-rows f word same ws n (suc c) i h =
    ap₂ (λ (xs ys : List ℕ). lines_bytes (zipped f (take (suc c) xs) (take (suc c) ys))) (cut (1 + i) (1 + (i + 1)) (omega arith) (omega arith)) (cut (1 + n + i) (1 + n + (i + 1)) (omega arith) (omega arith))
    ∙ ap₂ ◌++◌ (same (get_or ws (1 + i) 0) (get_or ws (1 + n + i) 0)) (zipped-rows f word same ws n c (i + 1) (omega arith))
  where
    cut : (j k : ℕ) → suc j ≡ k → j < length ws → drop j ws ≡ get_or ws j 0 ∷ drop k ws
    cut j k e l = drop-cons ws j 0 l ∙ ap (λ (m : ℕ). get_or ws j 0 ∷ drop m ws) e

-- rows that fit the words lent for them are at most N
pub written-few : (N : ℕ) (l : List Row) (old : List ℕ) → rows_length N ≤ length old → length (written N l old) ≡ length old → length l ≤ N
unfolding written filled
written-few N l old h e =
    let a = length-append (lefts l) (replicate (N - length (lefts l)) 0) in
    let b = length-append (rights l) (replicate (N - length (rights l)) 0) in
    let c = length-append (rights l ++ replicate (N - length (rights l)) 0) (drop (rows_length N) old) in
    let d = length-append (lefts l ++ replicate (N - length (lefts l)) 0) ((rights l ++ replicate (N - length (rights l)) 0) ++ drop (rows_length N) old) in
    let f = lefts-length l in
    let g = rights-length l in
    let i = length-drop (rows_length N) old in
    let j = length-replicate {A = ℕ} (N - length (lefts l)) 0 in
    let k = length-replicate {A = ℕ} (N - length (rights l)) 0 in
    omega arith
