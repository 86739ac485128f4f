-- Laws of appended rows: none, one, some after others, and the whole.
use mathlib.Core.Path.{◌≡◌, refl, sym, ap, ap₂, subst, ◌∙◌}
use mathlib.Core.List.{List, [], ◌∷◌, ◌++◌, append_assoc, append-nil}
use Prim.Native.Nat.{ℕ, zero, suc, ◌+◌, ◌*◌, ◌-◌, ◌≤◌}
use native.Mathlib.Nat.{add-zero}
use native.Mathlib.Omega.{arith}
use lib.ListN.{length, set, drop, replicate, length-append, length-replicate, length-drop, length-set, replicate-append-replicate}
use lib.Seq.{drop_at}
use Rattle.rows.specs.declared.Rows.{Rows}
use Rattle.rows.specs.Rows.{Row, lefts, rights, rows_length, filled, written, cleared, put_rows, Appended, Appends, Starts, Ends, Wrote}

pub lefts-length : (l : List Row) → length (lefts l) ≡ length l
unfolding lefts
lefts-length [] = refl
lefts-length (w ∷ l) = ap suc (lefts-length l)

pub rights-length : (l : List Row) → length (rights l) ≡ length l
unfolding rights
rights-length [] = refl
rights-length (w ∷ l) = ap suc (rights-length l)

put-append : (N c : ℕ) (l k : List Row) (ws : List ℕ) → put_rows N c (l ++ k) ws ≡ put_rows N (c + length l) k (put_rows N c l ws)
unfolding put_rows
put-append N c [] k ws = ap (λ (d : ℕ). put_rows N d k ws) (sym (add-zero c))
put-append N c (w ∷ l) k ws =
    put-append N (c + 1) l k _ ∙ ap (λ (d : ℕ). put_rows N d k (put_rows N (c + 1) l (set (set ws (1 + c) w.left) (1 + N + c) w.right))) (let q : c + 1 + length l ≡ c + suc (length l) = omega arith in q)

pub appended-none : (N c : ℕ) (ws : List ℕ) → Appended N [] c ws c ws
unfolding put_rows
appended-none N c ws = record { count = omega arith; words = refl }

pub appended-next : {N c r q : ℕ} {l k : List Row} {ws vs us : List ℕ} → Appended N l c ws r vs → Appended N k r vs q us → Appended N (l ++ k) c ws q us
appended-next {N} {c} {r} {q} {l} {k} {ws} {vs} {us} f g =
    record {
      count = (let a = f.count in let b = g.count in let h = length-append l k in omega arith);
      words = g.words ∙ ap₂ (λ (d : ℕ) (z : List ℕ). put_rows N d k z) f.count f.words ∙ sym (put-append N c l k ws);
    }

pub clear-length : (n : ℕ) (ws : List ℕ) → n ≤ length ws → length (cleared n ws) ≡ length ws
unfolding cleared
clear-length n ws h =
    length-append (replicate n 0) (drop n ws) ∙ (let a = length-replicate {A = ℕ} n 0 in let b = length-drop n ws in omega arith)

pub clear-long : (n : ℕ) (ws : List ℕ) → n ≤ length (cleared n ws)
unfolding cleared
clear-long n ws = let a = length-append (replicate n 0) (drop n ws) in let b = length-replicate {A = ℕ} n 0 in omega arith

pub clear-past : (n : ℕ) (ws : List ℕ) → drop n (cleared n ws) ≡ drop n ws
unfolding cleared
clear-past n ws = drop_at (replicate n 0) (drop n ws) n (length-replicate n 0)

-- the whole -----------------------------------------------------------------------------------------------------------
pub put-length : (N c : ℕ) (l : List Row) (ws : List ℕ) → length (put_rows N c l ws) ≡ length ws
unfolding put_rows
put-length N c [] ws = refl
put-length N c (w ∷ l) ws = put-length N (c + 1) l _ ∙ length-set (set ws (1 + c) w.left) (1 + N + c) w.right ∙ length-set ws (1 + c) w.left

set-mid : (us : List ℕ) (x v : ℕ) (xs : List ℕ) (c : ℕ) → length us ≡ c → set (us ++ (x ∷ xs)) c v ≡ us ++ (v ∷ xs)
set-mid us x v xs c e = ap (λ (i : ℕ). set (us ++ (x ∷ xs)) i v) (sym e) ∙ go us
  where
    go : (ys : List ℕ) → set (ys ++ (x ∷ xs)) (length ys) v ≡ ys ++ (v ∷ xs)
    go [] = refl
    go (y ∷ ys) = ap (λ (r : List ℕ). y ∷ r) (go ys)

-- a count, two arrays with m places free at the end of each, and the rest
abbrev laid : ℕ → List ℕ → List ℕ → ℕ → List ℕ → List ℕ
laid h xs zs m rest = h ∷ (xs ++ (replicate m 0 ++ (zs ++ (replicate m 0 ++ rest))))

laid_one : (N c h a b m : ℕ) (xs zs rest : List ℕ) → length xs ≡ c → length zs ≡ c → N ≡ c + suc m
    → set (set (laid h xs zs (suc m) rest) (1 + c) a) (1 + N + c) b ≡ laid h (xs ++ (a ∷ [])) (zs ++ (b ∷ [])) m rest
laid_one N c h a b m xs zs rest p q e =
    ap (λ (l : List ℕ). set l (1 + N + c) b) (set-mid (h ∷ xs) 0 a _ (1 + c) (let z : suc (length xs) ≡ 1 + c = omega arith in z))
    ∙ ap (λ (l : List ℕ). set l (1 + N + c) b) (regroup 0)
    ∙ set-mid front 0 b (replicate m 0 ++ rest) (1 + N + c) front_length
    ∙ sym (regroup b)
    ∙ ap (λ (l : List ℕ). h ∷ l) (simp append_assoc)
  where
    front : List ℕ
    front = h ∷ (xs ++ (a ∷ (replicate m 0 ++ zs)))

    regroup : (x : ℕ) → h ∷ (xs ++ (a ∷ (replicate m 0 ++ (zs ++ (x ∷ (replicate m 0 ++ rest)))))) ≡ front ++ (x ∷ (replicate m 0 ++ rest))
    regroup x = ap (λ (l : List ℕ). h ∷ l) (simp append_assoc)

    front_length : length front ≡ 1 + N + c
    front_length =
        let u = length-append xs (a ∷ (replicate m 0 ++ zs)) in
        let v = length-append (replicate m 0) zs in
        let w = length-replicate {A = ℕ} m 0 in
        omega arith

laid-rows : (N c h m : ℕ) (l : List Row) (xs zs rest : List ℕ) → length xs ≡ c → length zs ≡ c → N ≡ c + m → length l ≤ m
    → put_rows N c l (laid h xs zs m rest) ≡ laid h (xs ++ lefts l) (zs ++ rights l) (m - length l) rest
unfolding put_rows lefts rights
laid-rows N c h m [] xs zs rest p q e k =
    ap₂ (λ (us vs : List ℕ). laid h us vs m rest) (sym (append-nil xs)) (sym (append-nil zs))
    ∙ ap (λ (i : ℕ). laid h (xs ++ []) (zs ++ []) i rest) (let z : m ≡ m - 0 = omega arith in z)
laid-rows N c h zero (w ∷ l) xs zs rest p q e k = absurd (omega arith)
laid-rows N c h (suc m) (w ∷ l) xs zs rest p q e k =
    ap (put_rows N (c + 1) l) (laid_one N c h w.left w.right m xs zs rest p q e)
    ∙ laid-rows N (c + 1) h m l (xs ++ (w.left ∷ [])) (zs ++ (w.right ∷ [])) rest
    (length-append xs _ ∙ (let z : length xs + 1 ≡ c + 1 = omega arith in z)) (length-append zs _ ∙ (let z : length zs + 1 ≡ c + 1 = omega arith in z)) (omega arith) (omega arith)
    ∙ ap₂ (λ (us vs : List ℕ). laid h us vs (m - length l) rest) (append_assoc xs (w.left ∷ []) (lefts l)) (append_assoc zs (w.right ∷ []) (rights l))
    ∙ ap (λ (i : ℕ). laid h (xs ++ (w.left ∷ lefts l)) (zs ++ (w.right ∷ rights l)) i rest) (let z : m - length l ≡ suc m - suc (length l) = omega arith in z)

-- cleared words with the rows put in and the count in front are the rows xs they are to be written
pub written_is : (N : ℕ) (l : List Row) (old : List ℕ) → length l ≤ N → written N l old ≡ set (put_rows N 0 l (cleared (rows_length N) old)) 0 (length l)
unfolding written filled cleared
written_is N l old k = sym (ap (λ (ws : List ℕ). set (put_rows N 0 l ws) 0 (length l)) start ∙ ap (λ (ws : List ℕ). set ws 0 (length l)) (laid-rows N 0 0 N l [] [] rest refl refl (omega arith) k) ∙ end)
  where
    rest : List ℕ
    rest = drop (rows_length N) old

    start : replicate (rows_length N) 0 ++ rest ≡ laid 0 [] [] N rest
    start =
        ap (λ (n : ℕ). replicate n 0 ++ rest) (let z : 1 + 2 * N ≡ suc (N + N) = omega arith in z)
        ∙ ap (λ (ws : List ℕ). 0 ∷ (ws ++ rest)) (sym (replicate-append-replicate N N 0))
        ∙ ap (λ (ws : List ℕ). 0 ∷ ws) (append_assoc (replicate N 0) (replicate N 0) rest)

    end : laid (length l) (lefts l) (rights l) (N - length l) rest ≡ length l ∷ ((lefts l ++ replicate (N - length (lefts l)) 0) ++ ((rights l ++ replicate (N - length (rights l)) 0) ++ rest))
    end =
        ap₂ (λ (i j : ℕ). length l ∷ (lefts l ++ (replicate i 0 ++ (rights l ++ (replicate j 0 ++ rest)))))
        (ap (λ (i : ℕ). N - i) (sym (lefts-length l))) (ap (λ (i : ℕ). N - i) (sym (rights-length l)))
        ∙ ap (λ (ws : List ℕ). length l ∷ ws) (simp append_assoc)

-- so a call writes its rows, of an image of n nodes: words cleared, the rows put in, the count in front
pub wrote : {N n name k : ℕ} {l : List Row} {old ws : List ℕ} {start end : Rows} → length l ≤ N → n ≡ N → Starts name n (cleared (rows_length n) old) start → Appends l start end → Ends end k ws
    → Wrote N l old k ws
wrote {N} {n} {l = l} {old} {start = start} {end} few same begins puts ends =
    let z : end.count ≡ length l = (let a = puts.appended.count in let b = begins.count in omega arith) in
    record {
      count = ends.count ∙ z;
      words =
          ends.words
          ∙ ap₂ (λ (xs : List ℕ) (x : ℕ). set xs 0 x)
          (puts.appended.words ∙ ap₂ (λ (m c : ℕ). put_rows m c l start.words.now) (begins.nodes ∙ same) begins.count ∙ ap (put_rows N 0 l) (begins.words ∙ ap (λ (m : ℕ). cleared (rows_length m) old) same)) z
          ∙ sym (written_is N l old few);
    }

pub wrote_as : {N r : ℕ} {l k : List Row} {old ws : List ℕ} → l ≡ k → Wrote N l old r ws → Wrote N k old r ws
wrote_as {N} {r} {old = old} {ws} e h = subst (λ (l : List Row). Wrote N l old r ws) e h
