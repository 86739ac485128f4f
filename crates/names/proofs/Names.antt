-- Laws of the tests of the names: their ends, and buckets of names by a hash of their bytes.
use mathlib.Core.Path.{◌≡◌, refl, sym, ap, ◌∙◌}
use mathlib.Core.Bool.{Bool, true, false, not, ◌&&◌}
use mathlib.Core.Logic.{◌⊎◌, inl, inr}
use mathlib.Core.List.{List, [], ◌∷◌}
use Prim.Native.Nat.{ℕ, zero, suc, ◌+◌, ◌-◌, ◌*◌, ◌%◌, ◌<◌, ◌≤◌}
use native.Mathlib.Omega.{arith}
use native.Mathlib.Numerals.{add-one}
use lib.Dec.{eqb}
use lib.ListN.{length, get_or, set, take, drop, replicate, length-replicate, length-set, drop_of_length-le}
use lib.Seq.{drop-cons, get_or-set_same, get_or-set_other}
use Rattle.std.specs.Cmp.Lexicographic.{pointwise}
use Rattle.std.proofs.lemmas.Slice.Eq.{bytes_eq-Decides}
use native.Mathlib.Nat.{add-zero}
use native.Mathlib.Decide.{dec_lt}
use borrow.Author.Tests.{lt-ltb, le-ltb, eq-eqb, ne_eqb}
use Rattle.ast.specs.Image.{names, bytes, bytes_place, name_start, name_end, name_bytes}
use Rattle.ast.specs.Promises.{Within, Rises}
use Rattle.ast.specs.Tests.{◌▸◌, need, run, same, rising, unequal, test_ends, test_twice, test_names}
use Rattle.ast.proofs.Accepted.{skip, stop, stop-at, name_in}
use Rattle.ast.proofs.Blank.{blank}
use Rattle.ast.proofs.Runs.{RunLeft, run-begin, run-next, run-stop, run_end, RunSeen, seen-begin, seen_next, seen_first, seen_end}
use Rattle.ast.proofs.Scans.{need-in, need-out}
use Rattle.ast.specs.declared.Sizes.{Sizes}
use Rattle.names.specs.Promises.{Met, Reach, hash, here, there}

-- runs ----------------------------------------------------------------------------------------------------------------
run-all : (f : ℕ → ℕ) (c i : ℕ) → ((j : ℕ) → j < c → f (i + j) ≡ 0) → run f c i ≡ 0
unfolding run
run-all f zero i h = refl
run-all f (suc c) i h =
    skip _ _ (rw add-zero at (h 0 (omega arith)))
    ∙ run-all f c (i + 1) (λ j l. let q : i + suc j ≡ i + 1 + j = omega arith in rw q at (h (suc j) (omega arith)))

run-one : (b : ℕ → Bool) (c i j : ℕ) → j < c → b (i + j) ≡ false → run (λ x. need 5 (b x)) c i ≡ 5
unfolding run
run-one b zero i j h e = absurd (omega arith)
run-one b (suc c) i zero h e = stop _ _ 4 (need-out 5 _ (rw add-zero at e))
run-one b (suc c) i (suc j) h e =
    let q : i + suc j ≡ i + 1 + j = omega arith in
    go (b i) (run-one b c (i + 1) j (omega arith) (rw q at e))
  where
    go : (x : Bool) → run (λ x. need 5 (b x)) c (i + 1) ≡ 5 → need 5 x ▸ run (λ x. need 5 (b x)) c (i + 1) ≡ 5
    go true r = skip _ _ (need-in 5 true refl) ∙ r
    go false r = stop _ _ 4 (need-out 5 false refl)

-- 4 -------------------------------------------------------------------------------------------------------------------
module _ (img : List ℕ) where
  pub record EndsLeft (i start r : ℕ) : Type 0 where
    pub seen : RunSeen (rising img) (names img) 4 i r
    pub start_is : start ≡ name_start img i
    pub few : i ≤ names img

  pub ends-begin : EndsLeft 0 0 0
  unfolding name_start
  ends-begin = record { seen = seen-begin _ _ _; start_is = refl; few = omega arith }

  module _ (i start end r : ℕ) (l : EndsLeft i start r) (h : i < names img) (e : end ≡ name_end img i) where
    ends-to : {q : ℕ} → RunSeen (rising img) (names img) 4 (i + 1) q → EndsLeft (i + 1) end q
    unfolding name_start
    ends-to s = record { seen = s; start_is = rw add-one e; few = omega arith }

    pub ends_next : start < end → EndsLeft (i + 1) end r
    ends_next q = let a = l.start_is in ends-to (seen_next _ _ _ i r l.seen h (need-in 4 _ (lt-ltb (name_start img i) (name_end img i) (omega arith))))

    pub ends_first : end ≤ start → EndsLeft (i + 1) end 4
    ends_first q = let a = l.start_is in ends-to (seen_first _ _ _ i r l.seen h (need-out 4 _ (le-ltb (name_start img i) (name_end img i) (omega arith))) (λ z. omega arith))

  module _ (i start r : ℕ) (l : EndsLeft i start r) (h : names img ≤ i) where
    at-end : start ≡ name_start img (names img)
    at-end = let f = l.few in let q : i ≡ names img = omega arith in rw q at l.start_is

    seen : run (rising img) (names img) 0 ≡ r
    seen = seen_end _ _ _ i r l.seen h

    pub ends-bad : (start ≡ bytes img → ⊥) → test_ends img ≡ 4
    unfolding test_ends
    ends-bad q = go r refl
      where
        go : (x : ℕ) → r ≡ x → run (rising img) (names img) 0 ▸ need 4 (eqb (name_start img (names img)) (bytes img)) ≡ 4
        go zero z = skip _ _ (seen ∙ z) ∙ need-out 4 _ (ne_eqb _ _ (rw at-end at q))
        go (suc x) z = let s = l.seen.some (λ y. omega arith) in stop _ _ 3 s.1

    pub ends-good : start ≡ bytes img → test_ends img ≡ r
    unfolding test_ends
    ends-good q = go r refl
      where
        go : (x : ℕ) → r ≡ x → run (rising img) (names img) 0 ▸ need 4 (eqb (name_start img (names img)) (bytes img)) ≡ r
        go zero z = skip _ _ (seen ∙ z) ∙ need-in 4 _ (eq-eqb _ _ (rw at-end at q)) ∙ sym z
        go (suc x) z = stop _ _ x (seen ∙ z) ∙ sym z

  pub names-split : (k : ℕ) → test_ends img ≡ k → (k ≡ 0 → ⊥) → test_names img ≡ k
  unfolding test_names
  names-split k e z = stop-at _ _ k e z

  pub names-twice : test_ends img ≡ 0 → test_names img ≡ test_twice img
  unfolding test_names
  names-twice e = skip _ _ e

-- a name's bytes ------------------------------------------------------------------------------------------------------
module _ (img : List ℕ) (s : Sizes) (w : Within img s) (r : Rises img) (i : ℕ) (h : i < s.names) where
  -- where they stand is in the image
  pub place-fits : (a n : ℕ) → a ≡ bytes_place img + name_start img i → n ≡ name_end img i - name_start img i → a + n ≤ length img
  place-fits a n e f =
      let k = name_in img r i (omega (arith, w.head.names_are)) in
      let m = r.rises i (omega (arith, w.head.names_are)) in
      omega (arith, w.exact, w.head)

  pub place-bytes : (a n : ℕ) → a ≡ bytes_place img + name_start img i → n ≡ name_end img i - name_start img i → take (a + n - a) (drop a img) ≡ name_bytes img i
  unfolding name_bytes
  place-bytes a n e f = let q : a + n - a ≡ n = omega arith in rw (q, e, f)

-- what `==` of slices says
pub same-is : (xs ys : List ℕ) → pointwise eqb xs ys ≡ same xs ys
unfolding same
same-is [] [] = refl
same-is [] (y ∷ ys) = refl
same-is (x ∷ xs) [] = refl
same-is (x ∷ xs) (y ∷ ys) = go (eqb x y) (same-is xs ys)
  where
    go : (b : Bool) → pointwise eqb xs ys ≡ same xs ys → (b && pointwise eqb xs ys) ≡ elim b [ true ↦ same xs ys | false ↦ false ]
    go true e = e
    go false e = refl

-- the same of two names' bytes
pub same-names : (j i : ℕ) (img : List ℕ) {xs ys : List ℕ} {b : Bool} → xs ≡ name_bytes img j → ys ≡ name_bytes img i → b ≡ pointwise eqb xs ys → same (name_bytes img j) (name_bytes img i) ≡ b
same-names j i img {xs} {ys} {b} e f h = rw (← e, ← f) (sym (h ∙ same-is xs ys))

pub same_true : (xs ys : List ℕ) → same xs ys ≡ true → xs ≡ ys
same_true xs ys e = (bytes_eq-Decides xs ys).0 (same-is xs ys ∙ e)

-- the hash
module _ (xs : List ℕ) where
  pub record HashLeft (h i : ℕ) : Type 0 where
    pub left : hash 0 xs ≡ hash h (drop i xs)
    pub small : h < 1024

  pub hash-next : (h i : ℕ) → HashLeft h i → i < length xs → HashLeft ((37 * h + get_or xs i 0) % 1024) (i + 1)
  unfolding hash
  hash-next h i l k = record { left = l.left ∙ rw (drop-cons xs i 0 k, add-one); small = omega arith }

  pub hash-end : (h i : ℕ) → HashLeft h i → length xs ≤ i → h ≡ hash 0 xs
  unfolding hash
  hash-end h i l k = sym (l.left ∙ rw (drop_of_length-le xs k))

-- a chain ------------------------------------------------------------------------------------------------------------
module _ (img : List ℕ) (i first : ℕ) (next : List ℕ) where
  pub record ChainLeft (j : ℕ) : Type 0 where
    pub low : j ≤ i
    pub left : (m : ℕ) → Reach next first m → (same (name_bytes img m) (name_bytes img i) ≡ false) ⊎ Reach next j m

  pub chain_next : (t : ℕ) → ChainLeft t → (j : ℕ) → 1 ≤ t → j ≡ t - 1 → ((k : ℕ) → k < i → get_or next k 0 ≤ k)
      → same (name_bytes img j) (name_bytes img i) ≡ false → ChainLeft (get_or next j 0)
  chain_next zero l j z q f e = absurd (omega arith)
  chain_next (suc t) l j z q f e =
      let p : j ≡ t = omega arith in
      let h = l.low in
      let g = f t (omega arith) in
      rw p (record { low = omega arith; left = λ m r. go m (l.left m r) (rw p at e) })
    where
      go : (m : ℕ) → (same (name_bytes img m) (name_bytes img i) ≡ false) ⊎ Reach next (suc t) m → same (name_bytes img t) (name_bytes img i) ≡ false
          → (same (name_bytes img m) (name_bytes img i) ≡ false) ⊎ Reach next (get_or next t 0) m
      go m (inl a) x = inl a
      go m (inr here) x = inl x
      go m (inr (there r)) x = inr r

  pub chain-found : (t : ℕ) → ChainLeft t → (j : ℕ) → 1 ≤ t → j ≡ t - 1 → same (name_bytes img j) (name_bytes img i) ≡ true → Met img i first next true
  chain-found t l j z q e =
      let p : 0 + j ≡ j = omega arith in
      let h = l.low in
      record {
        found = λ t. run-one (λ x. not (same (name_bytes img x) (name_bytes img i))) i 0 j (omega arith) (rw p (ap not e));
        none = λ t. cc;
      }

  pub chain-end : (j : ℕ) → ChainLeft j → j ≡ 0 → Met img i first next false
  chain-end zero l z =
      record {
        found = λ t. cc;
        none = λ t m r. go m (l.left m r);
      }
    where
      go : (m : ℕ) → (same (name_bytes img m) (name_bytes img i) ≡ false) ⊎ Reach next 0 m → same (name_bytes img m) (name_bytes img i) ≡ false
      go m (inl a) = a
      go m (inr x3) = elim x3 [ ]
  chain-end (suc j) l z = absurd (omega arith)

-- the chains of all buckets
keep : {next : List ℕ} {t m : ℕ} (i x : ℕ) → Reach next t m → t ≤ i → ((k : ℕ) → k < i → get_or next k 0 ≤ k) → Reach (set next i x) t m
keep i x here h f = here
keep {next} {t} {m} i x (there {j} r) h f =
    let g = f j (omega arith) in
    there {j = j} {m = m} (rw (get_or-set_other next i j x 0 (λ e. omega arith)) (keep i x r (omega arith) f))

module _ (img : List ℕ) where
  abbrev bucket_of : ℕ → ℕ
  bucket_of m = hash 0 (name_bytes img m)

  pub record Buckets (i : ℕ) (heads next : List ℕ) : Type 0 where
    pub left : RunLeft (λ i. run (unequal img i) i 0) (names img) i
    pub heads_long : length heads ≡ 1024
    pub next_long : length next ≡ 1024
    pub low : (h : ℕ) → get_or heads h 0 ≤ i
    pub falls : (j : ℕ) → j < i → get_or next j 0 ≤ j
    pub reach : (m : ℕ) → m < i → Reach next (get_or heads (bucket_of m) 0) m

  pub buckets-begin : Buckets 0 (replicate 1024 0) (replicate 1024 0)
  buckets-begin =
      record {
        left = run-begin _ _;
        heads_long = length-replicate {A = ℕ} 1024 0;
        next_long = length-replicate {A = ℕ} 1024 0;
        low = λ h. let z = blank {A = ℕ} 0 1024 h in omega arith;
        falls = λ j h. absurd (omega arith);
        reach = λ m h. absurd (omega arith);
      }

  pub twice-are : test_twice img ≡ run (λ i. run (unequal img i) i 0) (names img) 0
  unfolding test_twice
  twice-are = refl

  module _ (i h first : ℕ) (heads next : List ℕ) (b : Buckets i heads next) (l : i < names img) (few-names : names img ≤ 1024) (k : h ≡ bucket_of i) (small : h < 1024) (f : first ≡ get_or heads h 0) where
    none-meets : Met img i first next false → run (unequal img i) i 0 ≡ 0
    none-meets m = run-all (unequal img i) i 0 (λ j q. let p : 0 + j ≡ j = omega arith in rw p (need-in 5 _ (ap not (apart j q))))
      where
        apart : (j : ℕ) → j < i → same (name_bytes img j) (name_bytes img i) ≡ false
        apart j q = go (same (name_bytes img j) (name_bytes img i)) refl
          where
            go : (x : Bool) → same (name_bytes img j) (name_bytes img i) ≡ x → same (name_bytes img j) (name_bytes img i) ≡ false
            go false y = y
            go true y =
                let w : bucket_of j ≡ h = ap (hash 0) (same_true _ _ y) ∙ sym k in
                m.none refl j (rw f (rw w at (b.reach j q)))

    either : (x g : ℕ) → get_or (set heads h x) g 0 ≤ x ⊎ (get_or (set heads h x) g 0 ≡ get_or heads g 0)
    either x g = go (dec_lt g h) (dec_lt h g)
      where
        go : Dec (g < h) → Dec (h < g) → get_or (set heads h x) g 0 ≤ x ⊎ (get_or (set heads h x) g 0 ≡ get_or heads g 0)
        go (yes a) y = inr (get_or-set_other heads h g x 0 (λ z. omega arith))
        go (no a) (yes c) = inr (get_or-set_other heads h g x 0 (λ z. omega arith))
        go (no a) (no c) = let z : g ≡ h = omega arith in let t = b.heads_long in inl (let w = get_or-set_same heads h x 0 (omega arith) in rw z (omega arith))

    next-at : get_or (set next i first) i 0 ≡ first
    next-at = let t = b.next_long in get_or-set_same next i first 0 (omega arith)

    heads-at : get_or (set heads h (i + 1)) h 0 ≡ suc i
    heads-at = let t = b.heads_long in get_or-set_same heads h (i + 1) 0 (omega arith) ∙ add-one i

    chain : Reach (set next i first) (suc i) i
    chain = here

    reaches : (m : ℕ) → m < i + 1 → Reach (set next i first) (get_or (set heads h (i + 1)) (bucket_of m) 0) m
    reaches m q = pick (dec_lt m i)
      where
        old : m < i → Reach (set next i first) (get_or heads (bucket_of m) 0) m
        old p = keep i first (b.reach m p) (b.low _) b.falls

        pick : Dec (m < i) → Reach (set next i first) (get_or (set heads h (i + 1)) (bucket_of m) 0) m
        pick (no p) = let z : m ≡ i = omega arith in rw z (rw (sym k) (rw heads-at here))
        pick (yes p) = go (dec_lt (bucket_of m) h) (dec_lt h (bucket_of m))
          where
            go : Dec (bucket_of m < h) → Dec (h < bucket_of m) → Reach (set next i first) (get_or (set heads h (i + 1)) (bucket_of m) 0) m
            go (yes a) y = rw (get_or-set_other heads h (bucket_of m) (i + 1) 0 (λ z. omega arith)) (old p)
            go (no a) (yes c) = rw (get_or-set_other heads h (bucket_of m) (i + 1) 0 (λ z. omega arith)) (old p)
            go (no a) (no c) =
                let z : bucket_of m ≡ h = omega arith in
                rw z (rw heads-at (there {j = i} {m = m} (rw next-at (rw (sym f) at (rw z at (old p))))))

    pub buckets-next : Met img i first next false → Buckets (i + 1) (set heads h (i + 1)) (set next i first)
    buckets-next m =
        record {
          left = run-next _ _ i b.left l (none-meets m);
          heads_long = length-set heads h (i + 1) ∙ b.heads_long;
          next_long = length-set next i first ∙ b.next_long;
          low = λ g. lower g (either (i + 1) g);
          falls = λ j q. fall j q (dec_lt j i);
          reach = reaches;
        }
      where
        lower : (g : ℕ) → get_or (set heads h (i + 1)) g 0 ≤ i + 1 ⊎ (get_or (set heads h (i + 1)) g 0 ≡ get_or heads g 0) → get_or (set heads h (i + 1)) g 0 ≤ i + 1
        lower g (inl a) = a
        lower g (inr a) = let c = b.low g in omega arith

        fall : (j : ℕ) → j < i + 1 → Dec (j < i) → get_or (set next i first) j 0 ≤ j
        fall j q (yes p) = let c = b.falls j p in let d = get_or-set_other next i j first 0 (λ z. omega arith) in omega arith
        fall j q (no p) = let z : j ≡ i = omega arith in let c = b.low h in rw z (let d = next-at in omega arith)

    pub buckets-stop : Met img i first next true → test_twice img ≡ 5
    buckets-stop m = twice-are ∙ run-stop _ _ i 5 b.left l (m.found refl) (λ z. omega arith)

  pub buckets-end : (i : ℕ) (heads next : List ℕ) → Buckets i heads next → names img ≤ i → test_twice img ≡ 0
  buckets-end i heads next b h = twice-are ∙ run_end _ _ i b.left h
