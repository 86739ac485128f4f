-- Laws of bytes put one after another, of a line's numbers and of decimal digits.
use mathlib.Core.Path.{◌≡◌, refl, sym, ap, ◌∙◌}
use mathlib.Core.List.{List, [], ◌∷◌, ◌++◌, append_assoc}
use Prim.Native.Nat.{ℕ, zero, suc, ◌+◌, ◌*◌, ◌/◌, ◌%◌, ◌^◌, ◌<◌, ◌≤◌}
use native.Mathlib.Decide.{dec_lt}
use native.Mathlib.Omega.{arith}
use lib.ListN.{length, get_or, set, take, length-append}
use lib.Seq.{take_all}
use borrow.Author.Tests.{lt-ltb, le-ltb}
use Rattle.std.specs.Fmt.{decimal}
use Rattle.std.specs.List.{flat_map}
use Rattle.std.proofs.lemmas.Fmt.{AppendsLastDigit, decimal_from_appends, length-decimal-le, length-decimal-le_succ}
use Rattle.std.proofs.lemmas.List.{take_more, flat_map_more}
use Rattle.lines.specs.declared.Printer.{Printer}
use Rattle.lines.specs.Bytes.{digits_to, digits, numbers}
use Rattle.lines.specs.Out.{Out, out_at, out_of, put, write, Wrote}

pub put-there : (b p : ℕ) (ws : List ℕ) → p < length ws → put b (out_at p ws) ≡ out_at (p + 1) (set ws p b)
unfolding put
put-there b p ws h = rw (lt-ltb p (length ws) h, put)

pub put-past : (b p : ℕ) (ws : List ℕ) → length ws ≤ p → put b (out_at p ws) ≡ out_at p ws
unfolding put
put-past b p ws h = rw (le-ltb p (length ws) h, put)

pub write-append : (bs cs : List ℕ) (o : Out) → write (bs ++ cs) o ≡ write cs (write bs o)
unfolding write
write-append [] cs o = refl
write-append (b ∷ bs) cs o = write-append bs cs (put b o)

-- one byte put
pub wrote_byte : (b : ℕ) {o p : Printer} → p.bytes.ghost_name ≡ o.bytes.ghost_name → out_of p ≡ put b (out_of o) → Wrote (b ∷ []) 1 o p
unfolding write
wrote_byte b e f = record { same = e; out = f; short = omega arith }

-- no byte; some bytes, then more
pub wrote_none : (o : Printer) → Wrote [] 0 o o
unfolding write
wrote_none o = record { same = refl; out = refl; short = omega arith }

pub wrote-next : {bs cs : List ℕ} {m k : ℕ} {o p q : Printer} → Wrote bs m o p → Wrote cs k p q → Wrote (bs ++ cs) (m + k) o q
wrote-next {bs} {cs} {m} {k} {o} f g =
    record {
      same = g.same ∙ f.same;
      out = g.out ∙ ap (write cs) f.out ∙ sym (write-append bs cs (out_of o));
      short = (let a = f.short in let b = g.short in let e = length-append bs cs in omega arith);
    }

-- other words for the same bytes, and more room
pub wrote_as : {bs cs : List ℕ} {m k : ℕ} {o p : Printer} → bs ≡ cs → m ≤ k → Wrote bs m o p → Wrote cs k o p
wrote_as {bs} {cs} {m} {k} {o} e h f =
    record { same = f.same; out = f.out ∙ ap (λ (l : List ℕ). write l (out_of o)) e; short = (let s = f.short in let d = ap length e in omega arith) }

-- a text from its front: one byte more
pub wrote_more : (t : List ℕ) {i b : ℕ} {o p q : Printer} → i < length t → b ≡ get_or t i 0 → Wrote (take i t) i o p → Wrote (b ∷ []) 1 p q → Wrote (take (i + 1) t) (i + 1) o q
wrote_more t {i} h e f g = wrote_as (ap (λ (x : ℕ). take i t ++ (x ∷ [])) e ∙ sym (take_more t i 0 h)) (omega arith) (wrote-next f g)

-- a line's numbers before its newline
abbrev pub fields : List ℕ → List ℕ
fields ns = flat_map (λ (n : ℕ). 32 ∷ digits n) ns

numbers-are : (ns : List ℕ) → fields ns ++ (10 ∷ []) ≡ numbers ns
unfolding numbers
numbers-are [] = refl
numbers-are (n ∷ ns) = append_assoc (32 ∷ digits n) (fields ns) (10 ∷ []) ∙ ap (λ (l : List ℕ). 32 ∷ (digits n ++ l)) (numbers-are ns)

-- the first i numbers: one more, and the newline
pub wrote_field : (ns : List ℕ) {i n : ℕ} {o p q r : Printer} → i < length ns → n ≡ get_or ns i 0 → Wrote (fields (take i ns)) (11 * i) o p → Wrote (32 ∷ []) 1 p q → Wrote (digits n) 10 q r → Wrote (fields (take (i + 1) ns)) (11 * (i + 1)) o r
wrote_field ns {i} h e f g d =
    wrote_as
    (ap (λ (x : ℕ). fields (take i ns) ++ (32 ∷ digits x)) e
    ∙ flat_map_more (λ (x : ℕ). 32 ∷ digits x) [] (take i ns) (get_or ns i 0)
    ∙ ap fields (sym (take_more ns i 0 h)))
    (omega arith)
    (wrote-next f (wrote-next g d))

pub wrote_numbers : (ns : List ℕ) {i : ℕ} {o p q : Printer} → i ≡ length ns → Wrote (fields (take i ns)) (11 * i) o p → Wrote (10 ∷ []) 1 p q → Wrote (numbers ns) (11 * length ns + 1) o q
wrote_numbers ns {i} e f g =
    wrote_as (ap (λ (l : List ℕ). fields l ++ (10 ∷ [])) (take_all i ns (omega arith)) ∙ numbers-are ns) (omega arith) (wrote-next f g)

-- a digit; the last of several
to-small : (c n : ℕ) → n < 10 → digits_to (suc c) n ≡ (48 + n) ∷ []
unfolding digits_to
to-small c n h = rw (lt-ltb n 10 h, digits_to)

to-more : (c n : ℕ) → 10 ≤ n → digits_to (suc c) n ≡ digits_to c (n / 10) ++ ((48 + n % 10) ∷ [])
unfolding digits_to
to-more c n h = rw (le-ltb n 10 h, digits_to)

-- the library prints the same digits
pub decimal_digits : (n : ℕ) → n < 2 ^ 64 → decimal n ≡ digits n
unfolding digits
decimal_digits n h = sym (decimal_from_appends digits_to steps (suc n) n h (let e = length-decimal-le_succ n h in omega arith))
  where
    steps : AppendsLastDigit digits_to
    steps = record { one = to-small; more = to-more }

-- more steps than are needed change nothing
enough : (c d n : ℕ) → n < c → n < d → digits_to c n ≡ digits_to d n
enough zero d n h k = absurd (omega arith)
enough (suc c) zero n h k = absurd (omega arith)
enough (suc c) (suc d) n h k = go (dec_lt n 10) (λ (l : 10 ≤ n). enough c d (n / 10) (omega arith) (omega arith))
  where
    go : Dec (n < 10) → (10 ≤ n → digits_to c (n / 10) ≡ digits_to d (n / 10)) → digits_to (suc c) n ≡ digits_to (suc d) n
    go (yes s) f = to-small c n s ∙ sym (to-small d n s)
    go (no s) f =
        let l : 10 ≤ n = omega arith in
        to-more c n l ∙ ap (λ (xs : List ℕ). xs ++ ((48 + n % 10) ∷ [])) (f l) ∙ sym (to-more d n l)

pub digits-small : (n : ℕ) → n < 10 → digits n ≡ (48 + n) ∷ []
unfolding digits
digits-small n h = to-small n n h

pub digits_more : (n : ℕ) → 10 ≤ n → digits n ≡ digits (n / 10) ++ ((48 + n % 10) ∷ [])
unfolding digits
digits_more n h = to-more n n h ∙ ap (λ (xs : List ℕ). xs ++ ((48 + n % 10) ∷ [])) (enough n (suc (n / 10)) (n / 10) (omega arith) (omega arith))

-- a word has at most 10
pub digits-word : (n : ℕ) → n < 2 ^ 32 → length (digits n) ≤ 10
digits-word n h = let e = length-decimal-le 10 n (omega arith) (omega arith) (omega arith) in let d = ap length (decimal_digits n (omega arith)) in omega arith

-- a number's last digit put after those before it
pub wrote_digit : {n : ℕ} {o p q : Printer} → 10 ≤ n → n < 2 ^ 32 → Wrote (digits (n / 10)) 10 o p → Wrote ((48 + n % 10) ∷ []) 1 p q → Wrote (digits n) 10 o q
wrote_digit {n} {o} h k f g =
    let w = wrote-next f g in
    record { same = w.same; out = w.out ∙ ap (λ (l : List ℕ). write l (out_of o)) (sym (digits_more n h)); short = digits-word n k }
