-- Arguments that repeat a name, and the sentence on row 4 (document 02, S-5).
use mathlib.Core.Path.{◌≡◌, refl, sym, ap, subst, ◌∙◌}
use mathlib.Core.Logic.{◌⊎◌, inl, inr, ⊎_elim, ◌↔◌}
use mathlib.Core.Bool.{Bool, true, false, ◌||◌, false≢true}
use mathlib.Core.List.{List, [], ◌∷◌, ◌++◌, Memᴰ}
use mathlib.Core.List.Memᴰ
use Prim.Native.Nat.{ℕ, zero, suc, ◌+◌, ◌<◌, ◌≤◌}
use native.Mathlib.Decide.{ℕ_discrete}
use native.Mathlib.Omega.{arith}
use lib.Dec.{T, eqb, eqb→eq}
use borrow.Author.Tests.{eqb-true, eq-eqb}
use Rattle.ast.specs.Image.{nodes, kind_at, field}
use Rattle.ast.specs.Tests.{verdict}
use Rattle.scopes.specs.Twice.{among}
use Rattle.rows.specs.Rows.{Row, row, when}
use Rattle.bindings.specs.Errors.{args_of, repeated, repeated_in, repeated_to, strict_from, strict_rows}
use Rattle.sentences.specs.Places.{Repeated}
use Rattle.bindings.proofs.Leaves.{when_true}
use Rattle.ast.proofs.Kids.{all-mem}
use Rattle.bindings.proofs.Bound.{args-all}

-- membership as a test
module _ (n : ℕ) where
  among-mem : (ns : List ℕ) → among n ns ≡ true → Memᴰ n ns
  unfolding among
  among-mem [] e = absurd (false≢true e)
  among-mem (x ∷ ns) e = go (eqb n x) refl (among-mem ns) e
    where
      go : (b : Bool) → eqb n x ≡ b → (among n ns ≡ true → Memᴰ n ns) → b || among n ns ≡ true → Memᴰ n (x ∷ ns)
      go true q r z = Memᴰ.head (eqb-true n x q)
      go false q r z = Memᴰ.tail (r z)

  mem-among : (ns : List ℕ) → Memᴰ n ns → among n ns ≡ true
  unfolding among
  mem-among [] x' = elim x' [ ]
  mem-among (x ∷ ns) (Memᴰ.head e) = ap (λ (b : Bool). b || among n ns) (eq-eqb n x e)
  mem-among (x ∷ ns) (Memᴰ.tail m) = go (eqb n x) (mem-among ns m)
    where
      go : (b : Bool) → among n ns ≡ true → b || among n ns ≡ true
      go true z = refl
      go false z = z

-- arguments that repeat a name ------------------------------------------------------------------------------------------
module _ (img : List ℕ) where
  -- the name x is that of one of some arguments
  abbrev Carried : ℕ → List ℕ → Type 0
  Carried x ns = (m : ℕ) × Memᴰ m ns × (field img m 0 ≡ suc x)

  -- n is an argument of ns whose name is one of `seen`, or that of one before it
  pub record Within (seen ns : List ℕ) (n : ℕ) : Type 0 where
    pub before : List ℕ
    pub after : List ℕ
    pub name : ℕ
    pub split : ns ≡ before ++ (n ∷ after)
    pub named : field img n 0 ≡ suc name
    pub carried : Memᴰ name seen ⊎ Carried name before

  -- what a list is of, by its first argument's word
  abbrev by_word : List ℕ → ℕ → List ℕ → ℕ → List ℕ
  by_word seen x ns w = elim w as (λ _. List ℕ) [ zero ↦ repeated img seen ns | suc y ↦ elim (among y seen) [ true ↦ x ∷ repeated img (y ∷ seen) ns | false ↦ repeated img (y ∷ seen) ns ] ]

  by-word : (seen : List ℕ) (x : ℕ) (ns : List ℕ) (w : ℕ) → field img x 0 ≡ w → repeated img seen (x ∷ ns) ≡ by_word seen x ns w
  unfolding repeated
  by-word seen x ns w e = ap (by_word seen x ns) e

  -- one argument before: what was carried after it is its name, or was carried before
  first-before : {seen l ns : List ℕ} {n : ℕ} (x : ℕ) → ((y : ℕ) → Memᴰ y l → (field img x 0 ≡ suc y) ⊎ Memᴰ y seen) → Within l ns n → Within seen (x ∷ ns) n
  first-before x f h = record {
    before = x ∷ h.before;
    after = h.after;
    name = h.name;
    split = ap (λ (l : List ℕ). x ∷ l) h.split;
    named = h.named;
    carried = ⊎_elim (λ m. ⊎_elim (λ q. inr (x, Memᴰ.head refl, q)) inl (f h.name m)) (λ c. inr (c.0, Memᴰ.tail c.1, c.2)) h.carried;
  }

  repeats : (seen ns : List ℕ) {n : ℕ} → Memᴰ n (repeated img seen ns) → Within seen ns n
  unfolding repeated
  repeats seen [] m = absurd (Memᴰ.not-nil m)
  repeats seen (x ∷ ns) {n} m = go (field img x 0) refl (λ l. repeats l ns) m
    where
      go : (w : ℕ) → field img x 0 ≡ w → ((l : List ℕ) → Memᴰ n (repeated img l ns) → Within l ns n) → Memᴰ n (by_word seen x ns w) → Within seen (x ∷ ns) n
      go zero e ih k = first-before x (λ z m. inr m) (ih seen k)
      go (suc y) e ih k = pick (among y seen) refl k
        where
          later : Memᴰ n (repeated img (y ∷ seen) ns) → Within seen (x ∷ ns) n
          later m = first-before x (λ z l. ⊎_elim (λ q. inl (e ∙ ap suc (sym q))) inr (Memᴰ.cases_cons l)) (ih (y ∷ seen) m)

          pick : (b : Bool) → among y seen ≡ b → Memᴰ n (elim b as (λ _. List ℕ) [ true ↦ x ∷ repeated img (y ∷ seen) ns | false ↦ repeated img (y ∷ seen) ns ]) → Within seen (x ∷ ns) n
          pick true q c =
              ⊎_elim (λ z. record { before = []; after = ns; name = y; split = ap (λ (v : ℕ). v ∷ ns) (sym z); named = ap (λ (v : ℕ). field img v 0) z ∙ e; carried = inl (among-mem y seen q) })
              later (Memᴰ.cases_cons c)
          pick false q c = later c

  -- the other way
  within-repeats : {n y : ℕ} (seen before after : List ℕ) → field img n 0 ≡ suc y → Memᴰ y seen ⊎ Carried y before → Memᴰ n (repeated img seen (before ++ (n ∷ after)))
  within-repeats {n} {y} seen [] after e h =
      subst (Memᴰ n) (sym (by-word seen n after (suc y) e))
      (subst (λ (b : Bool). Memᴰ n (elim b as (λ _. List ℕ) [ true ↦ n ∷ repeated img (y ∷ seen) after | false ↦ repeated img (y ∷ seen) after ]))
      (sym (mem-among y seen (⊎_elim (λ m. m) (λ c. absurd (Memᴰ.not-nil c.1)) h))) (Memᴰ.head refl))
  within-repeats {n} {y} seen (x ∷ before) after e h =
      subst (Memᴰ n) (sym (by-word seen x (before ++ (n ∷ after)) (field img x 0) refl)) (go (field img x 0) refl (λ l. within-repeats l before after e))
    where
      -- it is the first one's name, or is carried without it
      first : Memᴰ y seen ⊎ Carried y (x ∷ before) → (field img x 0 ≡ suc y) ⊎ (Memᴰ y seen ⊎ Carried y before)
      first (inl m) = inr (inl m)
      first (inr c) = ⊎_elim (λ q. inl (ap (λ (v : ℕ). field img v 0) (sym q) ∙ c.2)) (λ m. inr (inr (c.0, m, c.2))) (Memᴰ.cases_cons c.1)

      go : (w : ℕ) → field img x 0 ≡ w → ((l : List ℕ) → Memᴰ y l ⊎ Carried y before → Memᴰ n (repeated img l (before ++ (n ∷ after)))) → Memᴰ n (by_word seen x (before ++ (n ∷ after)) w)
      go zero q ih = ih seen (⊎_elim (λ f. absurd (let z = sym f ∙ q in omega arith)) (λ c. c) (first h))
      go (suc z) q ih = pick (among z seen)
        where
          later : Memᴰ n (repeated img (z ∷ seen) (before ++ (n ∷ after)))
          later = ih (z ∷ seen) (⊎_elim (λ f. inl (Memᴰ.head (let u = sym f ∙ q in omega arith))) (⊎_elim (λ m. inl (Memᴰ.tail m)) inr) (first h))

          pick : (b : Bool) → Memᴰ n (elim b as (λ _. List ℕ) [ true ↦ x ∷ repeated img (z ∷ seen) (before ++ (n ∷ after)) | false ↦ repeated img (z ∷ seen) (before ++ (n ∷ after)) ])
          pick true = Memᴰ.tail later
          pick false = later

  -- one list, and the lists among the first k nodes
  in_list : {n : ℕ} (m : ℕ) → Memᴰ n (repeated_in img m) → (kind_at img m ≡ 11) × Within [] (args_of img m) n
  unfolding repeated_in
  in_list {n} m h = go (eqb (kind_at img m) 11) (eqb→eq (kind_at img m) 11) h
    where
      go : (b : Bool) → (T b → kind_at img m ≡ 11) → Memᴰ n (elim b as (λ _. List ℕ) [ true ↦ repeated img [] (args_of img m) | false ↦ [] ]) → (kind_at img m ≡ 11) × Within [] (args_of img m) n
      go true e k = (e tt, repeats [] (args_of img m) k)
      go false e k = absurd (Memᴰ.not-nil k)

  of-list : {n : ℕ} (m : ℕ) → kind_at img m ≡ 11 → Within [] (args_of img m) n → Memᴰ n (repeated_in img m)
  unfolding repeated_in
  of-list {n} m e h =
      subst (λ (b : Bool). Memᴰ n (elim b as (λ _. List ℕ) [ true ↦ repeated img [] (args_of img m) | false ↦ [] ])) (sym (eq-eqb (kind_at img m) 11 e))
      (subst (λ (l : List ℕ). Memᴰ n (repeated img [] l)) (sym h.split) (within-repeats [] h.before h.after h.named h.carried))

  in-lists : {n : ℕ} (k : ℕ) → Memᴰ n (repeated_to img k) → (m : ℕ) × (m < k) × Memᴰ n (repeated_in img m)
  unfolding repeated_to
  in-lists zero h = absurd (Memᴰ.not-nil h)
  in-lists {n} (suc k) h = go (in-lists k) (Memᴰ.append_cases (repeated_to img k) h)
    where
      go : (Memᴰ n (repeated_to img k) → (m : ℕ) × (m < k) × Memᴰ n (repeated_in img m)) → Memᴰ n (repeated_to img k) ⊎ Memᴰ n (repeated_in img k)
          → (m : ℕ) × (m < suc k) × Memᴰ n (repeated_in img m)
      go ih (inl q) = let r = ih q in (r.0, (let b = r.1 in omega arith), r.2)
      go ih (inr q) = (k, omega arith, q)

  of-lists : {n m : ℕ} (k : ℕ) → m < k → Memᴰ n (repeated_in img m) → Memᴰ n (repeated_to img k)
  unfolding repeated_to
  of-lists zero l h = absurd (omega arith)
  of-lists {n} {m} (suc k) l h = go (ℕ_discrete m k) (of-lists k)
    where
      go : Dec (m ≡ k) → (m < k → Memᴰ n (repeated_in img m) → Memᴰ n (repeated_to img k)) → Memᴰ n (repeated_to img k ++ repeated_in img k)
      go (yes e) ih = Memᴰ.append_right (repeated_to img k) (subst (λ (x : ℕ). Memᴰ n (repeated_in img x)) e h)
      go (no e) ih = Memᴰ.append_left (repeated_in img k) (ih (omega arith) h)

  -- rows 4 by rising node number
  pub in-strict : {r : Row} (ns : List ℕ) (c s : ℕ) → Memᴰ r (strict_from img ns c s) → (r.left ≡ 4) × (s ≤ r.right) × (r.right < s + c) × Memᴰ r.right ns
  unfolding strict_from
  in-strict ns zero s h = absurd (Memᴰ.not-nil h)
  in-strict {r} ns (suc c) s h = go (in-strict ns c (s + 1)) (Memᴰ.append_cases (when (among s ns) (row 4 s)) h)
    where
      first : (b : Bool) → among s ns ≡ b → Memᴰ r (when b (row 4 s)) → (r.left ≡ 4) × (s ≤ r.right) × (r.right < s + suc c) × Memᴰ r.right ns
      first true e k = unfold when in
          let q = Memᴰ.eq_of_singleton k in
          let x : r.right ≡ s = ap (λ (y : Row). y.right) q in
          (ap (λ (y : Row). y.left) q, omega arith, omega arith, subst (λ (y : ℕ). Memᴰ y ns) (sym x) (among-mem s ns e))
      first false e k = unfold when in absurd (Memᴰ.not-nil k)

      go : (Memᴰ r (strict_from img ns c (s + 1)) → (r.left ≡ 4) × (s + 1 ≤ r.right) × (r.right < s + 1 + c) × Memᴰ r.right ns)
          → Memᴰ r (when (among s ns) (row 4 s)) ⊎ Memᴰ r (strict_from img ns c (s + 1)) → (r.left ≡ 4) × (s ≤ r.right) × (r.right < s + suc c) × Memᴰ r.right ns
      go ih (inl k) = first (among s ns) refl k
      go ih (inr k) = let q = ih k in (q.0, (let a = q.1 in omega arith), (let a = q.2 in omega arith), q.3)

  of-strict : {n : ℕ} (ns : List ℕ) (c s : ℕ) → s ≤ n → n < s + c → Memᴰ n ns → Memᴰ (row 4 n) (strict_from img ns c s)
  unfolding strict_from
  of-strict ns zero s l h m = absurd (omega arith)
  of-strict {n} ns (suc c) s l h m = go (ℕ_discrete s n) (λ b. of-strict ns c (s + 1) b (omega arith) m)
    where
      go : Dec (s ≡ n) → (s + 1 ≤ n → Memᴰ (row 4 n) (strict_from img ns c (s + 1))) → Memᴰ (row 4 n) (when (among s ns) (row 4 s) ++ strict_from img ns c (s + 1))
      go (yes e) ih =
          Memᴰ.append_left (strict_from img ns c (s + 1))
          (subst (Memᴰ (row 4 n)) (sym (when_true (row 4 s) (ap (λ (x : ℕ). among x ns) e ∙ mem-among n ns m))) (Memᴰ.head (ap (row 4) (sym e))))
      go (no e) ih = Memᴰ.append_right (when (among s ns) (row 4 s)) (ih (omega arith))

module _ (img : List ℕ) (accepted : verdict img ≡ 0) where
  -- row 4 stands at exactly the named arguments whose name an earlier one of their list carries
  pub row-four : (n : ℕ) → Memᴰ (row 4 n) (strict_rows img) ↔ Repeated img n
  unfolding strict_rows
  row-four n = (to, from)
    where
      to : Memᴰ (row 4 n) (strict_rows img) → Repeated img n
      to h =
          let a = in-strict img (repeated_to img (nodes img)) (nodes img) 0 h in
          let b = in-lists img (nodes img) a.3 in
          let c = in_list img b.0 b.2 in
          let w = c.1 in
          let d = ⊎_elim (λ m. absurd (Memᴰ.not-nil m)) (λ q. q) w.carried in
          record {
            list = b.0;
            before = w.before;
            after = w.after;
            earlier = d.0;
            is_list = record { below = b.1; kind = c.0 };
            args = w.split;
            named = λ z. let q = w.named in omega arith;
            stands = d.1;
            same = d.2 ∙ sym w.named;
          }

      from : Repeated img n → Memᴰ (row 4 n) (strict_rows img)
      from h =
          let x = some-name (field img n 0) refl h.named in
          let w : Within img [] (args_of img h.list) n = record {
            before = h.before;
            after = h.after;
            name = x.0;
            split = h.args;
            named = x.1;
            carried = inr (h.earlier, h.stands, h.same ∙ x.1);
          } in
          let m : Memᴰ n (args_of img h.list) = subst (Memᴰ n) (sym h.args) (Memᴰ.append_right h.before (Memᴰ.head refl)) in
          of-strict img (repeated_to img (nodes img)) (nodes img) 0 (omega arith) (let b = (all-mem (args-all img accepted h.list h.is_list.below h.is_list.kind) m).0 in omega arith)
          (of-lists img (nodes img) h.is_list.below (of-list img h.list h.is_list.kind w))
        where
          some-name : (w : ℕ) → field img n 0 ≡ w → (field img n 0 ≡ 0 → ⊥) → (x : ℕ) × (field img n 0 ≡ suc x)
          some-name zero e f = absurd (f e)
          some-name (suc x) e f = (x, e)
