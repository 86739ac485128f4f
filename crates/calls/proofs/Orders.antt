-- The sort by insertion, over any comparison: it has the same items, each as often; it rises; those that compare equal keep their
-- sequence; and no other list is so.
use mathlib.Core.Path.{◌≡◌, refl, sym, ◌∙◌, ap, ap₂, subst}
use mathlib.Core.Logic.{inl, inr}
use mathlib.Core.Bool.{Bool, true, false}
use mathlib.Core.List.Permᴰ
use mathlib.Core.List.{List, [], ◌∷◌, Permᴰ}
use native.Mathlib.Omega.{arith}
use Rattle.ast.proofs.Bools.{true-not-false}
use Rattle.sight.specs.Sight.{In}
use Rattle.sorted.specs.Sort.{insert, sort}
use Rattle.sorted.proofs.Sorts.{Compares}
use Rattle.calls.specs.Order.{Rises, passing, one, many}

-- how many pass a test does not depend on the sequence
many-same : {A : Type 0} (t : A → Bool) {l k : List A} → Permᴰ l k → many t l ≡ many t k
unfolding many
many-same t Permᴰ.nil = refl
many-same t (Permᴰ.cons e s) = let p = ap (λ z. one (t z)) e in let q = many-same t s in omega arith
many-same t (Permᴰ.swap e f) = let p = ap (λ z. one (t z)) e in let q = ap (λ z. one (t z)) f in omega arith
many-same t (Permᴰ.trans s u) = many-same t s ∙ many-same t u

-- the items that pass a test
module _ {A : Type 0} (t : A → Bool) where
  passing-in : (l : List A) (a : A) → In a (passing t l) → In a l
  unfolding passing
  passing-in [] a i = i
  passing-in (b ∷ l) a i = go (t b) (passing-in l a) i
    where
      go : (c : Bool) → (In a (passing t l) → In a l) → In a (elim c [ true ↦ b ∷ passing t l | false ↦ passing t l ]) → In a (b ∷ l)
      go true r (inl e) = inl e
      go true r (inr j) = inr (r j)
      go false r j = inr (r j)

  passing-yes : (a : A) (l : List A) → t a ≡ true → passing t (a ∷ l) ≡ a ∷ passing t l
  unfolding passing
  passing-yes a l e = rw (e, passing)

  passing-no : (a : A) (l : List A) → t a ≡ false → passing t (a ∷ l) ≡ passing t l
  unfolding passing
  passing-no a l e = rw (e, passing)

  passing-cons : (a : A) (l k : List A) → passing t l ≡ passing t k → passing t (a ∷ l) ≡ passing t (a ∷ k)
  unfolding passing
  passing-cons a l k e = ap (λ (m : List A). elim (t a) as (λ _. List A) [ true ↦ a ∷ m | false ↦ m ]) e

  passing-tail : (a : A) (l k : List A) → passing t (a ∷ l) ≡ passing t (a ∷ k) → passing t l ≡ passing t k
  unfolding passing
  passing-tail a l k = go (t a)
    where
      go : (c : Bool) → ◌≡◌ {A = List A} (elim c [ true ↦ a ∷ passing t l | false ↦ passing t l ]) (elim c [ true ↦ a ∷ passing t k | false ↦ passing t k ])
          → passing t l ≡ passing t k
      go true e = cc
      go false e = e

  -- two that do not both pass change places
  passing-swap : (a b : A) (l : List A) → (t a ≡ true → t b ≡ true → ⊥) → passing t (b ∷ a ∷ l) ≡ passing t (a ∷ b ∷ l)
  passing-swap a b l f = go (t a) (t b) refl refl
    where
      go : (c d : Bool) → t a ≡ c → t b ≡ d → passing t (b ∷ a ∷ l) ≡ passing t (a ∷ b ∷ l)
      go true true p q = absurd (f p q)
      go true false p q = passing-no b (a ∷ l) q ∙ passing-yes a l p ∙ ap (λ (k : List A). a ∷ k) (sym (passing-no b l q)) ∙ sym (passing-yes a (b ∷ l) p)
      go false d p q = passing-cons b (a ∷ l) l (passing-no a l p) ∙ sym (passing-no a (b ∷ l) p)

module _ {A : Type 0} (le : A → A → Bool) where
  -- the same items, each as often
  insert-same : (a : A) (l : List A) → Permᴰ (insert le a l) (a ∷ l)
  unfolding insert
  insert-same a [] = Permᴰ.refl (a ∷ [])
  insert-same a (b ∷ l) = go (le a b) (insert-same a l)
    where
      go : (c : Bool) → Permᴰ (insert le a l) (a ∷ l) → Permᴰ (elim c [ true ↦ a ∷ b ∷ l | false ↦ b ∷ insert le a l ]) (a ∷ b ∷ l)
      go true h = Permᴰ.refl (a ∷ b ∷ l)
      go false h = Permᴰ.trans (Permᴰ.cons refl h) (Permᴰ.swap refl refl)

  pub sort-same : (l : List A) → Permᴰ (sort le l) l
  unfolding sort
  sort-same [] = Permᴰ.nil
  sort-same (a ∷ l) = Permᴰ.trans (insert-same a (sort le l)) (Permᴰ.cons refl (sort-same l))

  pub as-often : (t : A → Bool) (l : List A) → many t (sort le l) ≡ many t l
  as-often t l = many-same t (sort-same l)

  -- those that pass a test keep their sequence, where each of them may stand before each
  module _ (t : A → Bool) (equal : (a b : A) → t a ≡ true → t b ≡ true → le a b ≡ true) where
    insert-stable : (a : A) (l : List A) → passing t (insert le a l) ≡ passing t (a ∷ l)
    unfolding insert
    insert-stable a [] = refl
    insert-stable a (b ∷ l) = go (le a b) refl (insert-stable a l)
      where
        go : (c : Bool) → le a b ≡ c → passing t (insert le a l) ≡ passing t (a ∷ l)
            → passing t (elim c [ true ↦ a ∷ b ∷ l | false ↦ b ∷ insert le a l ]) ≡ passing t (a ∷ b ∷ l)
        go true q h = refl
        go false q h = passing-cons t b (insert le a l) (a ∷ l) h ∙ passing-swap t a b l (λ p r. true-not-false (equal a b p r) q)

    pub sort-stable : (l : List A) → passing t (sort le l) ≡ passing t l
    unfolding sort
    sort-stable [] = refl
    sort-stable (a ∷ l) = insert-stable a (sort le l) ∙ passing-cons t a (sort le l) l (sort-stable l)

  insert-in : (a : A) (l : List A) (b : A) → In b (insert le a l) → In b (a ∷ l)
  unfolding insert
  insert-in a [] b i = i
  insert-in a (c ∷ l) b i = go (le a c) (insert-in a l b) i
    where
      go : (d : Bool) → (In b (insert le a l) → In b (a ∷ l)) → In b (elim d [ true ↦ a ∷ c ∷ l | false ↦ c ∷ insert le a l ]) → In b (a ∷ c ∷ l)
      go true r j = j
      go false r (inl e) = inr (inl e)
      go false r (inr j) = elim (r j) [ inl e ↦ inl e | inr k ↦ inr (inr k) ]

  module _ (compares : Compares le) where
    -- it rises
    insert-rises : (a : A) (l : List A) → Rises le l → Rises le (insert le a l)
    unfolding insert
    insert-rises a [] r = (λ b i. absurd i, tt)
    insert-rises a (b ∷ l) r = go (le a b) refl (insert-rises a l r.1)
      where
        go : (c : Bool) → le a b ≡ c → Rises le (insert le a l) → Rises le (elim c [ true ↦ a ∷ b ∷ l | false ↦ b ∷ insert le a l ])
        go true q h = (λ c i. elim i [ inl e ↦ ap (le a) e ∙ q | inr j ↦ compares.onward a b c q (r.0 c j) ], r)
        go false q h = (λ c i. elim (insert-in a l c i) [ inl e ↦ ap (le b) e ∙ compares.other a b q | inr j ↦ r.0 c j ], h)

    pub sort-rises : (l : List A) → Rises le (sort le l)
    unfolding sort
    sort-rises [] = tt
    sort-rises (a ∷ l) = insert-rises a (sort le l) (sort-rises l)

    itself : (a : A) → le a a ≡ true
    itself a = go (le a a) refl
      where
        go : (c : Bool) → le a a ≡ c → le a a ≡ true
        go true q = q
        go false q = compares.other a a q

    -- the first of a rising list may stand before all of it
    first-before : (y : A) (n : List A) → Rises le (y ∷ n) → (x : A) → In x (y ∷ n) → le y x ≡ true
    first-before y n r x (inl e) = ap (le y) e ∙ itself y
    first-before y n r x (inr i) = r.0 x i

    -- a rising list is told by its items that compare equal, in their sequence: `same x` passes those that compare equal to x
    module _ (same : A → A → Bool) (equal : (a b : A) → le a b ≡ true → le b a ≡ true → same a b ≡ true) where
      -- where m, with x in front, has the same items equal to x as n, x is in n
      found : (x : A) (m n : List A) → passing (same x) (x ∷ m) ≡ passing (same x) n → In x n
      found x m n e =
          passing-in (same x) n x (subst (λ (l : List A). In x l) (sym (passing-yes (same x) x m (equal x x (itself x) (itself x))) ∙ e) (inl refl))

      pub one-order : (m n : List A) → Rises le m → Rises le n → ((x : A) → passing (same x) m ≡ passing (same x) n) → m ≡ n
      one-order [] [] r s f = refl
      one-order [] (y ∷ n) r s f = absurd (found y n [] (sym (f y)))
      one-order (x ∷ m) [] r s f = absurd (found x m [] (f x))
      one-order (x ∷ m) (y ∷ n) r s f =
          let a = equal x y (first-before x m r y (found y n (x ∷ m) (sym (f y)))) (first-before y n s x (found x m (y ∷ n) (f x))) in
          let c : x ∷ passing (same x) m ≡ y ∷ passing (same x) n =
          sym (passing-yes (same x) x m (equal x x (itself x) (itself x))) ∙ f x ∙ passing-yes (same x) y n a in
          let e : x ≡ y = cc in
          ap₂ (λ (z : A) (l : List A). z ∷ l) e
          (one-order m n r.1 s.1 (λ z. passing-tail (same z) x m n (f z ∙ ap (λ (w : A). passing (same z) (w ∷ n)) (sym e))))
