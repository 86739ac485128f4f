-- Laws of tests.
use mathlib.Core.Path.{◌≡◌, refl, sym, subst, ◌∙◌}
use mathlib.Core.Bool.{Bool, true, false, ◌&&◌, ◌||◌, not}
use Prim.Native.Nat.{ℕ}
use lib.Dec.{T, eqb}
use borrow.Author.Tests.{eq-eqb, both_ways, eqb-true, eqb-false, ne_eqb}

-- where a implies b
pub not-or : (a b : Bool) → T a → T (not a || b) → T b
not-or true b s t = t
not-or false b s t = absurd s

pub is_true : {b : Bool} → b ≡ true → T b
is_true e = subst T (sym e) tt

pub is_false : (a : Bool) → T (not a) → a ≡ false
is_false true t = absurd t
is_false false t = refl

pub true-not-false : {b : Bool} → b ≡ true → b ≡ false → ⊥
true-not-false p q = both_ways _ q p

pub not_equal : {k : ℕ} (x : ℕ) → T (not (eqb k x)) → k ≡ x → ⊥
not_equal {k} x t e = subst (λ (b : Bool). T (not b)) (eq-eqb k x e) t

pub and-true : (a : Bool) → T a → T (a && true)
and-true true t = tt
and-true false t = absurd t

pub true-is : (b : Bool) → T b → b ≡ true
true-is true t = refl
true-is false t = absurd t

pub eqb-swap : (a b : ℕ) → eqb a b ≡ eqb b a
eqb-swap a b = go (eqb a b) refl
  where
    go : (t : Bool) → eqb a b ≡ t → eqb a b ≡ eqb b a
    go true e = e ∙ sym (eq-eqb b a (sym (eqb-true a b e)))
    go false e = e ∙ sym (ne_eqb b a (λ q. eqb-false a b e (sym q)))
