-- Members of lists; lists of distinct numbers.
use mathlib.Core.Path.{subst}
use mathlib.Core.Logic.{◌⊎◌, inl, inr}
use mathlib.Core.List.{List, [], ◌∷◌, ◌++◌}
use Prim.Native.Nat.{ℕ}
use Rattle.sight.specs.Listing.{Distinct}
use Rattle.sight.specs.Sight.{In}

module _ {A : Type 0} where
  pub in_left : (a : A) (xs ys : List A) → In a xs → In a (xs ++ ys)
  in_left a [] ys i = absurd i
  in_left a (x ∷ xs) ys (inl e) = inl e
  in_left a (x ∷ xs) ys (inr i) = inr (in_left a xs ys i)

  pub in_right : (a : A) (xs ys : List A) → In a ys → In a (xs ++ ys)
  in_right a [] ys i = i
  in_right a (x ∷ xs) ys i = inr (in_right a xs ys i)

  pub in_split : (a : A) (xs ys : List A) → In a (xs ++ ys) → In a xs ⊎ In a ys
  in_split a [] ys i = inr i
  in_split a (x ∷ xs) ys (inl e) = inl (inl e)
  in_split a (x ∷ xs) ys (inr i) = elim (in_split a xs ys i) [ inl j ↦ inl (inr j) | inr j ↦ inr j ]

pub distinct-left : (ns ms : List ℕ) → Distinct (ns ++ ms) → Distinct ns
distinct-left [] ms d = tt
distinct-left (n ∷ ns) ms d = (λ i. d.0 (in_left n ns ms i), distinct-left ns ms d.1)

pub distinct-right : (ns ms : List ℕ) → Distinct (ns ++ ms) → Distinct ms
distinct-right [] ms d = d
distinct-right (n ∷ ns) ms d = distinct-right ns ms d.1

pub distinct_apart : (ns ms : List ℕ) → Distinct (ns ++ ms) → (n : ℕ) → In n ns → In n ms → ⊥
distinct_apart [] ms d n i j = i
distinct_apart (m ∷ ns) ms d n (inl e) j = d.0 (in_right m ns ms (subst (λ z. In z ms) e j))
distinct_apart (m ∷ ns) ms d n (inr i) j = distinct_apart ns ms d.1 n i j
