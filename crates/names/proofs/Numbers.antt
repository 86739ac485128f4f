-- The number of a name by its bytes.
use mathlib.Core.Path.{◌≡◌, refl, sym}
use mathlib.Core.Bool.{Bool, true, false, cond}
use mathlib.Core.List.{List}
use mathlib.Core.Option.{some}
use Prim.Native.Nat.{ℕ, zero, suc, ◌+◌, ◌<◌}
use native.Mathlib.Omega.{arith}
use lib.Dec.{eqb}
use Rattle.std.specs.Prelude.{Option, Some, None}
use Rattle.std.specs.Cmp.Lexicographic.{pointwise}
use Rattle.std.specs.List.{find, range_with_len}
use Rattle.std.specs.Option.{option_map}
use Rattle.ast.specs.Image.{names, name_bytes}
use Rattle.ast.specs.Tests.{same}
use Rattle.names.specs.Number.{number_from, number_of, number_in}
use Rattle.names.proofs.Names.{same-is}

pub number_same : (r : Option ℕ) → number_in (option_map (λ x. x) r) ≡ number_in r
number_same (Some x) = refl
number_same None = refl

module _ (img bs : List ℕ) where
  abbrev test : ℕ → Bool
  test i = pointwise eqb (name_bytes img i) bs

  found-from : (c i : ℕ) → number_in (find test (range_with_len i c)) ≡ number_from img c i bs
  unfolding number_from
  found-from zero i = refl
  found-from (suc c) i = go (test i) (same-is (name_bytes img i) bs) (found-from c (i + 1))
    where
      go : (b : Bool) → b ≡ same (name_bytes img i) bs → number_in (find test (range_with_len (i + 1) c)) ≡ number_from img c (i + 1) bs
          → number_in (cond b (Some i) (find test (range_with_len (i + 1) c))) ≡ elim (same (name_bytes img i) bs) [ true ↦ some i | false ↦ number_from img c (i + 1) bs ]
      go true e r = rw (sym e)
      go false e r = rw (sym e) r

  pub number-find : (c : ℕ) → c ≡ names img → number_in (find test (range_with_len 0 c)) ≡ number_of img bs
  unfolding number_of
  number-find c e = rw e (found-from (names img) 0)

  -- it is below S
  below-from : (c i x : ℕ) → number_from img c i bs ≡ some x → x < i + c
  unfolding number_from
  below-from zero i x e = absurd (let z : ◌≡◌ {A = ℕ} 0 1 = cc in omega arith)
  below-from (suc c) i x e = go (same (name_bytes img i) bs) e (below-from c (i + 1) x)
    where
      go : (b : Bool) → elim b [ true ↦ some i | false ↦ number_from img c (i + 1) bs ] ≡ some x → (number_from img c (i + 1) bs ≡ some x → x < i + 1 + c) → x < i + suc c
      go true q r = let z : i ≡ x = cc in omega arith
      go false q r = let z = r q in omega arith

  pub number-below : (x : ℕ) → number_of img bs ≡ some x → x < names img
  unfolding number_of
  number-below x e = let z = below-from (names img) 0 x e in omega arith
