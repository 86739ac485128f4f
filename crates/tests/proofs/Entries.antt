-- The rule of the grid, from one computed check over its entries.
use mathlib.Core.Path.{◌≡◌, refl, sym, ap, ◌∙◌}
use mathlib.Core.Bool.{Bool, true, false, not, ◌&&◌}
use mathlib.Core.List.{List, [], ◌∷◌}
use Prim.Native.Nat.{ℕ, zero, suc, ◌+◌, ◌*◌, ◌/◌, ◌%◌, ◌^◌, ◌<◌, ◌≤◌}
use native.Mathlib.Omega.{arith}
use lib.Dec.{eqb}
use lib.ListN.{length, get_or}
use Rattle.std.specs.Int.{bit_at}
use Rattle.std.specs.Prelude.{bit_and, nat_eq, Option, Some, None}
use Rattle.std.specs.Bool.{beq}
use Rattle.std.specs.Option.{option_eq}
use Rattle.std.proofs.lemmas.Bool.{and_parts}
use Rattle.std.proofs.lemmas.Nat.Bits.{bit_at_lowest, bit_at-suc, bit_at-zero, shr_and_one}
use borrow.Author.Tests.{eq-eqb, eqb-true, eqb-false}
use Rattle.ast.specs.Kinds.{inner, plain, no_child, Kind, kind_of, kinds}
use Rattle.ast.specs.Tests.{is}
use Rattle.ast.proofs.Bools.{is_true, is_false, true-not-false}
use Rattle.ast.proofs.Count.{is-other}
use Rattle.tests.specs.Grid.{places, places_of, admitted, Ruled, Wraps}
use Rattle.tests.specs.declared.grid.TheConstants.{GRID}

-- the test f passes at each item of a list, numbered from i on
unfoldable pub every : {A : Type 0} → (ℕ → A → Bool) → ℕ → List A → Bool
every f i [] = true
every f i (x ∷ xs) = f i x && every f (suc i) xs

-- so it passes at the item numbered k
every-from : {A : Type 0} (f : ℕ → A → Bool) (xs : List A) (i k : ℕ) (d : A) → every f i xs ≡ true → k < length xs → f (i + k) (get_or xs k d) ≡ true
unfolding every
every-from f [] i k d t h = absurd (omega arith)
every-from f (x ∷ xs) i zero d t h = let e : i + 0 ≡ i = omega arith in rw e ((and_parts (f i x) _ t).0)
every-from f (x ∷ xs) i (suc k) d t h = let e : i + suc k ≡ suc i + k = omega arith in rw e (every-from f xs (suc i) k d ((and_parts (f i x) _ t).1) (omega arith))

pub every-at : {A : Type 0} (f : ℕ → A → Bool) (xs : List A) (k : ℕ) (d : A) → every f 0 xs ≡ true → k < length xs → f k (get_or xs k d) ≡ true
every-at f xs k d t h = let e : 0 + k ≡ k = omega arith in rw e at (every-from f xs 0 k d t h)

-- each kind has a field
unfoldable some_field : ℕ → Kind → Bool
some_field i k = not (eqb (length k.fields) 0)

fields-some : every some_field 0 kinds ≡ true
unfolding every some_field kinds
fields-some = refl

pub some-field : (k : ℕ) → k ≤ 40 → length (kind_of k).fields ≡ 0 → ⊥
unfolding some_field kind_of kinds
some-field k h e = true-not-false (eq-eqb _ 0 e) (is_false _ (is_true (every-at some_field kinds k (record { class = inner plain; fields = [] }) fields-some (omega arith))))

-- an entry, from the children's kinds by place
unfoldable pub entry : List ℕ → ℕ → ℕ
entry [] c = 0
entry (k ∷ ks) c = is c k + 2 * entry ks c

-- what the table of kinds says of the entry with number i
unfoldable pub right : ℕ → ℕ → Bool
right i x = eqb x (entry (places_of (i / 41)) (i % 41))

-- bit p of an entry is 1 exactly where the kind at place p is the child's
is-bit : (c k : ℕ) → is c k ≤ 1
unfolding is
is-bit c k = go (eqb c k)
  where
    go : (b : Bool) → elim b as (λ x. ℕ) [ true ↦ 1 | false ↦ 0 ] ≤ 1
    go true = omega arith
    go false = omega arith

bit-is : (ks : List ℕ) (c p : ℕ) → c < 41 → bit_at (entry ks c) p ≡ is c (get_or ks p no_child)
unfolding entry
bit-is [] c p h = bit_at-zero p ∙ sym (is-other c no_child (λ q. omega arith))
bit-is (k ∷ ks) c zero h = let b = is-bit c k in bit_at_lowest _ ∙ omega arith
bit-is (k ∷ ks) c (suc p) h =
    let b = is-bit c k in
    let e : (is c k + 2 * entry ks c) / 2 ≡ entry ks c = omega arith in
    bit_at-suc _ p ∙ ap (λ x. bit_at x p) e ∙ bit-is ks c p h

-- the one computed check, over all entries
checked : every right 0 (GRID.now) ≡ true
unfolding every right entry places_of kind_of kinds places is
checked = refl

pub ruled : Ruled (GRID.now)
unfolding right admitted
ruled = record {
  long = refl;
  entries = λ parent child place h l.
      let p : (41 * parent + child) / 41 ≡ parent = omega arith in
      let c : (41 * parent + child) % 41 ≡ child = omega arith in
      let e = eqb-true _ _ (every-at right (GRID.now) (41 * parent + child) 0 checked (omega arith)) in
      ap (λ x. bit_at x place) (rw (p, c) at e) ∙ bit-is (places_of parent) child place (omega arith);
}

-- the bit as the code reads it
pub admits-is : (parent child place : ℕ) → parent ≤ 40 → child ≤ 40 → eqb (bit_and (get_or (GRID.now) (41 * parent + child) 0 / 2 ^ place) 1) 1 ≡ eqb child (admitted parent place)
unfolding is
admits-is parent child place h l = ap (λ x. eqb x 1) (shr_and_one _ place ∙ ruled.entries parent child place h l) ∙ go (eqb child (admitted parent place))
  where
    go : (b : Bool) → eqb (elim b as (λ x. ℕ) [ true ↦ 1 | false ↦ 0 ]) 1 ≡ b
    go true = refl
    go false = refl

-- a case has a child where it is not the bare one
unfoldable pub childed : Option ℕ → ℕ → ℕ → Bool
childed None case k = not (eqb k no_child)
childed (Some b) case k = beq (eqb case b) (eqb k no_child)

beq-same : (x y : Bool) → beq x y ≡ true → x ≡ y
beq-same true true h = refl
beq-same true false h = cc
beq-same false true h = cc
beq-same false false h = refl

-- a kind that wraps an enum, by computing
pub wraps : (parent count : ℕ) (bare : Option ℕ) → length (places_of parent) ≡ count → count ≤ 8 → every (childed bare) 0 (places_of parent) ≡ true → Wraps parent count bare
unfolding admitted childed
wraps parent count bare l h t = record {
  long = l;
  few = h;
  childless = λ case i e. without bare case _ e (at case i);
  others = λ case i e. with bare case _ e (at case i);
}
  where
    at : (case : ℕ) → case < count → childed bare case (get_or (places_of parent) case no_child) ≡ true
    at case i = every-at (childed bare) (places_of parent) case no_child t (omega arith)

    without : (o : Option ℕ) (case k : ℕ) → o ≡ Some case → childed o case k ≡ true → k ≡ no_child
    without None case k e t = cc
    without (Some b) case k e t = let q : b ≡ case = cc in eqb-true _ _ (sym (beq-same _ _ t) ∙ eq-eqb _ _ (sym q))

    with : (o : Option ℕ) (case k : ℕ) → (o ≡ Some case → ⊥) → childed o case k ≡ true → k ≡ no_child → ⊥
    with None case k e t q = cc
    with (Some b) case k e t q = e (ap Some (sym (eqb-true case b (beq-same _ _ t ∙ eq-eqb _ _ q))))

-- whether a case is the bare one, as the code compares
pub the_bare : (o : Option ℕ) (case : ℕ) → true ≡ option_eq nat_eq o (Some case) → o ≡ Some case
the_bare None case e = cc
the_bare (Some b) case e = ap Some (eqb-true b case (sym e))

pub not_bare : (o : Option ℕ) (case : ℕ) → false ≡ option_eq nat_eq o (Some case) → o ≡ Some case → ⊥
not_bare None case e q = cc
not_bare (Some b) case e q = let r : b ≡ case = cc in eqb-false b case (sym e) r

-- the kind admitted where the code reads the case
pub at-case : (parent case v : ℕ) {k : ℕ} → case ≡ v → admitted parent case ≡ k → get_or (places_of parent) v no_child ≡ k
unfolding admitted
at-case parent case v e h = rw e at h
