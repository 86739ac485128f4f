-- What the words of the index say: the first of some rows with a name, and the words read one by one. The name of a row is below S.
use mathlib.Core.Path.{◌≡◌, refl, sym, ap, ◌∙◌}
use mathlib.Core.Logic.{◌≢◌, ◌⊎◌, inl, inr}
use mathlib.Core.Bool.{Bool, true, false}
use mathlib.Core.List.{List, ◌++◌, map}
use Prim.Native.Nat.{ℕ, zero, suc, ◌+◌, ◌<◌, ◌≤◌}
use native.Mathlib.Decide.{ℕ_discrete}
use native.Mathlib.Nat.{zero-add}
use native.Mathlib.Omega.{arith}
use lib.Dec.{eqb}
use lib.ListN.{length, get_or, take, length-append}
use borrow.Author.Tests.{eqb-true, eqb-false, eq-eqb, ne_eqb}
use Rattle.std.specs.List.{range_with_len}
use Rattle.std.proofs.lemmas.List.{get_or_append_left, get_or-append-add, get_or-take}
use Rattle.std.proofs.lemmas.List.FromFn.{length-map-range_with_len, get_or-map-range_with_len}
use Rattle.ast.specs.Image.{nodes, names}
use Rattle.ast.specs.Tests.{verdict}
use Rattle.table.specs.Layout.{all_ones}
use Rattle.sound.specs.Sound.{symbols_in, test_sound}
use Rattle.sound.proofs.Sounds.{sound-is}
use Rattle.scopes.proofs.Clashing.{symbol-name}
use Rattle.index.specs.Index.{index_length, row_name, first_from, first_of, next_of, index_words}

module _ (img tab : List ℕ) where
  pub row-name : verdict img ≡ 0 → test_sound img tab ≡ 0 → (y : ℕ) → y < symbols_in img tab → row_name img tab y < names img
  row-name accepted sound y l = symbol-name img accepted _ ((sound-is img tab sound).symbol y l)

  -- r is the first of the c rows from j on that has the name x, or no row where none has it
  pub record First (c j x r : ℕ) : Type 0 where
    pub at : (r ≡ all_ones) ⊎ ((j ≤ r) × (r < j + c) × (row_name img tab r ≡ x))
    pub before : (i : ℕ) → j ≤ i → i < j + c → i < r → row_name img tab i ≢ x

  pub first-here : (c j x : ℕ) → row_name img tab j ≡ x → first_from img tab (suc c) j x ≡ j
  unfolding first_from
  first-here c j x e = rw (eq-eqb (row_name img tab j) x e, first_from)

  pub first-later : (c j x : ℕ) → row_name img tab j ≢ x → first_from img tab (suc c) j x ≡ first_from img tab c (j + 1) x
  unfolding first_from
  first-later c j x e = rw (ne_eqb (row_name img tab j) x e, first_from)

  pub first_none : (c j x : ℕ) → c ≡ 0 → first_from img tab c j x ≡ all_ones
  unfolding first_from
  first_none c j x e = ap (λ (k : ℕ). first_from img tab k j x) e

  pub first-is : (c j x : ℕ) → j + c ≤ all_ones → First c j x (first_from img tab c j x)
  unfolding first_from
  first-is zero j x h = record { at = inl refl; before = λ i a b l. absurd (omega arith) }
  first-is (suc c) j x h = go (eqb (row_name img tab j) x) refl (first-is c (j + 1) x (omega arith))
    where
      later : (row_name img tab j ≢ x) → (r : ℕ) → First c (j + 1) x r → First (suc c) j x r
      later n r f = record { at = place f.at; before = λ i a b l. skip i a b l (ℕ_discrete i j) }
        where
          place : (r ≡ all_ones) ⊎ ((j + 1 ≤ r) × (r < j + 1 + c) × (row_name img tab r ≡ x)) → (r ≡ all_ones) ⊎ ((j ≤ r) × (r < j + suc c) × (row_name img tab r ≡ x))
          place (inl e) = inl e
          place (inr (a, b, e)) = inr (omega arith, omega arith, e)

          skip : (i : ℕ) → j ≤ i → i < j + suc c → i < r → Dec (i ≡ j) → row_name img tab i ≢ x
          skip i a b l (yes e) q = n (ap (row_name img tab) (sym e) ∙ q)
          skip i a b l (no e) q = f.before i (omega arith) (omega arith) l q

      go : (b : Bool) → eqb (row_name img tab j) x ≡ b → First c (j + 1) x (first_from img tab c (j + 1) x) → First (suc c) j x (elim b [ true ↦ j | false ↦ first_from img tab c (j + 1) x ])
      go true e f = record { at = inr (omega arith, omega arith, eqb-true (row_name img tab j) x e); before = λ i a b l. absurd (omega arith) }
      go false e f = later (eqb-false (row_name img tab j) x e) (first_from img tab c (j + 1) x) f

  abbrev firsts : List ℕ
  firsts = map (first_of img tab) (range_with_len 0 (names img))

  abbrev nexts : List ℕ
  nexts = map (next_of img tab) (range_with_len 0 (nodes img))

  pub index-long : length (index_words img tab) ≡ index_length img
  unfolding index_words
  index-long =
      let a = length-append firsts nexts in
      let b = length-map-range_with_len (first_of img tab) 0 (names img) in
      let c = length-map-range_with_len (next_of img tab) 0 (nodes img) in
      omega arith

  pub word-first : (x : ℕ) → x < names img → get_or (index_words img tab) x 0 ≡ first_of img tab x
  unfolding index_words
  word-first x l =
      get_or_append_left firsts nexts 0 x (let a = length-map-range_with_len (first_of img tab) 0 (names img) in omega arith)
      ∙ get_or-map-range_with_len (first_of img tab) 0 (names img) x x 0 l (zero-add x)

  pub word-next : (y : ℕ) → y < nodes img → get_or (index_words img tab) (names img + y) 0 ≡ next_of img tab y
  unfolding index_words
  word-next y l =
      ap (λ (k : ℕ). get_or (firsts ++ nexts) (k + y) 0) (sym (length-map-range_with_len (first_of img tab) 0 (names img)))
      ∙ get_or-append-add firsts nexts y 0
      ∙ get_or-map-range_with_len (next_of img tab) 0 (nodes img) y y 0 l (zero-add y)

  -- in words that begin with the index
  module _ (index : List ℕ) (begins : take (index_length img) index ≡ index_words img tab) where
    begin-word : (i : ℕ) → i < index_length img → get_or index i 0 ≡ get_or (index_words img tab) i 0
    begin-word i l = sym (get_or-take (index_length img) index i 0 l) ∙ ap (λ (ws : List ℕ). get_or ws i 0) begins

    pub begin-first : (x : ℕ) → x < names img → get_or index x 0 ≡ first_of img tab x
    begin-first x l = begin-word x (omega arith) ∙ word-first x l

    pub begin-next : (y : ℕ) → y < nodes img → get_or index (names img + y) 0 ≡ next_of img tab y
    begin-next y l = begin-word (names img + y) (omega arith) ∙ word-next y l
