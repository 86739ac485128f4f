-- The index as the code fills it: from words that are all ones, one row after the other in front of the chain of its name.
use mathlib.Core.Path.{◌≡◌, sym, ap, ◌∙◌}
use mathlib.Core.Logic.{◌≢◌}
use mathlib.Core.List.{List}
use Prim.Native.Nat.{ℕ, suc, ◌+◌, ◌-◌, ◌<◌, ◌≤◌}
use native.Mathlib.Decide.{dec_lt, ℕ_discrete}
use native.Mathlib.Omega.{arith}
use lib.ListN.{length, get_or, set, replicate, length-set, length-replicate, get_or-replicate}
use lib.Seq.{get_or-set_same, get_or-set_other, ext_get_or}
use Rattle.ast.specs.Image.{nodes, names}
use Rattle.table.specs.Layout.{all_ones}
use Rattle.sound.specs.Sound.{symbols_in}
use Rattle.sound.proofs.Sounds.{sound-is}
use Rattle.index.specs.Index.{index_length, row_name, first_from, next_of, index_words}
use Rattle.index.specs.Promises.{Room, in_front}
use Rattle.index.proofs.Rows.{row-name, first-here, first-later, first_none, index-long, word-first, word-next}

module _ (img tab : List ℕ) where
  abbrev Y : ℕ
  Y = symbols_in img tab

  -- words in which the rows from j on stand in their chains
  pub record Chained (j : ℕ) (words : List ℕ) : Type 0 where
    pub long : length words ≡ index_length img
    pub firsts : (x : ℕ) → x < names img → get_or words x 0 ≡ first_from img tab (Y - j) j x
    pub nexts : (y : ℕ) → y < nodes img → j ≤ y → get_or words (names img + y) 0 ≡ next_of img tab y

  -- no row yet
  pub chained-none : {old : List ℕ} → Room img tab old → Chained Y (replicate (length old) all_ones)
  chained-none {old} room =
      let e = room.long in
      record {
        long = length-replicate (length old) all_ones ∙ e;
        firsts = λ x l. get_or-replicate (length old) x all_ones 0 (omega arith) ∙ sym (first_none img tab (Y - Y) Y x (omega arith));
        nexts = λ y l h. get_or-replicate (length old) (names img + y) all_ones 0 (omega arith) ∙ sym (first_none img tab (Y - (y + 1)) (y + 1) (row_name img tab y) (omega arith));
      }

  -- one row more
  module _ {old : List ℕ} (room : Room img tab old) (y : ℕ) (low : y < Y) (words : List ℕ) (c : Chained (y + 1) words) where
    abbrev x₀ : ℕ
    x₀ = row_name img tab y

    named : x₀ < names img
    named = row-name img tab room.accepted room.sound y low

    within : Y ≤ nodes img
    within = (sound-is img tab room.sound).few_symbols

    abbrev mid : List ℕ
    mid = set words (names img + y) (get_or words x₀ 0)

    mid-long : length mid ≡ index_length img
    mid-long = length-set words (names img + y) (get_or words x₀ 0) ∙ c.long

    -- a word that neither store meets
    other : (i : ℕ) → i ≢ x₀ → i ≢ names img + y → get_or (set mid x₀ y) i 0 ≡ get_or words i 0
    other i p q = get_or-set_other mid x₀ i y 0 p ∙ get_or-set_other words (names img + y) i (get_or words x₀ 0) 0 q

    more : Y - y ≡ suc (Y - (y + 1))
    more = omega arith

    first : (x : ℕ) → x < names img → Dec (x ≡ x₀) → get_or (set mid x₀ y) x 0 ≡ first_from img tab (Y - y) y x
    first x l (yes e) =
        ap (λ (m : ℕ). get_or (set mid x₀ y) m 0) e ∙ get_or-set_same mid x₀ y 0 (let z = mid-long in let n = named in omega arith)
        ∙ sym (ap (λ (k : ℕ). first_from img tab k y x) more ∙ first-here img tab (Y - (y + 1)) y x (sym e))
    first x l (no e) =
        other x e (λ z. omega arith) ∙ c.firsts x l
        ∙ sym (ap (λ (k : ℕ). first_from img tab k y x) more ∙ first-later img tab (Y - (y + 1)) y x (λ z. e (sym z)))

    next : (z : ℕ) → z < nodes img → y ≤ z → Dec (z ≡ y) → get_or (set mid x₀ y) (names img + z) 0 ≡ next_of img tab z
    next z l h (yes e) =
        let n = named in
        ap (λ (m : ℕ). get_or (set mid x₀ y) (names img + m) 0) e
        ∙ get_or-set_other mid x₀ (names img + y) y 0 (λ q. omega arith)
        ∙ get_or-set_same words (names img + y) (get_or words x₀ 0) 0 (let q = c.long in let w = within in omega arith)
        ∙ c.firsts x₀ n ∙ ap (next_of img tab) (sym e)
    next z l h (no e) = let n = named in other (names img + z) (λ q. omega arith) (λ q. e (omega arith)) ∙ c.nexts z l (omega arith)

    pub chained-more : Chained y (in_front img tab y words)
    chained-more =
        record {
          long = length-set mid x₀ y ∙ mid-long;
          firsts = λ x l. first x l (ℕ_discrete x x₀);
          nexts = λ z l h. next z l h (ℕ_discrete z y);
        }

  -- all rows: the index
  pub chained-all : {words : List ℕ} → Chained 0 words → words ≡ index_words img tab
  chained-all {words} c = ext_get_or 0 words (index_words img tab) (c.long ∙ sym (index-long img tab)) (λ i l. word i (dec_lt i (names img)) (let z = c.long in omega arith))
    where
      word : (i : ℕ) → Dec (i < names img) → i < index_length img → get_or words i 0 ≡ get_or (index_words img tab) i 0
      word i (yes p) l =
          let z : Y - 0 ≡ Y = omega arith in
          c.firsts i p ∙ ap (λ (k : ℕ). first_from img tab k 0 i) z ∙ sym (word-first img tab i p)
      word i (no p) l =
          let e : i ≡ names img + (i - names img) = omega arith in
          ap (λ (k : ℕ). get_or words k 0) e ∙ c.nexts (i - names img) (omega arith) (omega arith) ∙ sym (word-next img tab (i - names img) (omega arith))
          ∙ ap (λ (k : ℕ). get_or (index_words img tab) k 0) (sym e)
