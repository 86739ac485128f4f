-- Lists of rows: a binding among them, whether two are equal, and the names that are put in for what is left of one.
use mathlib.Core.Path.{◌≡◌, refl, sym, ap, ◌∙◌}
use mathlib.Core.Bool.{Bool, true, false, ◌&&◌, ◌||◌}
use mathlib.Core.List.{List, [], ◌∷◌}
use Prim.Native.Nat.{ℕ, zero, suc, ◌+◌}
use lib.Dec.{eqb}
use lib.ListN.{get_or}
use borrow.Author.Tests.{eq-eqb, ne_eqb}
use Rattle.std.specs.List.{list_any, list_all, range_with_len}
use Rattle.rows.specs.declared.Pairs.{Pairs}
use Rattle.rows.specs.Rows.{Row, read_rows, pairs_left}
use Rattle.rename.specs.Rename.{set_word, set_words, ident_of, name_offset, offsets, is_binding, same_rows}

-- a row has the binding i
abbrev pub bound : ℕ → Row → Bool
bound i w = eqb w.right i

pub binding-any : (i : ℕ) (l : List Row) → list_any (bound i) l ≡ is_binding i l
unfolding is_binding
binding-any i [] = refl
binding-any i (w ∷ l) = ap (λ (b : Bool). bound i w || b) (binding-any i l)

-- rows that words hold are equal exactly if they are as many and each is equal
module _ (N : ℕ) (ws : List ℕ) (M : ℕ) (vs : List ℕ) where
  abbrev pub alike : ℕ → Bool
  alike i = eqb (get_or ws (1 + i) 0) (get_or vs (1 + i) 0) && eqb (get_or ws (1 + N + i) 0) (get_or vs (1 + M + i) 0)

  pub rows-all : (c i : ℕ) → list_all alike (range_with_len i c) ≡ same_rows (read_rows N ws c i) (read_rows M vs c i)
  unfolding read_rows same_rows
  rows-all zero i = refl
  rows-all (suc c) i = ap (λ (b : Bool). alike i && b) (rows-all c (i + 1))

  no-more : (a : Bool) → false ≡ (a && false)
  no-more true = refl
  no-more false = refl

  pub rows-fewer : (c d i : ℕ) → (c ≡ d → ⊥) → false ≡ same_rows (read_rows N ws c i) (read_rows M vs d i)
  unfolding read_rows same_rows
  rows-fewer zero zero i h = absurd (h refl)
  rows-fewer zero (suc d) i h = refl
  rows-fewer (suc c) zero i h = refl
  rows-fewer (suc c) (suc d) i h = no-more (alike i) ∙ ap (λ (b : Bool). alike i && b) (rows-fewer c d (i + 1) (λ q. h (ap suc q)))

-- names are put in for the rows that are left of a list: what is left, put in now, is the whole
module _ (img : List ℕ) (i x : ℕ) (l : List Row) (start : List ℕ) where
  own-words : (w : Row) (k : List Row) (bs : List ℕ) → w.right ≡ i → set_words (offsets img i (w ∷ k)) x bs ≡ set_words (offsets img i k) x (set_word bs (name_offset img (ident_of img w.left)) x)
  unfolding offsets set_words
  own-words w k bs e = ap (λ (b : Bool). set_words (elim b as (λ _. List ℕ) [ true ↦ name_offset img (ident_of img w.left) ∷ offsets img i k | false ↦ offsets img i k ]) x bs) (eq-eqb _ _ e)

  other-words : (w : Row) (k : List Row) (bs : List ℕ) → (w.right ≡ i → ⊥) → set_words (offsets img i (w ∷ k)) x bs ≡ set_words (offsets img i k) x bs
  unfolding offsets
  other-words w k bs e = ap (λ (b : Bool). set_words (elim b as (λ _. List ℕ) [ true ↦ name_offset img (ident_of img w.left) ∷ offsets img i k | false ↦ offsets img i k ]) x bs) (ne_eqb _ _ e)

  pub record Putting (p : Pairs) (bs : List ℕ) : Type 0 where
    pub left : set_words (offsets img i (pairs_left p)) x bs ≡ set_words (offsets img i l) x start

  pub put-start : {p : Pairs} → pairs_left p ≡ l → Putting p start
  put-start e = record { left = ap (λ (k : List Row). set_words (offsets img i k) x start) e }

  -- the next row has the binding, or another
  module _ {p q : Pairs} {w : Row} {bs : List ℕ} (h : Putting p bs) (more : pairs_left p ≡ w ∷ pairs_left q) where
    pub put-own : w.right ≡ i → {cs : List ℕ} → cs ≡ set_word bs (name_offset img (ident_of img w.left)) x → Putting q cs
    put-own e z =
        record { left = ap (set_words (offsets img i (pairs_left q)) x) z ∙ sym (own-words w (pairs_left q) bs e) ∙ ap (λ (k : List Row). set_words (offsets img i k) x bs) (sym more) ∙ h.left }

    pub put-other : (w.right ≡ i → ⊥) → Putting q bs
    put-other e = record { left = sym (other-words w (pairs_left q) bs e) ∙ ap (λ (k : List Row). set_words (offsets img i k) x bs) (sym more) ∙ h.left }

  pub put-end : {p : Pairs} {bs : List ℕ} → Putting p bs → pairs_left p ≡ [] → bs ≡ set_words (offsets img i l) x start
  unfolding offsets set_words
  put-end {bs = bs} h e = ap (λ (k : List Row). set_words (offsets img i k) x bs) (sym e) ∙ h.left
