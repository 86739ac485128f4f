-- Laws of the reads of an image.
use mathlib.Core.Path.{◌≡◌}
use mathlib.Core.List.{List}
use Prim.Native.Nat.{ℕ, ◌+◌, ◌*◌, ◌-◌, ◌<◌, ◌≤◌}
use lib.ListN.{length, get_or}
use borrow.Author.Tests.{le-leb, lt-leb, eq-eqb, ne_eqb}
use Rattle.ast.specs.Image.{word, kind_at, field, name_of}

module _ (img : List ℕ) where
  pub word_in : (o : ℕ) → o + 4 ≤ length img → word img o ≡ get_or img o 0 + 256 * get_or img (o + 1) 0 + 65536 * get_or img (o + 2) 0 + 16777216 * get_or img (o + 3) 0
  unfolding word
  word_in o h = rw (le-leb _ _ h, word)

  pub word_out : (o : ℕ) → length img < o + 4 → word img o ≡ 0
  unfolding word
  word_out o h = rw (lt-leb _ _ h, word)

  pub name-rule : (n : ℕ) → kind_at img n ≡ 6 → name_of img n ≡ field img n 0 - 1
  unfolding name_of
  name-rule n h = rw (eq-eqb _ _ h, name_of)

  pub name-arg : (n : ℕ) → kind_at img n ≡ 10 → name_of img n ≡ field img n 0 - 1
  unfolding name_of
  name-arg n h = rw (h, name_of) (rw (eq-eqb _ _ h))

  pub name-plain : (n : ℕ) → (kind_at img n ≡ 6 → ⊥) → (kind_at img n ≡ 10 → ⊥) → name_of img n ≡ field img n 0
  unfolding name_of
  name-plain n h k = rw (ne_eqb _ _ h, ne_eqb _ _ k, name_of)
