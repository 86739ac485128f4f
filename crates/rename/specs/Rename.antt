-- Document 02's S-7: the image with a variable renamed, and the call that writes it.
use Rattle.std.specs.Prelude.{Bool, true, false, ◌&&◌, ◌||◌, List, [], ◌∷◌, ◌++◌, ℕ, zero, suc, ◌+◌, ◌*◌, ◌/◌, ◌%◌, eqb, leb, ltb, length, set, drop}
use Rattle.ast.specs.Answer.{Answer, refused, twice, result, located, other}
use Rattle.ast.specs.Image.{nodes, names, start_at, field}
use Rattle.ast.specs.Tests.{◌▸◌, need}
use Rattle.rows.specs.Rows.{Row, read_rows}
use Rattle.scopes.specs.Calls.{lent_table, lent_rows, test_rows, RowsOutcome}
use Rattle.occurrences.specs.Occurrences.{occurrences}

-- the bytes with the little-endian word x stored at the offset o
unfoldable pub set_word : List ℕ → ℕ → ℕ → List ℕ
set_word bs o x = set (set (set (set bs o (x % 256)) (o + 1) (x / 256 % 256)) (o + 2) (x / 65536 % 256)) (o + 3) (x / 16777216)

-- at each of some offsets
unfoldable pub set_words : List ℕ → ℕ → List ℕ → List ℕ
unfolding set_word
set_words [] x bs = bs
set_words (o ∷ os) x bs = set_words os x (set_word bs o x)

module _ (img : List ℕ) where
  -- the IdentTerm under an occurrence: the one child of its Term or AppHead, after the case number
  abbrev pub ident_of : ℕ → ℕ
  ident_of n = field img n 1

  -- where the name word of an IdentTerm stands among the image's bytes: it is the first word of its row after the location
  abbrev pub name_offset : ℕ → ℕ
  name_offset m = 16 + 8 * nodes img + 4 * (start_at img m + 2)

  -- where the name words of the IdentTerms under the occurrences of the binding i stand
  unfoldable pub offsets : ℕ → List Row → List ℕ
  offsets i [] = []
  offsets i (w ∷ l) = elim (eqb w.right i) [ true ↦ name_offset (ident_of w.left) ∷ offsets i l | false ↦ offsets i l ]

  -- the new image, where l is the occurrence list: those words are x
  unfoldable pub renamed : List Row → (i x : ℕ) → List ℕ
  unfolding set_words offsets
  renamed l i x = set_words (offsets i l) x img

-- i is a binding of the list
unfoldable pub is_binding : ℕ → List Row → Bool
is_binding i [] = false
is_binding i (w ∷ l) = eqb w.right i || is_binding i l

-- equal row by row
unfoldable pub same_rows : List Row → List Row → Bool
same_rows [] [] = true
same_rows [] (v ∷ k) = false
same_rows (w ∷ l) [] = false
same_rows (w ∷ l) (v ∷ k) = (eqb w.left v.left && eqb w.right v.right) && same_rows l k

-- the occurrence list that Occurrences has left, as many rows as it answers
unfoldable pub list_left : List ℕ → RowsOutcome → List Row
list_left img o = elim o.answer [
  | refused r ↦ []
  | twice y a b ↦ []
  | result a c ↦ read_rows (nodes img) o.rows c 0
  | located s k n ↦ []
  | other a b ↦ []
]

-- the occurrence list of an image, as Occurrences leaves it in words of zeros; no row where it refuses the image or a name is declared twice, which is
-- so of no renamed image (crate renaming)
unfoldable pub occurrence_list : List ℕ → List Row
unfolding list_left occurrences
occurrence_list img = list_left img (occurrences img lent_table lent_rows)

-- the buffer tests: 1 to 14; an output shorter than the image counts as 14
unfoldable pub test_buffers : (img tab rows out : List ℕ) → ℕ
test_buffers img tab rows out = test_rows img tab rows ▸ need 14 (leb (length img) (length out))

-- after "twice", where l is the occurrence list. 19: i is no binding of it; 20: x is no name number; 21: the new image has another list
unfoldable pub test_rename : List ℕ → List Row → (i x : ℕ) → ℕ
unfolding is_binding renamed same_rows occurrence_list
test_rename img l i x = need 19 (is_binding i l) ▸ need 20 (ltb x (names img)) ▸ need 21 (same_rows (occurrence_list (renamed img l i x)) l)

-- an answer, and the words of the table and of the rows and the bytes of the output afterwards
pub record Outcome : Type 0 where
  pub answer : Answer
  pub table : List ℕ
  pub rows : List ℕ
  pub out : List ℕ

-- the output after these tests, by the first that refuses, 0 for none: the new image in front, or as it is
unfoldable pub out_after : List ℕ → List Row → (i x : ℕ) → List ℕ → ℕ → List ℕ
unfolding renamed
out_after img l i x out zero = renamed img l i x ++ drop (length img) out
out_after img l i x out (suc r) = out

-- the answer then: the length of the new image, which is that of the old, or the refusal
abbrev pub answer_after : List ℕ → ℕ → Answer
answer_after img zero = result 0 (length img)
answer_after img (suc r) = refused (suc r)

module _ (img : List ℕ) (i x : ℕ) (out : List ℕ) where
  -- beside the table and the rows that Occurrences leaves, by its answer. Where that is no result, it is passed on
  unfoldable pub after_list : RowsOutcome → Answer → Outcome
  unfolding test_rename out_after list_left
  after_list o (refused r) = record { answer = refused r; table = o.table; rows = o.rows; out = out }
  after_list o (twice y a b) = record { answer = twice y a b; table = o.table; rows = o.rows; out = out }
  after_list o (located s k n) = record { answer = located s k n; table = o.table; rows = o.rows; out = out }
  after_list o (other a b) = record { answer = other a b; table = o.table; rows = o.rows; out = out }
  after_list o (result a c) =
      let l = list_left img o in
      let r = test_rename img l i x in
      record { answer = answer_after img r; table = o.table; rows = o.rows; out = out_after img l i x out r }

module _ (img tab rows : List ℕ) (i x : ℕ) (out : List ℕ) where
  -- by the buffer tests: a refusal alters nothing
  unfoldable pub after_buffers : ℕ → Outcome
  unfolding after_list occurrences
  after_buffers zero = let o = occurrences img tab rows in after_list img i x out o o.answer
  after_buffers (suc r) = record { answer = refused (suc r); table = tab; rows = rows; out = out }

  -- the call
  unfoldable pub rename : Outcome
  unfolding test_buffers after_buffers
  rename = after_buffers (test_buffers img tab rows out)
