-- What document 01's report says of an image, line by line.
use Rattle.std.specs.Prelude.{List, [], ◌∷◌, ◌++◌, ℕ, ◌+◌, take, drop}
use Rattle.ast.specs.Image.{nodes}
use Rattle.ast.specs.Answer.{Answer, refused, twice, result, located, other}
use Rattle.scopes.specs.Resolve.{resolve}
use Rattle.scopes.specs.Calls.{lent_table, lent_rows}
use Rattle.bindings.specs.Errors.{errors}
use Rattle.occurrences.specs.Occurrences.{occurrences, once}

pub data Line : Type 0 where
  resolved error var end_once : ℕ → ℕ → Line
  end_ok : Line
  refusal : ℕ → Line
  declared_twice : ℕ → ℕ → ℕ → Line

unfoldable pub zipped : (ℕ → ℕ → Line) → List ℕ → List ℕ → List Line
zipped f [] ys = []
zipped f (x ∷ xs) [] = []
zipped f (x ∷ xs) (y ∷ ys) = f x y ∷ zipped f xs ys

-- the rows that a call has written, as lines
unfoldable pub row_lines : (ℕ → ℕ → Line) → ℕ → Answer → List ℕ → List Line
unfolding zipped
row_lines f N (refused r) ws = []
row_lines f N (twice x a b) ws = []
row_lines f N (result a c) ws = zipped f (take c (drop 1 ws)) (take c (drop (1 + N) ws))
row_lines f N (located s k n) ws = []
row_lines f N (other a b) ws = []

unfoldable pub end_lines : Answer → List Line
end_lines (refused r) = []
end_lines (twice x a b) = []
end_lines (result a b) = end_ok ∷ []
end_lines (located s k n) = []
end_lines (other n b) = end_once n b ∷ []

-- the lines of the plain error rows, those of mode 1, and of the occurrences
abbrev pub error_lines : List ℕ → List Line
error_lines img = let e = errors img lent_table lent_rows 1 in row_lines error (nodes img) e.answer e.rows

abbrev pub var_lines : List ℕ → List Line
var_lines img = let o = occurrences img lent_table lent_rows in row_lines var (nodes img) o.answer o.rows

unfoldable pub body_lines : List ℕ → List Line
unfolding row_lines end_lines
body_lines img = error_lines img ++ (var_lines img ++ end_lines (once img lent_table).answer)

unfoldable pub lines_of : List ℕ → Answer → List Line
unfolding body_lines
lines_of img (refused r) = refusal r ∷ []
lines_of img (twice x a b) = declared_twice x a b ∷ []
lines_of img (result k y) = resolved k y ∷ body_lines img
lines_of img (located s k n) = []
lines_of img (other a b) = []

-- the report of an image
unfoldable pub report : List ℕ → List Line
unfolding lines_of
report img = lines_of img (resolve img lent_table).answer
