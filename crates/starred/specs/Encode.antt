-- Images for the small rule files of document 01, written as rows and names.
use Rattle.std.specs.Prelude.{List, [], ◌∷◌, ◌++◌, ℕ, ◌+◌, ◌/◌, ◌%◌, length}

-- a rule file: each row as its kind and the words after its two location words, which are 0; each name as its bytes
pub record File : Type 0 where
  pub rows : List (List ℕ)
  pub names : List (List ℕ)

unfoldable pub bytes_of : List ℕ → List ℕ
bytes_of [] = []
bytes_of (w ∷ ws) = w % 256 ∷ w / 256 % 256 ∷ w / 65536 % 256 ∷ w / 16777216 ∷ bytes_of ws

unfoldable pub kinds_of : List (List ℕ) → List ℕ
kinds_of [] = []
kinds_of ([] ∷ rs) = kinds_of rs
kinds_of ((k ∷ ws) ∷ rs) = k ∷ kinds_of rs

-- where each row starts, from the place p on
unfoldable pub starts_of : ℕ → List (List ℕ) → List ℕ
starts_of p [] = []
starts_of p ([] ∷ rs) = starts_of p rs
starts_of p ((k ∷ ws) ∷ rs) = p ∷ starts_of (p + 2 + length ws) rs

unfoldable pub words_of : List (List ℕ) → List ℕ
words_of [] = []
words_of ([] ∷ rs) = words_of rs
words_of ((k ∷ ws) ∷ rs) = 0 ∷ 0 ∷ (ws ++ words_of rs)

-- where each name ends, from the place p on
unfoldable pub ends_of : ℕ → List (List ℕ) → List ℕ
ends_of p [] = []
ends_of p (n ∷ ns) = (p + length n) ∷ ends_of (p + length n) ns

unfoldable pub joined : List (List ℕ) → List ℕ
joined [] = []
joined (n ∷ ns) = n ++ joined ns

-- the image: sizes, kinds, starts, operand words, name ends, name bytes
unfoldable pub encode : File → List ℕ
unfolding bytes_of kinds_of starts_of words_of ends_of joined
encode f =
    bytes_of
    (length f.rows ∷ length (words_of f.rows) ∷ length f.names ∷ length (joined f.names)
    ∷ (kinds_of f.rows ++ (starts_of 0 f.rows ++ (words_of f.rows ++ ends_of 0 f.names))))
    ++ joined f.names
