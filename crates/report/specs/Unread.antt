-- What is printed where the input cannot be read.
use Rattle.std.specs.Prelude.{List, [], ◌∷◌, ℕ}

-- the line `unread`
abbrev pub unread_line : List ℕ
unread_line = 117 ∷ 110 ∷ 114 ∷ 101 ∷ 97 ∷ 100 ∷ 10 ∷ []
