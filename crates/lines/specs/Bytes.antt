-- The report as bytes: document 01's lines, each a word and its numbers after single spaces, ended by a newline.
use Rattle.std.specs.Prelude.{true, false, List, [], ◌∷◌, ◌++◌, ℕ, zero, suc, ◌+◌, ◌/◌, ◌%◌, ltb}
use Prim.Native.Char.{code}
use Prim.Native.String.{String, [] as end, ◌∷◌ as ◌before◌}
use Rattle.lines.specs.Report.{Line, resolved, error, var, end_ok, end_once, refusal, declared_twice, report}

-- the bytes of a text of ASCII characters
unfoldable pub text : String → List ℕ
text end = []
text (c before s) = code c ∷ text s

-- the decimal digits of a number, with no zero in front; c is above the number, so that it bounds how many there are
unfoldable pub digits_to : ℕ → ℕ → List ℕ
digits_to zero n = []
digits_to (suc c) n = elim (ltb n 10) [ true ↦ (48 + n) ∷ [] | false ↦ digits_to c (n / 10) ++ ((48 + n % 10) ∷ []) ]

unfoldable pub digits : ℕ → List ℕ
digits n = digits_to (suc n) n

-- numbers, each after a space, and the newline
unfoldable pub numbers : List ℕ → List ℕ
numbers [] = 10 ∷ []
numbers (n ∷ ns) = 32 ∷ (digits n ++ numbers ns)

abbrev pub line : String → List ℕ → List ℕ
line w ns = text w ++ numbers ns

unfoldable pub line_bytes : Line → List ℕ
line_bytes (resolved k y) = line "resolved" (k ∷ y ∷ [])
line_bytes (error number node) = line "error" (number ∷ node ∷ [])
line_bytes (var node binding) = line "var" (node ∷ binding ∷ [])
line_bytes (end_once node binding) = line "end once" (node ∷ binding ∷ [])
line_bytes end_ok = line "end ok" []
line_bytes (refusal number) = line "refused" (number ∷ [])
line_bytes (declared_twice name first second) = line "twice" (name ∷ first ∷ second ∷ [])

unfoldable pub lines_bytes : List Line → List ℕ
lines_bytes [] = []
lines_bytes (l ∷ ls) = line_bytes l ++ lines_bytes ls

-- what the report program prints of an image
unfoldable pub report_bytes : List ℕ → List ℕ
report_bytes img = lines_bytes (report img)
