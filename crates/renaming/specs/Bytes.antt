-- Lists of bytes.
use Rattle.std.specs.Prelude.{List, ℕ, ◌<◌, get_or}

-- every number of the list is a byte
abbrev pub Bytes : List ℕ → Type 0
Bytes xs = (k : ℕ) → get_or xs k 0 < 256
