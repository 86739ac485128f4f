-- The rows of Errors and of Occurrences: a count, then two parallel arrays of N words.
use Rattle.std.specs.Prelude.{◌≡◌, Bool, true, false, List, [], ◌∷◌, ◌++◌, ℕ, zero, suc, ◌+◌, ◌*◌, ◌-◌, length, get_or, set, drop, replicate}
use Rattle.rows.specs.declared.Rows.{Rows}
use Rattle.rows.specs.declared.Written.{Written}
use Rattle.rows.specs.declared.Pairs.{Pairs}

-- an error number and its node, or an occurrence's node and its binding
pub record Row : Type 0 where
  pub left : ℕ
  pub right : ℕ

abbrev pub row : ℕ → ℕ → Row
row a b = record { left = a; right = b }

-- the row, where a test holds
unfoldable pub when : Bool → Row → List Row
when true w = w ∷ []
when false w = []

unfoldable pub lefts : List Row → List ℕ
lefts [] = []
lefts (w ∷ l) = w.left ∷ lefts l

unfoldable pub rights : List Row → List ℕ
rights [] = []
rights (w ∷ l) = w.right ∷ rights l

-- how many words rows need
abbrev pub rows_length : ℕ → ℕ
rows_length N = 1 + 2 * N

-- an array of N words, its unused places 0
unfoldable pub filled : ℕ → List ℕ → List ℕ
filled N xs = xs ++ replicate (N - length xs) 0

-- the lent words with the rows written; those past 1 + 2N are untouched
unfoldable pub written : ℕ → List Row → List ℕ → List ℕ
unfolding lefts rights filled
written N l old = length l ∷ (filled N (lefts l) ++ (filled N (rights l) ++ drop (rows_length N) old))

-- the first n words zero, the rest as it is
unfoldable pub cleared : ℕ → List ℕ → List ℕ
cleared n ws = replicate n 0 ++ drop n ws

-- the words with the rows l put in from the c-th on; a place that is not there takes no word
unfoldable pub put_rows : ℕ → ℕ → List Row → List ℕ → List ℕ
put_rows N c [] ws = ws
put_rows N c (w ∷ l) ws = put_rows N (c + 1) l (set (set ws (1 + c) w.left) (1 + N + c) w.right)

-- what a check does to lent rows: from the count c and the words ws it comes to r and vs, with the rows l appended
pub record Appended (N : ℕ) (l : List Row) (c : ℕ) (ws : List ℕ) (r : ℕ) (vs : List ℕ) : Type 0 where
  pub count : r ≡ c + length l
  pub words : vs ≡ put_rows N c l ws

-- the same of the code's rows, which stay in the words that were lent
pub record Appends (l : List Row) (old new : Rows) : Type 0 where
  pub appended : Appended old.nodes l old.count old.words.now new.count new.words.now
  pub nodes : new.nodes ≡ old.nodes
  pub lent : new.words.ghost_name ≡ old.words.ghost_name

-- where they start: none, of an image of N nodes, in the lent words of that name, which are ws
pub record Starts (name N : ℕ) (ws : List ℕ) (rows : Rows) : Type 0 where
  pub words : rows.words.now ≡ ws
  pub nodes : rows.nodes ≡ N
  pub count : rows.count ≡ 0
  pub lent : rows.words.ghost_name ≡ name

-- where they end: their count is handed back, and stands in front in the words ws that they leave
pub record Ends (rows : Rows) (r : ℕ) (ws : List ℕ) : Type 0 where
  pub count : r ≡ rows.count
  pub words : ws ≡ set rows.words.now 0 rows.count

-- what a call does to lent words: the rows l are written, and their count is handed back
pub record Wrote (N : ℕ) (l : List Row) (old : List ℕ) (r : ℕ) (new : List ℕ) : Type 0 where
  pub count : r ≡ length l
  pub words : new ≡ written N l old

-- the c rows from the i-th on, as the words have them
unfoldable pub read_rows : (N : ℕ) → List ℕ → (c i : ℕ) → List Row
read_rows N ws zero i = []
read_rows N ws (suc c) i = row (get_or ws (1 + i) 0) (get_or ws (1 + N + i) 0) ∷ read_rows N ws c (i + 1)

-- the rows that lent words hold: as many as the count in front says
abbrev pub held : ℕ → List ℕ → List Row
held N ws = read_rows N ws (get_or ws 0 0) 0

-- what is read is the rows so far
pub record Shows (rows : Rows) (w : Written) : Type 0 where
  pub words : w.words.now ≡ rows.words.now
  pub nodes : w.nodes ≡ rows.nodes
  pub count : w.count ≡ rows.count

-- the rows that are read
abbrev pub shown : Written → List Row
shown w = read_rows w.nodes w.words.now w.count 0

-- the two words of a row as the code hands them out
abbrev pub pair_row : ℕ × ℕ → Row
pair_row p = row p.0 p.1

-- the rows that are left to hand out
abbrev pub pairs_left : Pairs → List Row
pairs_left p = read_rows p.rows.nodes p.rows.words.now (p.rows.count - p.next) p.next
